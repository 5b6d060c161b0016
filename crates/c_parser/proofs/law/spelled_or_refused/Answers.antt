use Rattle.c_parser.proofs.Refusals.{no_tree_is_refused, spelled_or_refused}
use Rattle.c_parser.proofs.law.spelled_or_refused.Goals as goal

pub returns-clause-either : goal.returns-clause-either
returns-clause-either c = spelled_or_refused

pub returns-clause-never_both : goal.returns-clause-never_both
returns-clause-never_both c = no_tree_is_refused
