use Rattle.std.proofs.Common.{subst}
use Rattle.md_rules.specs.Broken.{IsFirst}
use Rattle.md_reader.proofs.Joined.{told_before, told_behind}
use Rattle.md_reader.proofs.told.first_of.Goals as goal

pub returns-in-Some : goal.returns-in-Some
returns-in-Some c = λ low next high d l n p q. told_before low next high d c.in-Some.told n (subst (IsFirst low next d) c.in-Some.is p)

pub returns-in-None : goal.returns-in-None
returns-in-None c = λ low next high d l n p q. told_behind low next high d c.args.second l (subst (IsFirst low next d) c.in-None.is p) q
