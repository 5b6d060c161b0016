use Rattle.rtl_effect.proofs.Works.{swaps, unset_divided as divided, unset_stored as stored, prints_and_ends as printed, number_is_no_target as aimed}
use Rattle.rtl_effect.proofs.worked.worked_effects.Goals as goal

pub returns-clause-swap : goal.returns-clause-swap
returns-clause-swap c = swaps

pub returns-clause-unset_divided : goal.returns-clause-unset_divided
returns-clause-unset_divided c = divided

pub returns-clause-unset_stored : goal.returns-clause-unset_stored
returns-clause-unset_stored c = stored

pub returns-clause-prints_and_ends : goal.returns-clause-prints_and_ends
returns-clause-prints_and_ends c = printed

pub returns-clause-number_is_no_target : goal.returns-clause-number_is_no_target
returns-clause-number_is_no_target c = aimed
