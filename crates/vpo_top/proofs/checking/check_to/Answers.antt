use Rattle.std.proofs.Common.{Some, refl}
use Rattle.vp_io.specs.declared.answers.Which.TheVariants.{Description}
use Rattle.vpo_top.specs.Request.Asked.{Check}
use Rattle.vpo_top.proofs.Counts.{one_counted}
use Rattle.vpo_top.proofs.checking.check_to.Goals as goal

pub returns-in-Err-clause-fetched : goal.returns-in-Err-clause-fetched
returns-in-Err-clause-fetched g c = one_counted (Some (Check c.args.description.now)) Description _ _ _ refl c.in-Err.ensures.fetched

pub returns-in-Ok-write_whole-clause-fetched : goal.returns-in-Ok-write_whole-clause-fetched
returns-in-Ok-write_whole-clause-fetched g c = one_counted (Some (Check c.args.description.now)) Description _ _ _ refl c.in-Ok.ensures.fetched

pub returns-clause-fetched : goal.returns-clause-fetched
returns-clause-fetched g c = one_counted (Some (Check c.args.description.now)) Description _ _ _ refl c.in-Ok.ensures.fetched
