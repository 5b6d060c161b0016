use Rattle.std.proofs.Common.{rules}
use Rattle.rtl_norm.proofs.Rewrites.{fits_alone}
use Rattle.rtl_simplify.proofs.steps.apply.Goals as goal

pub minus-requires : goal.minus-requires
minus-requires g c = search (rules, fits_alone) depth 9

pub join-requires : goal.join-requires
join-requires g c = search (rules, fits_alone) depth 12
