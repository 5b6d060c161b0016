use Rattle.std.proofs.Common.{refl}
use Rattle.shipped.specs.Pdp11.{pdp11_lines}
use Rattle.shipped.proofs.pdp11.pdp11.Goals as goal

pub returns : goal.returns
unfolding pdp11_lines
returns c = refl
