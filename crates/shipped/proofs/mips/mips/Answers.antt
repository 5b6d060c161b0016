use Rattle.std.proofs.Common.{refl}
use Rattle.shipped.specs.Mips.{mips_lines}
use Rattle.shipped.proofs.mips.mips.Goals as goal

pub returns : goal.returns
unfolding mips_lines
returns c = refl
