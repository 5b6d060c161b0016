use Rattle.std.proofs.Common.{◌≡◌, arith}
use Rattle.std.proofs.lemmas.Bool.Decides.{nat_tests}
use Rattle.std.proofs.lemmas.Nat.Bits.{bit_at_above}
use Rattle.std.specs.Int.{bit_at}
use Rattle.rtl_tree.proofs.cell_sets.has_bit.Goals as goal

pub returns-else-n-lt64 : goal.returns-else-n-lt64
returns-else-n-lt64 c =
    let above : bit_at c.args.bits c.args.n ≡ 0 = bit_at_above c.args.bits 64 c.args.n c.ranges.bits.fits c.if-n-lt64.false in
    grind (arith, nat_tests, above, c.if-n-lt64.false)
