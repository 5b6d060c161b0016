use Rattle.std.proofs.Common.{◌≡◌, arith}
use Rattle.std.proofs.lemmas.Bool.Decides.{nat_tests}
use Rattle.std.proofs.lemmas.Nat.Bits.{bit_at_above}
use Rattle.std.specs.Int.{bit_at}
use Rattle.md_overlap.proofs.holes.is_in.Goals as goal

pub returns-else-number-lt64 : goal.returns-else-number-lt64
returns-else-number-lt64 c =
    let above : bit_at c.args.class c.args.number ≡ 0 = bit_at_above c.args.class 64 c.args.number c.ranges.class.fits c.if-number-lt64.false in
    grind (arith, nat_tests, above, c.if-number-lt64.false)
