use Rattle.std.proofs.Common.{◌≡◌, arith}
use Rattle.std.proofs.lemmas.Bool.Decides.{nat_tests}
use Rattle.std.proofs.lemmas.Nat.Bits.{bit_at_above}
use Rattle.std.specs.Int.{bit_at}
use Rattle.md_match.proofs.fitting.has_bit.Goals as goal

pub returns-else-member-lt64 : goal.returns-else-member-lt64
returns-else-member-lt64 c =
    let above : bit_at c.args.set c.args.member ≡ 0 = bit_at_above c.args.set 64 c.args.member c.ranges.set.fits c.if-member-lt64.false in
    grind (arith, nat_tests, above, c.if-member-lt64.false)
