use Rattle.std.proofs.Common.{rules, ◌≡◌, ℕ, subst, arith, Fits, w8}
use Rattle.recogniser.specs.Searching.{HasBitsBelow}
use Rattle.recogniser.proofs.BitsBelow.{one_more_bit, all_bits}
use Rattle.recogniser.proofs.flags.flags_of.Goals as goal

pub loop-flag-preserved : goal.loop-flag-preserved
loop-flag-preserved c = one_more_bit c.args.set.flags c.loop-flag.flags c.flag_bit-flags.result c.loop-flag.flag c.loop-flag.invariant c.flag_bit-flags.ensures

pub returns : goal.returns
returns c =
    let all : c.loop-flag.flag ≡ 8 = omega (arith, c.loop-flag-test.false, c.loop-flag.auto.flag-end) in
    let fits : Fits w8 c.args.set.flags = search rules in
    all_bits c.args.set.flags c.loop-flag.flags 8 c.loop-flag.auto.flags-fits.fits fits.fits
    (subst (λ (n : ℕ). HasBitsBelow c.args.set.flags c.loop-flag.flags n) all c.loop-flag.invariant)
