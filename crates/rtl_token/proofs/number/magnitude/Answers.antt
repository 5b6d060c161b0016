use Rattle.std.proofs.Common.{◌≡◌, ℕ, ◌+◌, ◌-◌, ◌*◌, ◌^◌, arith, get_or, take}
use Rattle.std.specs.Prelude.{min}
use Rattle.std.specs.Str.Parse.{digits_value}
use Rattle.rtl_token.proofs.Numbers.{one_digit}
use Rattle.rtl_token.proofs.number.magnitude.Goals as goal

pub loop-digit-preserved : goal.loop-digit-preserved
loop-digit-preserved c =
    let ds = c.args.digits.now in
    let n : ℕ = c.loop-digit.digit-index in
    let v : ℕ = c.loop-digit.value in
    let step : min (v * 10 + (get_or ds n 0 - 48)) (2 ^ 33) ≡ min (digits_value 10 (take (n + 1) ds)) (2 ^ 33) =
    one_digit ds n v c.loop-digit.invariant c.loop-digit-test.true (c.requires n 0 c.loop-digit-test.true) in
    omega arith
