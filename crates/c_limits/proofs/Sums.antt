-- Sums that stop at a limit are above a lesser number where the sums are.
use Rattle.std.proofs.Common.{◌≡◌, ℕ, ◌+◌, ◌-◌, ◌^◌, ◌<◌, min, nat_lt, Bool, true, false, arith}
use Rattle.std.proofs.lemmas.Bool.Decides.{nat_tests}
use Rattle.c_limits.specs.Sums.{capped}

pub above_capped : (m x : ℕ) → m < 2 ^ 40 → nat_lt m (capped x) ≡ nat_lt m x
above_capped m x small = grind (arith, nat_tests, small)

pub capped_twice : (x y : ℕ) → capped (capped x + y) ≡ capped (x + y)
capped_twice x y = omega arith
