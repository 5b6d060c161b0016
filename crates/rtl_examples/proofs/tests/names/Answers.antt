use Rattle.std.proofs.Common.{◌≡◌, ℕ, ◌<◌, get_or, sym, ap, ◌∙◌, arith}
use Rattle.rtl_examples.proofs.tests.names.Goals as goal

-- two numbers that differ are not one
apart : (m n : ℕ) → m < n → n ≡ m → ⊥
apart m n l e = omega arith

-- no name begins with `x` and with `m`
pub returns : goal.returns
returns c = λ name p q. apart 109 120 (omega arith) (ap (λ b. get_or b 0 0) (sym (c.in_ok-objects.ensures name p) ∙ c.in_ok-functions.ensures name q))
