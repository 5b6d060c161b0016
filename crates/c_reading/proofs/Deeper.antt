-- A reading with calls left is one step.
use Rattle.std.proofs.Common.{◌≡◌, ℕ, zero, suc, ◌<◌, ◌-◌, Bool, List, refl, arith}
use Rattle.c_grammar.specs.Words.{Lexeme}
use Rattle.c_reading.specs.Expressions.{Goal, read, step}

pub deeper : (T : ℕ → Bool) (d : ℕ) (g : Goal) (n : ℕ) (ts : List Lexeme) → 0 < d → read T d g n ts ≡ step T (read T (d - 1)) g n ts
deeper T zero g n ts h = absurd (omega (arith, h))
deeper T (suc d) g n ts h = let same : suc d - 1 ≡ d = omega arith in rw same refl
