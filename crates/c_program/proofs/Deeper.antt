-- A reading of statements with calls left is one step.
use Rattle.std.proofs.Common.{◌≡◌, ℕ, zero, suc, ◌<◌, ◌-◌, Bool, List, refl, arith}
use Rattle.c_grammar.specs.Words.{Lexeme}
use Rattle.c_tree.specs.declared.syntax.Statement.{Statement}
use Rattle.c_program.specs.Statements.{statements, statements_step}

pub one_deeper : (T : ℕ → Bool) (d n : ℕ) (ts : List Lexeme) → 0 < d → (statements T d).one n ts ≡ (statements_step T (d - 1) (statements T (d - 1))).one n ts
one_deeper T zero n ts h = absurd (omega (arith, h))
one_deeper T (suc d) n ts h = let same : suc d - 1 ≡ d = omega arith in rw same refl

pub rest_deeper : (T : ℕ → Bool) (d : ℕ) (ss : List Statement) (n : ℕ) (ts : List Lexeme) → 0 < d → (statements T d).rest ss n ts ≡ (statements_step T (d - 1) (statements T (d - 1))).rest ss n ts
rest_deeper T zero ss n ts h = absurd (omega (arith, h))
rest_deeper T (suc d) ss n ts h = let same : suc d - 1 ≡ d = omega arith in rw same refl
