-- Operations that keep at most one temporary of each depth live, and operations that don't.
use Rattle.std.specs.Prelude.{ℕ, ◌==◌, if◌then◌else◌, List, [], ◌∷◌}
use Rattle.rtl_word.specs.declared.Rel.TheVariants.{Ne}
use Rattle.naive_code.specs.Operations.{Falls, Jumps, Branches, Op, Close, constant, add}
use Rattle.naive_live.specs.Live.{Lives}
use Rattle.naive_live.specs.Function.{numbered}

-- 7+8
abbrev pub sum : List Op
sum = constant 0 7 ∷ constant 1 8 ∷ add 0 1 ∷ []

-- `1?7:8` by temporary 2 at depth 0, of which the other parts are one deeper: label 0 begins what is chosen where the test fails, label 1 what
-- is where it doesn't, and label 2 what follows both
abbrev pub choice : List Op
choice =
    constant 0 1 ∷ constant 1 0 ∷ Close (Branches Ne 0 1 0) 1 ∷ (constant 2 7 ∷ Close (Jumps 2) 0 ∷ (constant 2 8 ∷ Close Falls 2 ∷ []))

abbrev pub behind : ℕ → List ℕ
behind l = if l == 2 then 2 ∷ [] else []

pub record Worked : Type 0 where
  pub sum_lives : Lives (numbered 0 (0 ∷ 1 ∷ [])) 0 (λ l. []) [] sum (0 ∷ [])
  -- of one depth they are live at once
  pub sum_refused : (live : List ℕ) → Lives (numbered 0 (0 ∷ 0 ∷ [])) 0 (λ l. []) [] sum live → ⊥
  pub choice_lives : Lives (numbered 0 (1 ∷ 2 ∷ 0 ∷ [])) 0 behind [] choice (2 ∷ [])
