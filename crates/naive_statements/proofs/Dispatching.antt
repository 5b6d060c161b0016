-- A switch compares its value with that of each case in turn (C11 6.8.4.2).
use Rattle.std.proofs.Common.{◌≡◌, ◌≢◌, ℕ, ◌+◌, ◌<◌, List, [], ◌∷◌, Option, Some, None, refl, ◌∙◌, arith, true, false}
use Rattle.std.specs.Prelude.{Bool, ◌==◌, if◌then◌else◌}
use Rattle.rtl_word.specs.declared.Rel.TheVariants.{Eq}
use Rattle.rtl_tree.specs.declared.cells.Cell.TheVariants.{Temp}
use Rattle.md_shapes.specs.Shapes.{Frame as Fixed}
use Rattle.c_tree.specs.declared.typed.Object.{Object as Thing}
use Rattle.c_tree.specs.declared.typed.Function.{Function}
use Rattle.c_tree.specs.declared.typed.Typed.{Typed}
use Rattle.temp_machine.specs.Routines.{Image, Target}
use Rattle.temp_machine.specs.Live.{Place}
use Rattle.temp_machine.specs.Small.{Point}
use Rattle.naive_code.specs.Expressions.{Site}
use Rattle.naive_code.specs.Statements.{dispatched}
use Rattle.naive_step.proofs.Making.{Call, Inside, At}
use Rattle.naive_step.proofs.Acts.{SetsTemp}
use Rattle.naive_step.proofs.Ends.{Opens, begin_of}
use Rattle.naive_assigned.proofs.Ready.{Ready}
use Rattle.naive_assigned.proofs.Working.{Works, works_refl, works_trans, works_fewer, works_fresh, works_sets}
use Rattle.naive_values.proofs.Getting.{To, Ops, to_here, to_then, to_as, sets_number}
use Rattle.naive_values.proofs.Asked.{block_at}
use Rattle.naive_tests.proofs.Tests.{branched, works_opens}

-- the first case that has the value
abbrev pub chosen_case : ℕ → List (Option ℕ × ℕ) → Option ℕ
chosen_case v [] = None
chosen_case v ((Some x, k) ∷ rest) = if v == x then Some k else chosen_case v rest
chosen_case v ((None, k) ∷ rest) = chosen_case v rest

module _ (t : Target) (u : Image) (m : Fixed) (source : Typed) (f : Function) (k : Call) (ready : Ready t u m source f k) (n : ℕ) (site : Site) (locals : List Thing) where
  abbrev Work : ℕ → ℕ → Point → Point → Type 0
  Work = Works t u m source f k

  -- its label's block; else behind the comparisons
  abbrev pub goes_to : ℕ → Place → Option ℕ → Place
  goes_to base q None = q
  goes_to base q (Some j) = begin_of (block_at t u m source f k ready (base + j))

  pub dispatches : (cases : List (Option ℕ × ℕ)) (r base temp label v : ℕ) (p q : Place) (c : Point) → r < temp → Inside t u k c → At t u p c → c.view.cells (Temp r) ≡ Some v
      → Ops t u m source f k ready (dispatched site locals r base temp label cases) p q → To t u m source f k ready (goes_to base q (chosen_case v cases)) (Work temp temp c) c
  dispatches [] r base temp label v p q c lt i at holds last = to_here t u m source f k ready p q (Work temp temp c) c last i at (works_refl t u m source f k temp temp c)
  dispatches ((None, j) ∷ rest) r base temp label v p q c lt i at holds ops = dispatches rest r base temp label v p q c lt i at holds ops
  dispatches ((Some x, j) ∷ rest) r base temp label v p q c lt i at holds (p1, set, (p2, branch, more)) =
      by_test (λ w i2 at2 h. dispatches rest r base (temp + 1) (label + 1) v p2 q w (omega (arith, lt)) i2 at2 h more) (v == x) refl
    where
      ne : r ≢ temp
      ne e = omega (arith, e, lt)

      set_here : To t u m source f k ready p1 (SetsTemp temp (Some x) c) c
      set_here = sets_number t u m source f k ready p p1 c i at temp x set

      by_test : ((w : Point) → Inside t u k w → At t u p2 w → w.view.cells (Temp r) ≡ Some v → To t u m source f k ready (goes_to base q (chosen_case v rest)) (Work (temp + 1) (temp + 1) w) w)
          → (b : Bool) → (v == x) ≡ b → To t u m source f k ready (goes_to base q (if b then Some j else chosen_case v rest)) (Work temp temp c) c
      by_test ih true e =
          to_then t u m source f k ready p1 (begin_of (block_at t u m source f k ready (base + j))) (SetsTemp temp (Some x) c) (Work temp temp c) c set_here
          (λ d i' at' g.
          to_as t u m source f k ready (begin_of (block_at t u m source f k ready (base + j))) (Opens d) (Work temp temp c) d (branched t u m source f k ready n Eq r temp (base + j) label v x p1 p2 d i' at' (g.others r ne ∙ holds) g.temp branch true e)
          (λ w o. works_trans t u m source f k temp temp c d w (works_sets t u m source f k temp temp (Some x) c d g) (works_opens t u m source f k ready n temp temp d w o)))
      by_test ih false e =
          to_then t u m source f k ready p1 (goes_to base q (chosen_case v rest)) (SetsTemp temp (Some x) c) (Work temp temp c) c set_here
          (λ d i' at' g.
          to_as t u m source f k ready (goes_to base q (chosen_case v rest)) (Work temp temp d) (Work temp temp c) d
          (to_then t u m source f k ready p2 (goes_to base q (chosen_case v rest)) (Opens d) (Work temp temp d) d
          (branched t u m source f k ready n Eq r temp (base + j) label v x p1 p2 d i' at' (g.others r ne ∙ holds) g.temp branch false e)
          (λ w i2 at2 o.
          to_as t u m source f k ready (goes_to base q (chosen_case v rest)) (Work (temp + 1) (temp + 1) w) (Work temp temp d) w
          (ih w i2 at2 (o.temps r ∙ (g.others r ne ∙ holds)))
          (λ y h. works_trans t u m source f k temp temp d w y (works_opens t u m source f k ready n temp temp d w o)
          (works_fewer t u m source f k temp (temp + 1) temp w y (omega arith) (works_fresh t u m source f k (temp + 1) temp (temp + 1) w y (omega arith) h)))))
          (λ w h. works_trans t u m source f k temp temp c d w (works_sets t u m source f k temp temp (Some x) c d g) h))
