-- Codes by their numbers, and where the labels of each begin.
use Rattle.std.proofs.Common.{◌≡◌, ℕ, zero, suc, ◌+◌, ◌<◌, ◌≤◌, ◌==◌, Bool, true, false, if◌then◌else◌, List, [], ◌∷◌, Some, None, refl, sym, ap, subst, ◌∙◌, arith}
use Rattle.std.specs.Prelude.{slice_get}
use Rattle.std.proofs.lemmas.Bool.{true≢false}
use Rattle.std.proofs.lemmas.Bool.Decides.{nat_tests}
use Rattle.std.proofs.lemmas.Option.{same_Some, none-some}
use Rattle.md_rows.specs.declared.description.RawDescription.{RawDescription}
use Rattle.md_shapes.specs.Shapes.{Frame as Fixed}
use Rattle.c_tree.specs.declared.typed.Function.{Function}
use Rattle.c_tree.specs.declared.typed.Typed.{Typed}
use Rattle.temp_machine.specs.Routines.{Routine}
use Rattle.temp_code.specs.declared.code.Code.{Code}
use Rattle.temp_code.specs.Routines.{routine_of, routine_in}
use Rattle.naive_code.specs.Functions.{function_labels}
use Rattle.naive_forms.specs.Codes.{IsNaive}
use Rattle.naive_units.specs.Units.{AreNaiveFrom}

-- the routine of a number is that of the code that has it
chosen : (b : Bool) (x y : Routine) → b ≡ true → (if b then x else y) ≡ x
chosen true x y e = refl
chosen false x y e = absurd (true≢false (sym e))

passed : (b : Bool) (x y : Routine) → b ≡ false → (if b then x else y) ≡ y
passed false x y e = refl
passed true x y e = absurd (true≢false e)

is_number : (a n k : ℕ) → a ≡ n → k ≡ n → a == k ≡ true
is_number a n k e h = grind (arith, nat_tests, e, h)

is_other : (a n k j : ℕ) → a ≡ n → k ≡ n + suc j → a == k ≡ false
is_other a n k j e h = grind (arith, nat_tests, e, h)

pub routine_here : (c : Code) (cs : List Code) (n k : ℕ) → c.function ≡ n → k ≡ n + 0 → routine_in (c ∷ cs) k ≡ routine_of c
routine_here c cs n k e h = chosen (c.function == k) (routine_of c) (routine_in cs k) (is_number c.function n k e (omega (arith, h)))

pub routine_behind : (c : Code) (cs : List Code) (n k j : ℕ) → c.function ≡ n → k ≡ n + suc j → routine_in (c ∷ cs) k ≡ routine_in cs k
routine_behind c cs n k j e h = passed (c.function == k) (routine_of c) (routine_in cs k) (is_other c.function n k j e h)

module _ (kept : List ℕ) (d : RawDescription) (m : Fixed) (t : Typed) where
  abbrev labels : Function → ℕ
  labels f = function_labels kept d.word t f

  -- where the labels of a function begin
  abbrev pub first_of : List Function → (label number : ℕ) → ℕ
  first_of [] l g = l
  first_of (f ∷ fs) l zero = l
  first_of (f ∷ fs) l (suc g) = first_of fs (l + labels f) g

  least : (fs : List Function) (l g : ℕ) → l ≤ first_of fs l g
  least [] l g = omega arith
  least (f ∷ fs) l zero = omega arith
  least (f ∷ fs) l (suc g) = let k = least fs (l + labels f) g in omega (arith, k)

  pub apart : (fs : List Function) (l g h : ℕ) (f : Function) → g < h → slice_get fs g ≡ Some f → first_of fs l g + labels f ≤ first_of fs l h
  apart [] l g h f lt e = absurd (none-some f e)
  apart (x ∷ fs) l zero zero f lt e = absurd (omega (arith, lt))
  apart (x ∷ fs) l zero (suc h) f lt e = subst (λ (y : Function). l + labels y ≤ first_of fs (l + labels x) h) (same_Some x f e) (least fs (l + labels x) h)
  apart (x ∷ fs) l (suc g) zero f lt e = absurd (omega (arith, lt))
  apart (x ∷ fs) l (suc g) (suc h) f lt e = apart fs (l + labels x) g h f (omega (arith, lt)) e

  abbrev Found : (f : Function) → ℕ → Routine → Type 0
  Found f l r = (c : Code) × IsNaive kept d m t f l c × (r ≡ routine_of c)

  pub code_at : (n l : ℕ) (fs : List Function) (cs : List Code) (g k : ℕ) (f : Function) → k ≡ n + g → AreNaiveFrom kept d m t n l fs cs → slice_get fs g ≡ Some f
      → Found f (first_of fs l g) (routine_in cs k)
  code_at n l [] [] g k f q a e = absurd (none-some f e)
  code_at n l (x ∷ fs) (c ∷ cs) zero k f q a e =
      subst (λ (y : Function). Found y l (routine_in (c ∷ cs) k)) (same_Some x f e) (c, a.1, routine_here c cs n k a.0 q)
  code_at n l (x ∷ fs) (c ∷ cs) (suc g) k f q a e =
      subst (Found f (first_of fs (l + labels x) g)) (sym (routine_behind c cs n k g a.0 q)) (code_at (suc n) (l + labels x) fs cs g k f (omega (arith, q)) a.2 e)
  code_at n l [] (c ∷ cs) g k f q a e = absurd a
  code_at n l (x ∷ fs) [] g k f q a e = absurd a

  pub none_at : (n l : ℕ) (fs : List Function) (cs : List Code) (g k : ℕ) → k ≡ n + g → AreNaiveFrom kept d m t n l fs cs → slice_get fs g ≡ None
      → (routine_in cs k).blocks ≡ []
  none_at n l [] [] g k q a e = refl
  none_at n l (x ∷ fs) (c ∷ cs) zero k q a e = absurd (none-some x (sym e))
  none_at n l (x ∷ fs) (c ∷ cs) (suc g) k q a e =
      ap (λ (r : Routine). r.blocks) (routine_behind c cs n k g a.0 q) ∙ none_at (suc n) (l + labels x) fs cs g k (omega (arith, q)) a.2 e
  none_at n l [] (c ∷ cs) g k q a e = absurd a
  none_at n l (x ∷ fs) [] g k q a e = absurd a
