-- The temporaries of a binding that are in their homes: which they are, and that they are as few as its registers.
use Rattle.std.proofs.Common.{◌≡◌, ◌≢◌, ℕ, zero, suc, ◌+◌, max, ◌≤◌, ◌==◌, ◌||◌, Bool, true, false, if◌then◌else◌, List, [], ◌∷◌, ◌++◌, length, slice_get, Option, Some, None, IsTrue, refl, sym, ap, subst, ◌∙◌, arith}
use Rattle.std.specs.Prelude.{is_some, count_by}
use Rattle.std.proofs.lemmas.Bool.{eqb-true}
use Rattle.std.proofs.lemmas.List.{length-append}
use Rattle.std.proofs.lemmas.List.Sums.{sum_by-cons}
use Rattle.rtl_tree.specs.declared.cells.Cell.TheVariants.{Hard, Temp, Flag, Pc, Input, Output, Halt, Hole as RegisterHole}
use Rattle.md_rows.specs.declared.row.Hole.{Hole}
use Rattle.md_rows.specs.declared.row.Hole.TheVariants.{Reg as RegHole, Num as NumHole, Sym as SymHole, Label as LabelHole}
use Rattle.md_rows.specs.declared.row.Row.{Row}
use Rattle.md_rows.specs.declared.instance.Bound.{Bound}
use Rattle.md_rows.specs.declared.instance.Bound.TheVariants.{Reg, Num, Sym, Label}
use Rattle.md_rows.specs.Fits.{fits}
use Rattle.md_rows.specs.Instances.{AllFit}
use Rattle.md_check.specs.Accepted.{is_register_hole, most_registers}
use Rattle.md_filled.proofs.Doing.{none_some, some_same}
use Rattle.temp_machine.specs.Tidy.{is_among}
use Rattle.color_code.specs.Colors.{Seats}
use Rattle.color_homes.specs.Spilled.{with_spilled, spilled_in, scratch_for}
use Rattle.color_homes.proofs.Lists.{false_true, true_false, by_bool, or_left, or_right, or_cases, among_here, among_left, among_right, among_both, AreApart, apart_more}

-- a temporary stands in a binding
pub record Holds (k : ℕ) (b : List Bound) : Type 0 where
  pub place : ℕ
  pub is : slice_get b place ≡ Some (Reg (Temp k))

holds_later : (k : ℕ) (v : Bound) (b : List Bound) → Holds k b → Holds k (v ∷ b)
holds_later k v b h = record { place = suc h.place; is = h.is }

seated : (o : Option ℕ) → is_some o ≡ false → o ≡ None
seated None e = refl
seated (Some r) e = true_false e

module _ (seats : Seats) where
  abbrev Inside : List ℕ → List Bound → Type 0
  Inside ks b = (k : ℕ) → is_among k ks ≡ true → Holds k b × (seats k ≡ None)

  inside_more : (v : Bound) (b : List Bound) (ks : List ℕ) → Inside ks b → Inside ks (v ∷ b)
  inside_more v b ks h k e = let q = h k e in (holds_later k v b q.0, q.1)

  inside_next : (v : Bound) (b : List Bound) (ks : List ℕ) → Inside ks b → Inside (with_spilled seats ks v) (v ∷ b)
  inside_next (Reg (Temp j)) b ks h = by (is_some (seats j) || is_among j ks) refl
    where
      added : is_some (seats j) ≡ false → Inside (ks ++ j ∷ []) (Reg (Temp j) ∷ b)
      added f k e =
          among_both k ks (j ∷ []) e (λ g. inside_more (Reg (Temp j)) b ks h k g)
          (λ g. or_cases (j == k) false g (λ q. (let same = eqb-true j k q in (
            record { place = 0; is = ap (λ (n : ℕ). Some (Reg (Temp n))) same },
            subst (λ (n : ℕ). seats n ≡ None) same (seated (seats j) f),
          ))) false_true)

      by : (c : Bool) → (is_some (seats j) || is_among j ks) ≡ c → Inside (if c then ks else ks ++ j ∷ []) (Reg (Temp j) ∷ b)
      by true e = inside_more (Reg (Temp j)) b ks h
      by false e = added (by_bool (is_some (seats j)) (λ f. true_false (sym (or_left (is_some (seats j)) _ f) ∙ e)) (λ f. f))
  inside_next (Reg (Hard n)) b ks h = inside_more (Reg (Hard n)) b ks h
  inside_next (Reg (Flag n)) b ks h = inside_more (Reg (Flag n)) b ks h
  inside_next (Reg Pc) b ks h = inside_more (Reg Pc) b ks h
  inside_next (Reg Input) b ks h = inside_more (Reg Input) b ks h
  inside_next (Reg Output) b ks h = inside_more (Reg Output) b ks h
  inside_next (Reg Halt) b ks h = inside_more (Reg Halt) b ks h
  inside_next (Reg (RegisterHole n)) b ks h = inside_more (Reg (RegisterHole n)) b ks h
  inside_next (Num n) b ks h = inside_more (Num n) b ks h
  inside_next (Sym n) b ks h = inside_more (Sym n) b ks h
  inside_next (Label l) b ks h = inside_more (Label l) b ks h

  pub inside : (b : List Bound) → Inside (spilled_in seats b) b
  inside [] = λ k e. false_true e
  inside (v ∷ b) = inside_next v b (spilled_in seats b) (inside b)

  kept : (v : Bound) (ks : List ℕ) (k : ℕ) → is_among k ks ≡ true → is_among k (with_spilled seats ks v) ≡ true
  kept (Reg (Temp j)) ks k e = by (is_some (seats j) || is_among j ks)
    where
      by : (c : Bool) → is_among k (if c then ks else ks ++ j ∷ []) ≡ true
      by true = e
      by false = among_left k ks (j ∷ []) e
  kept (Reg (Hard n)) ks k e = e
  kept (Reg (Flag n)) ks k e = e
  kept (Reg Pc) ks k e = e
  kept (Reg Input) ks k e = e
  kept (Reg Output) ks k e = e
  kept (Reg Halt) ks k e = e
  kept (Reg (RegisterHole n)) ks k e = e
  kept (Num n) ks k e = e
  kept (Sym n) ks k e = e
  kept (Label l) ks k e = e

  put : (k : ℕ) (ks : List ℕ) → seats k ≡ None → is_among k (with_spilled seats ks (Reg (Temp k))) ≡ true
  put k ks none = by (is_some (seats k) || is_among k ks) refl
    where
      by : (c : Bool) → (is_some (seats k) || is_among k ks) ≡ c → is_among k (if c then ks else ks ++ k ∷ []) ≡ true
      by true e = or_cases (is_some (seats k)) (is_among k ks) e (λ f. false_true (sym (ap is_some none) ∙ f)) (λ f. f)
      by false e = among_right k ks (k ∷ []) (among_here k [])

  pub there : (b : List Bound) (k h : ℕ) → slice_get b h ≡ Some (Reg (Temp k)) → seats k ≡ None → is_among k (spilled_in seats b) ≡ true
  there [] k h e none = absurd (none_some (Reg (Temp k)) e)
  there (v ∷ b) k zero e none = subst (λ (x : Bound). is_among k (with_spilled seats (spilled_in seats b) x) ≡ true) (sym (some_same v (Reg (Temp k)) e)) (put k (spilled_in seats b) none)
  there (v ∷ b) k (suc h) e none = kept v (spilled_in seats b) k (there b k h e none)

  apart_next : (v : Bound) (ks : List ℕ) → AreApart ks → AreApart (with_spilled seats ks v)
  apart_next (Reg (Temp j)) ks a = by (is_some (seats j) || is_among j ks) refl
    where
      by : (c : Bool) → (is_some (seats j) || is_among j ks) ≡ c → AreApart (if c then ks else ks ++ j ∷ [])
      by true e = a
      by false e = apart_more ks j a (by_bool (is_among j ks) (λ f. true_false (sym (or_right (is_some (seats j)) _ f) ∙ e)) (λ f. f))
  apart_next (Reg (Hard n)) ks a = a
  apart_next (Reg (Flag n)) ks a = a
  apart_next (Reg Pc) ks a = a
  apart_next (Reg Input) ks a = a
  apart_next (Reg Output) ks a = a
  apart_next (Reg Halt) ks a = a
  apart_next (Reg (RegisterHole n)) ks a = a
  apart_next (Num n) ks a = a
  apart_next (Sym n) ks a = a
  apart_next (Label l) ks a = a

  pub spilled_apart : (b : List Bound) → AreApart (spilled_in seats b)
  spilled_apart [] = tt
  spilled_apart (v ∷ b) = apart_next v (spilled_in seats b) (spilled_apart b)

  -- as many as there are registers
  abbrev one_register : Bound → ℕ
  one_register (Reg c) = 1
  one_register v = 0

  abbrev registers : List Bound → ℕ
  registers [] = 0
  registers (v ∷ b) = one_register v + registers b

  few_next : (v : Bound) (ks : List ℕ) (n : ℕ) → length ks ≤ n → length (with_spilled seats ks v) ≤ one_register v + n
  few_next (Reg (Temp j)) ks n l = by (is_some (seats j) || is_among j ks)
    where
      by : (c : Bool) → length (if c then ks else ks ++ j ∷ []) ≤ 1 + n
      by true = omega (arith, l)
      by false = let e = length-append ks (j ∷ []) in omega (arith, l, e)
  few_next (Reg (Hard k)) ks n l = omega (arith, l)
  few_next (Reg (Flag k)) ks n l = omega (arith, l)
  few_next (Reg Pc) ks n l = omega (arith, l)
  few_next (Reg Input) ks n l = omega (arith, l)
  few_next (Reg Output) ks n l = omega (arith, l)
  few_next (Reg Halt) ks n l = omega (arith, l)
  few_next (Reg (RegisterHole k)) ks n l = omega (arith, l)
  few_next (Num k) ks n l = omega (arith, l)
  few_next (Sym k) ks n l = omega (arith, l)
  few_next (Label k) ks n l = omega (arith, l)

  few : (b : List Bound) → length (spilled_in seats b) ≤ registers b
  few [] = omega arith
  few (v ∷ b) = few_next v (spilled_in seats b) (registers b) (few b)

  abbrev hole_one : Hole → ℕ
  hole_one h = if is_register_hole h then 1 else 0

  one_fits : (w g : ℕ) (h : Hole) (v : Bound) → IsTrue (fits w g h v) → one_register v ≤ hole_one h
  one_fits w g (RegHole class) (Reg c) f = omega arith
  one_fits w g (NumHole low high inverted) (Reg c) f = false_true f
  one_fits w g SymHole (Reg c) f = false_true f
  one_fits w g LabelHole (Reg c) f = false_true f
  one_fits w g h (Num n) f = omega arith
  one_fits w g h (Sym n) f = omega arith
  one_fits w g h (Label l) f = omega arith

  holes_fit : (w g : ℕ) (hs : List Hole) (b : List Bound) → AllFit w g hs b → registers b ≤ count_by is_register_hole hs
  holes_fit w g [] [] f = omega arith
  holes_fit w g (h ∷ hs) (v ∷ b) f =
      let first = one_fits w g h v f.0 in
      let rest = holes_fit w g hs b f.1 in
      let more : count_by is_register_hole (h ∷ hs) ≡ hole_one h + count_by is_register_hole hs = sum_by-cons hole_one h hs in
      omega (arith, first, rest, more)
  holes_fit w g [] (v ∷ b) f = absurd f
  holes_fit w g (h ∷ hs) [] f = absurd f

  most_at : (rows : List Row) (i : ℕ) (row : Row) → slice_get rows i ≡ Some row → count_by is_register_hole row.holes ≤ most_registers rows
  most_at [] i row e = absurd (none_some row e)
  most_at (r ∷ rows) zero row e =
      subst (λ (x : Row). count_by is_register_hole x.holes ≤ max (count_by is_register_hole r.holes) (most_registers rows)) (some_same r row e) (omega arith)
  most_at (r ∷ rows) (suc i) row e = let l = most_at rows i row e in omega (arith, l)

  pub spilled_few : (w g : ℕ) (rows : List Row) (i : ℕ) (row : Row) (b : List Bound) → slice_get rows i ≡ Some row → AllFit w g row.holes b
      → length (spilled_in seats b) ≤ most_registers rows
  spilled_few w g rows i row b e f =
      let x = few b in
      let y = holes_fit w g row.holes b f in
      let z = most_at rows i row e in
      omega (arith, x, y, z)

-- scratch registers

pub scratch_among : (js rs : List ℕ) (k : ℕ) → is_among k js ≡ true → length js ≤ length rs → is_among (scratch_for js rs k) rs ≡ true
scratch_among [] rs k e l = false_true e
scratch_among (j ∷ js) [] k e l = absurd (omega (arith, l))
scratch_among (j ∷ js) (r ∷ rs) k e l = by (j == k) refl (λ g. scratch_among js rs k g (omega (arith, l)))
  where
    by : (b : Bool) → (j == k) ≡ b → (is_among k js ≡ true → is_among (scratch_for js rs k) rs ≡ true) → is_among (if b then r else scratch_for js rs k) (r ∷ rs) ≡ true
    by true f rest = among_here r rs
    by false f rest = or_right (r == scratch_for js rs k) _ (rest (or_cases (j == k) (is_among k js) e (λ g. true_false (sym g ∙ f)) (λ g. g)))

pub scratch_differs : (js rs : List ℕ) (i k : ℕ) → AreApart rs → is_among i js ≡ true → is_among k js ≡ true → length js ≤ length rs → i ≢ k
    → scratch_for js rs i ≢ scratch_for js rs k
scratch_differs [] rs i k a e f l d = false_true e
scratch_differs (j ∷ js) [] i k a e f l d = absurd (omega (arith, l))
scratch_differs (j ∷ js) (r ∷ rs) i k a e f l d = by (j == i) (j == k) refl refl (λ g h. scratch_differs js rs i k a.1 g h (omega (arith, l)) d)
  where
    short : length js ≤ length rs
    short = omega (arith, l)

    behind : (n : ℕ) → is_among n (j ∷ js) ≡ true → (j == n) ≡ false → is_among n js ≡ true
    behind n g h = or_cases (j == n) (is_among n js) g (λ q. true_false (sym q ∙ h)) (λ q. q)

    fresh : (n : ℕ) → is_among n (j ∷ js) ≡ true → (j == n) ≡ false → r ≢ scratch_for js rs n
    fresh n g h q = true_false (sym (scratch_among js rs n (behind n g h) short) ∙ (ap (λ (x : ℕ). is_among x rs) (sym q) ∙ a.0))

    by : (b c : Bool) → (j == i) ≡ b → (j == k) ≡ c → (is_among i js ≡ true → is_among k js ≡ true → scratch_for js rs i ≢ scratch_for js rs k)
        → (if b then r else scratch_for js rs i) ≢ (if c then r else scratch_for js rs k)
    by true true g h rest = λ q. d (sym (eqb-true j i g) ∙ eqb-true j k h)
    by true false g h rest = fresh k f h
    by false true g h rest = λ q. fresh i e g (sym q)
    by false false g h rest = rest (behind i e g) (behind k f h)
