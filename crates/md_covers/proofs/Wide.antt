-- A number hole has a whole run of words exactly where the test of its range says so.
use Rattle.std.proofs.Common.{◌≡◌, ℕ, ◌+◌, ◌-◌, ◌<◌, ◌≤◌, ◌*◌, ◌^◌, Bool, true, false, nat_lt, List, [], ◌∷◌, is_some, ℤ, inl, inr, refl, sym, subst, ap, arith, ◌∙◌}
use Rattle.std.proofs.lemmas.Bool.Decides.{nat_tests}
use Rattle.rtl_tree.proofs.Equality.{and_left, and_right, and_both}
use Rattle.md_rows.specs.declared.row.Hole.{Hole}
use Rattle.md_rows.specs.declared.row.Hole.TheVariants.{Reg as RegHole, Num as NumHole, Sym as SymHole, Label as LabelHole}
use Rattle.md_rows.specs.declared.instance.Bound.TheVariants.{Num}
use Rattle.md_rows.specs.Fits.{fits, printed}
use Rattle.md_covers.specs.Ranges.{has, has_run, run_test}
use Rattle.md_covers.specs.Numbers.{Run, IsOf, IsOfSome, end_of, takes_run, takes_runs}
use Rattle.md_covers.proofs.Runs.{member, run_is, run_all, run_back}

-- a run of words
pub record IsRun (w : ℕ) (r : Run) : Type 0 where
  pub many : 1 < r.count
  pub moves : 0 < r.step
  pub words : end_of r < 2 ^ w

abbrev pub AreRuns : ℕ → List Run → Type 0
AreRuns w [] = Unit {0}
AreRuns w (r ∷ rs) = IsRun w r × AreRuns w rs

in_run : (r : Run) (i : ℕ) → 1 < r.count → i ≤ r.count - 1 → IsOf r (r.first + i * r.step)
in_run r i m e = record { place = i; within = omega (arith, m, e); is = refl }

below_end : (r : Run) (n : ℕ) → IsOf r n → n ≤ end_of r
below_end r n o =
    let e = o.is in let b : o.place ≤ r.count - 1 = omega (arith, o.within) in
    let p : o.place * r.step ≤ (r.count - 1) * r.step = grind arith in omega (arith, p, e)

-- counted down from m, the run is a run
turn_step : (m a k i step : ℕ) → a + (k + i) * step ≤ m → m - (a + i * step) ≡ (m - (a + (k + i) * step)) + k * step
turn_step m a k i step e = omega arith

plain_has : (w g : ℕ) (low high : ℤ) (n : ℕ) → n < 2 ^ w → fits w g (NumHole low high false) (Num n) ≡ true → has w low high n ≡ true
plain_has w g low high n b e =
    sym (member w low high n b) ∙ and_right (nat_lt n (2 ^ w)) (is_some (printed w low high false n)) e

has_plain : (w g : ℕ) (low high : ℤ) (n : ℕ) → n < 2 ^ w → has w low high n ≡ true → fits w g (NumHole low high false) (Num n) ≡ true
has_plain w g low high n b e =
    let t : nat_lt n (2 ^ w) ≡ true = grind (arith, nat_tests) in
    and_both (nat_lt n (2 ^ w)) (is_some (printed w low high false n)) t (member w low high n b ∙ e)

turned_has : (w g : ℕ) (low high : ℤ) (n : ℕ) → n < 2 ^ w → fits w g (NumHole low high true) (Num n) ≡ true → has w low high (2 ^ w - 1 - n) ≡ true
turned_has w g low high n b e =
    sym (member w low high (2 ^ w - 1 - n) (omega (arith, b))) ∙ and_right (nat_lt n (2 ^ w)) (is_some (printed w low high true n)) e

has_turned : (w g : ℕ) (low high : ℤ) (n : ℕ) → n < 2 ^ w → has w low high (2 ^ w - 1 - n) ≡ true → fits w g (NumHole low high true) (Num n) ≡ true
has_turned w g low high n b e =
    let t : nat_lt n (2 ^ w) ≡ true = grind (arith, nat_tests) in
    and_both (nat_lt n (2 ^ w)) (is_some (printed w low high true n)) t (member w low high (2 ^ w - 1 - n) (omega (arith, b)) ∙ e)

record Split (i last : ℕ) : Type 0 where
  more : ℕ
  is : last ≡ more + i

split_of : (i last : ℕ) → i ≤ last → Split i last
split_of i last e = record { more = last - i; is = omega (arith, e) }

-- the run turned over ends where it began
turned_end : (m a last step : ℕ) → a + last * step ≤ m → m - a ≡ (m - (a + last * step)) + last * step
turned_end m a last step e = omega arith

whole_plain : (w g : ℕ) (low high : ℤ) (r : Run) → IsRun w r → ((n : ℕ) → IsOf r n → fits w g (NumHole low high false) (Num n) ≡ true)
    → run_test w low high r.first (end_of r) r.step ≡ true
whole_plain w g low high r k all =
    run_is w low high r.first (end_of r) r.step
    ∙ run_back w low high r.first (r.count - 1) r.step k.moves (λ i e.
    (let o = in_run r i k.many e in
    let b : r.first + i * r.step < 2 ^ w = omega (arith, below_end r (r.first + i * r.step) o, k.words) in
    plain_has w g low high (r.first + i * r.step) b (all (r.first + i * r.step) o)))

wide_plain : (w g : ℕ) (low high : ℤ) (r : Run) → IsRun w r → run_test w low high r.first (end_of r) r.step ≡ true
    → (n : ℕ) → IsOf r n → fits w g (NumHole low high false) (Num n) ≡ true
wide_plain w g low high r k e n o =
    let x = sym (run_is w low high r.first (end_of r) r.step) ∙ e in
    let y = run_all w low high r.first (r.count - 1) r.step k.moves x o.place (omega (arith, o.within)) in
    let z : has w low high n ≡ true = subst (λ (u : ℕ). has w low high u ≡ true) (sym o.is) y in
    has_plain w g low high n (omega (arith, below_end r n o, k.words)) z

turned_each : (w g : ℕ) (low high : ℤ) (r : Run) → IsRun w r → ((n : ℕ) → IsOf r n → fits w g (NumHole low high true) (Num n) ≡ true)
    → r.first + (r.count - 1) * r.step ≤ 2 ^ w - 1 → (i : ℕ) → i ≤ r.count - 1 → has w low high ((2 ^ w - 1 - end_of r) + i * r.step) ≡ true
turned_each w g low high r k all words i e =
    let t = split_of i (r.count - 1) e in
    let ts = t.is in
    let c : r.count - 1 ≡ i + t.more = omega (arith, ts) in
    let j : t.more ≤ r.count - 1 = omega (arith, ts) in
    let o = in_run r t.more k.many j in
    let b : r.first + t.more * r.step < 2 ^ w = omega (arith, below_end r (r.first + t.more * r.step) o, k.words) in
    let h = turned_has w g low high (r.first + t.more * r.step) b (all (r.first + t.more * r.step) o) in
    let q = turn_step (2 ^ w - 1) r.first i t.more r.step (subst (λ (l : ℕ). r.first + l * r.step ≤ 2 ^ w - 1) c words) in
    let p = q ∙ ap (λ (l : ℕ). (2 ^ w - 1 - (r.first + l * r.step)) + i * r.step) (sym c) in
    subst (λ (u : ℕ). has w low high u ≡ true) p h

whole_turned : (w g : ℕ) (low high : ℤ) (r : Run) → IsRun w r → ((n : ℕ) → IsOf r n → fits w g (NumHole low high true) (Num n) ≡ true)
    → run_test w low high (2 ^ w - 1 - end_of r) (2 ^ w - 1 - r.first) r.step ≡ true
whole_turned w g low high r k all =
    let words : r.first + (r.count - 1) * r.step ≤ 2 ^ w - 1 = omega (arith, k.words) in
    let back = run_back w low high (2 ^ w - 1 - end_of r) (r.count - 1) r.step k.moves (λ i e. turned_each w g low high r k all words i e) in
    run_is w low high (2 ^ w - 1 - end_of r) (2 ^ w - 1 - r.first) r.step
    ∙ subst (λ (z : ℕ). has_run w low high (2 ^ w - 1 - end_of r) z r.step ≡ true)
    (sym (turned_end (2 ^ w - 1) r.first (r.count - 1) r.step words)) back

wide_turned : (w g : ℕ) (low high : ℤ) (r : Run) → IsRun w r → run_test w low high (2 ^ w - 1 - end_of r) (2 ^ w - 1 - r.first) r.step ≡ true
    → (n : ℕ) → IsOf r n → fits w g (NumHole low high true) (Num n) ≡ true
wide_turned w g low high r k e n o =
    let words : r.first + (r.count - 1) * r.step ≤ 2 ^ w - 1 = omega (arith, k.words) in
    let x = sym (run_is w low high (2 ^ w - 1 - end_of r) (2 ^ w - 1 - r.first) r.step) ∙ e in
    let y : has_run w low high (2 ^ w - 1 - end_of r) ((2 ^ w - 1 - end_of r) + (r.count - 1) * r.step) r.step ≡ true =
    subst (λ (z : ℕ). has_run w low high (2 ^ w - 1 - end_of r) z r.step ≡ true) (turned_end (2 ^ w - 1) r.first (r.count - 1) r.step words) x in
    let t = split_of o.place (r.count - 1) (omega (arith, o.within)) in
    let ts = t.is in
    let v = run_all w low high (2 ^ w - 1 - end_of r) (r.count - 1) r.step k.moves y t.more (omega (arith, ts)) in
    let q = turn_step (2 ^ w - 1) r.first t.more o.place r.step (subst (λ (l : ℕ). r.first + l * r.step ≤ 2 ^ w - 1) t.is words) in
    let p : (2 ^ w - 1 - end_of r) + t.more * r.step ≡ 2 ^ w - 1 - n =
    ap (λ (l : ℕ). (2 ^ w - 1 - (r.first + l * r.step)) + t.more * r.step) t.is ∙ (sym q ∙ ap (λ (u : ℕ). 2 ^ w - 1 - u) (sym o.is)) in
    has_turned w g low high n (omega (arith, below_end r n o, k.words)) (subst (λ (u : ℕ). has w low high u ≡ true) p v)

-- a hole that takes a number of a run, and the test
pub takes_each : (w g : ℕ) (hole : Hole) (r : Run) → IsRun w r → (m : ℕ) → fits w g hole (Num m) ≡ true → takes_run w hole r ≡ true
    → (n : ℕ) → IsOf r n → fits w g hole (Num n) ≡ true
takes_each w g (NumHole low high false) r k m f e n i = wide_plain w g low high r k e n i
takes_each w g (NumHole low high true) r k m f e n i = wide_turned w g low high r k e n i
takes_each w g (RegHole c) r k m f e n i = let q : false ≡ true = f in cc
takes_each w g SymHole r k m f e n i = let q : false ≡ true = f in cc
takes_each w g LabelHole r k m f e n i = let q : false ≡ true = f in cc

pub each_takes : (w g : ℕ) (low high : ℤ) (inverted : Bool) (r : Run) → IsRun w r
    → ((n : ℕ) → IsOf r n → fits w g (NumHole low high inverted) (Num n) ≡ true) → takes_run w (NumHole low high inverted) r ≡ true
each_takes w g low high false r k all = whole_plain w g low high r k all
each_takes w g low high true r k all = whole_turned w g low high r k all

pub takes_some : (w g : ℕ) (hole : Hole) (rs : List Run) → AreRuns w rs → (m : ℕ) → fits w g hole (Num m) ≡ true → takes_runs w hole rs ≡ true
    → (n : ℕ) → IsOfSome rs n → fits w g hole (Num n) ≡ true
takes_some w g hole [] k m f e n i = absurd i
takes_some w g hole (r ∷ rs) k m f e n (inl i) = takes_each w g hole r k.0 m f (and_left (takes_run w hole r) (takes_runs w hole rs) e) n i
takes_some w g hole (r ∷ rs) k m f e n (inr i) = takes_some w g hole rs k.1 m f (and_right (takes_run w hole r) (takes_runs w hole rs) e) n i

pub some_take : (w g : ℕ) (low high : ℤ) (inverted : Bool) (rs : List Run) → AreRuns w rs
    → ((n : ℕ) → IsOfSome rs n → fits w g (NumHole low high inverted) (Num n) ≡ true) → takes_runs w (NumHole low high inverted) rs ≡ true
some_take w g low high inverted [] k all = refl
some_take w g low high inverted (r ∷ rs) k all =
    and_both (takes_run w (NumHole low high inverted) r) (takes_runs w (NumHole low high inverted) rs)
    (each_takes w g low high inverted r k.0 (λ n i. all n (inl i)))
    (some_take w g low high inverted rs k.1 (λ n i. all n (inr i)))

-- the first two numbers of a run
pub first_of : (w : ℕ) (r : Run) → IsRun w r → IsOf r r.first
first_of w r k = let m = k.many in record { place = 0; within = omega (arith, m); is = omega arith }

pub second_of : (w : ℕ) (r : Run) → IsRun w r → IsOf r (r.first + r.step)
second_of w r k = let m = k.many in record { place = 1; within = omega (arith, m); is = omega arith }
