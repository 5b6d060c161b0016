-- The numbers of the shapes that linking adds.
use Rattle.std.proofs.Common.{◌≡◌, ◌⊎◌, inl, inr, ℕ, ◌+◌, ◌-◌, ◌*◌, ◌/◌, ◌%◌, ◌^◌, ◌<◌, ◌≤◌, ◌==◌, nat_le, nat_lt, Bool, true, false, ◌&&◌, ◌||◌, List, [], ◌∷◌, refl, arith}
use Rattle.std.proofs.lemmas.Bool.Decides.{nat_tests}
use Rattle.std.proofs.Math.Nat.{mod-add-div'}
use Rattle.rtl_word.specs.Words.{IsWordSize}
use Rattle.rtl_word.proofs.Below.{by_size}
use Rattle.rtl_tree.proofs.Equality.{and_left, and_right}
use Rattle.md_shapes.specs.declared.patterns.Pattern.TheVariants.{MoveStack, SaveLink, RestoreLink}
use Rattle.md_covers.specs.Numbers.{Run, IsOf, IsOfSome, IsNumberOf}
use Rattle.link_lines.specs.Glue.{in_run, in_runs, has_numbers}

le_of : (m n : ℕ) → nat_le m n ≡ true → m ≤ n
le_of m n e = grind (arith, nat_tests)

lt_of : (m n : ℕ) → nat_lt m n ≡ true → m < n
lt_of m n e = grind (arith, nat_tests)

eq_of : (m n : ℕ) → (m == n) ≡ true → m ≡ n
eq_of m n e = grind (arith, nat_tests)

le_true : (m n : ℕ) → m ≤ n → nat_le m n ≡ true
le_true m n l = grind (arith, nat_tests, l)

lt_true : (m n : ℕ) → m < n → nat_lt m n ≡ true
lt_true m n l = grind (arith, nat_tests, l)

eq_true : (m n : ℕ) → m ≡ n → (m == n) ≡ true
eq_true m n e = grind (arith, nat_tests, e)

put_together : (n f q z : ℕ) → f ≤ n → z ≡ 0 → z + q ≡ n - f → n ≡ f + q
put_together n f q z l e s = omega (arith, l, e, s)

run_of : (r : Run) (n : ℕ) → in_run r n ≡ true → IsOf r n
run_of r n h =
    let more = and_right (nat_le r.first n) _ h in
    record {
      place = (n - r.first) / r.step;
      within = lt_of ((n - r.first) / r.step) r.count (and_right ((n - r.first) % r.step == 0) _ more);
      is = put_together n r.first ((n - r.first) / r.step * r.step) ((n - r.first) % r.step) (le_of r.first n (and_left (nat_le r.first n) _ h))
          (eq_of ((n - r.first) % r.step) 0 (and_left ((n - r.first) % r.step == 0) _ more)) (mod-add-div' (n - r.first) r.step);
    }

some_of : (rs : List Run) (n : ℕ) → in_runs rs n ≡ true → IsOfSome rs n
some_of [] n h = absurd (false_true h)
  where
    false_true : false ≡ true → ⊥
    false_true e = cc
some_of (r ∷ rs) n h = cases (in_run r n) refl (some_of rs n) h
  where
    cases : (b : Bool) → in_run r n ≡ b → (in_runs rs n ≡ true → IsOfSome rs n) → (b || in_runs rs n) ≡ true → IsOf r n ⊎ IsOfSome rs n
    cases true e more g = inl (run_of r n e)
    cases false e more g = inr (more g)

pub number_of : (rs : List Run) (n : ℕ) → in_runs rs n ≡ true → IsNumberOf rs n
number_of [] n h = tt
number_of (r ∷ rs) n h = some_of (r ∷ rs) n h

in_three : (a b c : Bool) → a ≡ true → b ≡ true → c ≡ true → (a && (b && c)) ≡ true
in_three a b c e f g = cc

first_of : (a b : Bool) → a ≡ true → (a || b) ≡ true
first_of a b e = cc

second_of : (a b : Bool) → b ≡ true → (a || b) ≡ true
second_of true b e = refl
second_of false b e = e

run_with : (first count step n : ℕ) → first ≤ n → (n - first) % step ≡ 0 → (n - first) / step < count
    → in_run (record { first = first; count = count; step = step }) n ≡ true
run_with first count step n l e m =
    in_three (nat_le first n) ((n - first) % step == 0) (nat_lt ((n - first) / step) count) (le_true first n l) (eq_true ((n - first) % step) 0 e)
    (lt_true ((n - first) / step) count m)

-- a frame, and the offset of its first home
pub record HasNumbers (w f h : ℕ) : Type 0 where
  pub up : has_numbers w MoveStack f ≡ true
  pub down : has_numbers w MoveStack (2 ^ w - f) ≡ true
  pub save : has_numbers w SaveLink (h - w / 8) ≡ true
  pub fetch : has_numbers w RestoreLink (h - w / 8) ≡ true

abbrev AreNumbers : ℕ → Type 0
AreNumbers w = (f h s : ℕ) → f % (w / 8) ≡ 0 → h % (w / 8) ≡ 0 → f ≤ 32000 → w / 8 * 3 ≤ h → h + w / 8 * s ≤ f → HasNumbers w f h

at_16 : AreNumbers 16
at_16 f h s a b c d e = record {
  up = first_of _ _ (run_with 2 16000 2 f (omega arith) (omega arith) (omega arith));
  down = second_of _ _ (first_of _ _ (run_with 33536 16000 2 (65536 - f) (omega arith) (omega arith) (omega arith)));
  save = first_of _ _ (run_with 2 16127 2 (h - 2) (omega arith) (omega arith) (omega arith));
  fetch = first_of _ _ (run_with 2 16127 2 (h - 2) (omega arith) (omega arith) (omega arith));
}

at_32 : AreNumbers 32
at_32 f h s a b c d e = record {
  up = first_of _ _ (run_with 4 8000 4 f (omega arith) (omega arith) (omega arith));
  down = second_of _ _ (first_of _ _ (run_with 4294935296 8000 4 (4294967296 - f) (omega arith) (omega arith) (omega arith)));
  save = first_of _ _ (run_with 4 8063 4 (h - 4) (omega arith) (omega arith) (omega arith));
  fetch = first_of _ _ (run_with 4 8063 4 (h - 4) (omega arith) (omega arith) (omega arith));
}

pub frame_numbers : (w f h s : ℕ) → IsWordSize w → f % (w / 8) ≡ 0 → h % (w / 8) ≡ 0 → f ≤ 32000 → w / 8 * 3 ≤ h → h + w / 8 * s ≤ f → HasNumbers w f h
frame_numbers w f h s z = by_size AreNumbers at_16 at_32 w z f h s
