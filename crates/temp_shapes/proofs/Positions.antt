-- Where the shapes of branches stand in the list of the shapes.
use Rattle.std.proofs.Common.{subst, ◌≡◌, ℕ, ◌+◌, ◌-◌, ◌*◌, ◌/◌, ◌%◌, ◌<◌, ◌≤◌, Bool, true, false, get_or, Some, refl, sym, ap, arith, ◌∙◌}
use Rattle.std.specs.Prelude.{◌==◌, nat_lt, if◌then◌else◌}
use Rattle.std.proofs.lemmas.Bool.Decides.{nat_tests}
use Rattle.std.proofs.lemmas.List.FromFn.{get_or-map-range_with_len}
use Rattle.rtl_word.specs.declared.Rel.{Rel}
use Rattle.rtl_word.specs.declared.Rel.TheVariants.{Eq}
use Rattle.md_shapes.specs.declared.table.Shape.{Shape}
use Rattle.md_shapes.specs.declared.patterns.Pattern.{Pattern}
use Rattle.md_shapes.specs.declared.patterns.Pattern.TheVariants.{Branch, Compare, BranchByFlag}
use Rattle.md_shapes.specs.Patterns.{pattern_of}
use Rattle.md_shapes.specs.Shapes.{relations, all_shapes, shape_by}
use Rattle.temp_shapes.specs.Patterns.{is_listed}

-- the list is that of the shapes at each place
pub shape_at : (i : ℕ) (x : Shape) → i < 137 → get_or all_shapes i x ≡ shape_by i
shape_at i x l = get_or-map-range_with_len shape_by 0 137 i i x l (omega arith)

pub no : {A : Type 0} (b : Bool) (x y : A) → b ≡ false → (if b then x else y) ≡ y
no true x y e = let k : true ≡ false = e in cc
no false x y e = refl

pub yes : {A : Type 0} (b : Bool) (x y : A) → b ≡ true → (if b then x else y) ≡ x
yes true x y e = refl
yes false x y e = let k : false ≡ true = e in cc

-- the tests of a place before that of the branches
module _ (i : ℕ) (l : 20 ≤ i) where
  first : nat_lt i 18 ≡ false
  first = grind (arith, nat_tests, l)

  second : (i == 18) ≡ false
  second = grind (arith, nat_tests, l)

  third : (i == 19) ≡ false
  third = grind (arith, nat_tests, l)

pub direct_at : (i : ℕ) → 20 ≤ i → i < 30 → shape_by i ≡ record { number = 20; form = 0; relation = get_or relations (i - 20) Eq; flag = 0 }
direct_at i l u =
    no (nat_lt i 18) _ _ (first i l) ∙ (no (i == 18) _ _ (second i l) ∙ (no (i == 19) _ _ (third i l) ∙ yes (nat_lt i 30) _ _ (grind (arith, nat_tests, u))))

pub comparing_at : (i : ℕ) → 30 ≤ i → i < 38 → shape_by i ≡ record { number = 20; form = 1; relation = Eq; flag = i - 30 }
comparing_at i l u =
    let k : 20 ≤ i = omega arith in
    no (nat_lt i 18) _ _ (first i k) ∙ (no (i == 18) _ _ (second i k) ∙ (no (i == 19) _ _ (third i k) ∙ (no (nat_lt i 30) _ _ (grind (arith, nat_tests, l))
    ∙ yes (nat_lt i 38) _ _ (grind (arith, nat_tests, u)))))

pub flagged_at : (i : ℕ) → 38 ≤ i → i < 118 → shape_by i ≡ record { number = 20; form = 2; relation = get_or relations ((i - 38) / 8) Eq; flag = (i - 38) % 8 }
flagged_at i l u =
    let k : 20 ≤ i = omega arith in
    no (nat_lt i 18) _ _ (first i k) ∙ (no (i == 18) _ _ (second i k) ∙ (no (i == 19) _ _ (third i k) ∙ (no (nat_lt i 30) _ _ (grind (arith, nat_tests, l))
    ∙ (no (nat_lt i 38) _ _ (grind (arith, nat_tests, l)) ∙ yes (nat_lt i 118) _ _ (grind (arith, nat_tests, u))))))

pub branch_place : (n : ℕ) (r : Rel) → n < 10 → get_or relations n Eq ≡ r → pattern_of (shape_by (20 + n)) ≡ Some (Branch r)
branch_place n r l e =
    let same : 20 + n - 20 ≡ n = omega arith in
    ap (λ (s : Shape). pattern_of s) (direct_at (20 + n) (omega arith) (omega arith))
    ∙ ap (λ (x : Rel). let o : Pattern = Branch x in Some o) (ap (λ (k : ℕ). get_or relations k Eq) same ∙ e)

pub comparison_place : (j : ℕ) → j < 8 → pattern_of (shape_by (30 + j)) ≡ Some (Compare j)
comparison_place j l =
    let same : 30 + j - 30 ≡ j = omega arith in
    ap (λ (s : Shape). pattern_of s) (comparing_at (30 + j) (omega arith) (omega arith)) ∙ ap (λ (x : ℕ). let o : Pattern = Compare x in Some o) same

pub flag_branch_place : (q j : ℕ) (r : Rel) → q < 10 → j < 8 → get_or relations q Eq ≡ r → pattern_of (shape_by (38 + 8 * q + j)) ≡ Some (BranchByFlag r j)
flag_branch_place q j r l m e =
    let row : (38 + 8 * q + j - 38) / 8 ≡ q = omega arith in
    let rest : (38 + 8 * q + j - 38) % 8 ≡ j = omega arith in
    ap (λ (s : Shape). pattern_of s) (flagged_at (38 + 8 * q + j) (omega arith) (omega arith))
    ∙ (ap (λ (x : Rel). let o : Pattern = BranchByFlag x ((38 + 8 * q + j - 38) % 8) in Some o) (ap (λ (k : ℕ). get_or relations k Eq) row ∙ e)
    ∙ ap (λ (x : ℕ). let o : Pattern = BranchByFlag r x in Some o) rest)

below_eight : (j : ℕ) → nat_lt j 8 ≡ true → j < 8
below_eight j e = grind (arith, nat_tests, e)

pub flag_below : (p : Pattern) (r : Rel) (j : ℕ) → p ≡ BranchByFlag r j → is_listed p ≡ true → j < 8
flag_below p r j e h = below_eight j (subst (λ (x : Pattern). is_listed x ≡ true) e h)
