-- How many transfers stand for one.
use Rattle.std.proofs.Common.{◌≡◌, ◌≢◌, ℕ, suc, ◌+◌, ◌*◌, max, ◌<◌, ◌≤◌, ◌==◌, ◌||◌, Bool, true, false, cond, List, [], ◌∷◌, ◌++◌, length, slice_index_or, AllPairs, refl, sym, ap, subst, ◌∙◌, arith}
use Rattle.std.proofs.lemmas.Bool.{eqb-true, eq-eqb}
use Rattle.rtl_tree.specs.Trees.{Tree, Read, Load, Unary, Binary}
use Rattle.rtl_tree.specs.declared.cells.Cell.TheVariants.{Temp}
use Rattle.rtl_tree.specs.Same.{same_cell}
use Rattle.rtl_tree.specs.Moves.{Goal, ToCell, ToMemory, Move}
use Rattle.temp_machine.specs.Routines.{Routine, Target}
use Rattle.temp_machine.specs.Cells.{some_cell, some_goal_cell, sets_by, reads, sets}
use Rattle.temp_machine.specs.Tidy.{temporaries_in, goal_temporaries, temporaries_of, is_among, count_different}
use Rattle.color_spilling.specs.Spilling.{AreLoads, no_load, a_load, AreStores, no_store, a_store}
use Rattle.color_transfer.specs.Colored.{ColoredFits}

false_true : {A : Type 0} → false ≡ true → A
false_true e = absurd (let k : false ≡ true = e in cc)

true_false : {A : Type 0} → true ≡ false → A
true_false e = absurd (let k : true ≡ false = e in cc)

by_bool : {A : Type 0} (b : Bool) → (b ≡ true → A) → (b ≡ false → A) → A
by_bool true f g = f refl
by_bool false f g = g refl

or_left : (b c : Bool) → b ≡ true → (b || c) ≡ true
or_left b c e = subst (λ x. (x || c) ≡ true) (sym e) refl

or_right : (b c : Bool) → c ≡ true → (b || c) ≡ true
or_right true c e = refl
or_right false c e = e

or_cases : {A : Type 0} (b c : Bool) → (b || c) ≡ true → (b ≡ true → A) → (c ≡ true → A) → A
or_cases true c e f g = f refl
or_cases false c e f g = g e

among_here : (k : ℕ) (ks : List ℕ) → is_among k (k ∷ ks) ≡ true
among_here k ks = or_left (k == k) (is_among k ks) (eq-eqb k k refl)

-- ---- members

among_left : (k : ℕ) (xs ys : List ℕ) → is_among k xs ≡ true → is_among k (xs ++ ys) ≡ true
among_left k [] ys e = false_true e
among_left k (x ∷ xs) ys e = or_cases (x == k) (is_among k xs) e (λ f. or_left (x == k) (is_among k (xs ++ ys)) f) (λ f. or_right (x == k) (is_among k (xs ++ ys)) (among_left k xs ys f))

among_right : (k : ℕ) (xs ys : List ℕ) → is_among k ys ≡ true → is_among k (xs ++ ys) ≡ true
among_right k [] ys e = e
among_right k (x ∷ xs) ys e = or_right (x == k) (is_among k (xs ++ ys)) (among_right k xs ys e)

tree_among : (k : ℕ) (a : Tree) → some_cell (same_cell (Temp k)) a ≡ true → is_among k (temporaries_in a) ≡ true
tree_among k (Read (Temp n)) e = or_left (n == k) false (eq-eqb n k (sym (eqb-true k n e)))
tree_among k (Load d a) e = tree_among k a e
tree_among k (Unary o a) e = tree_among k a e
tree_among k (Binary o a b) e =
    or_cases (some_cell (same_cell (Temp k)) a) (some_cell (same_cell (Temp k)) b) e
    (λ f. among_left k (temporaries_in a) (temporaries_in b) (tree_among k a f)) (λ f. among_right k (temporaries_in a) (temporaries_in b) (tree_among k b f))
tree_among k _ e = false_true e

goal_among : (k : ℕ) (g : Goal) → some_goal_cell (same_cell (Temp k)) g ≡ true → is_among k (goal_temporaries g) ≡ true
goal_among k (ToCell c) e = false_true e
goal_among k (ToMemory d a) e = tree_among k a e

set_among : (k : ℕ) (g : Goal) → sets_by (same_cell (Temp k)) g ≡ true → is_among k (goal_temporaries g) ≡ true
set_among k (ToCell (Temp n)) e = or_left (n == k) false (eq-eqb n k (sym (eqb-true k n e)))
set_among k _ e = false_true e

reads_among : (k : ℕ) (ms : List Move) → reads (Temp k) ms ≡ true → is_among k (temporaries_of ms) ≡ true
reads_among k [] e = false_true e
reads_among k (m ∷ ms) e =
    or_cases (some_goal_cell (same_cell (Temp k)) m.to || some_cell (same_cell (Temp k)) m.value) (reads (Temp k) ms) e
    (λ f. or_cases (some_goal_cell (same_cell (Temp k)) m.to) (some_cell (same_cell (Temp k)) m.value) f
    (λ g. among_left k (goal_temporaries m.to) _ (goal_among k m.to g))
    (λ g. among_right k (goal_temporaries m.to) _ (among_left k (temporaries_in m.value) _ (tree_among k m.value g))))
    (λ f. among_right k (goal_temporaries m.to) _ (among_right k (temporaries_in m.value) _ (reads_among k ms f)))

sets_among : (k : ℕ) (ms : List Move) → sets (Temp k) ms ≡ true → is_among k (temporaries_of ms) ≡ true
sets_among k [] e = false_true e
sets_among k (m ∷ ms) e =
    or_cases (sets_by (same_cell (Temp k)) m.to) (sets (Temp k) ms) e
    (λ g. among_left k (goal_temporaries m.to) _ (set_among k m.to g))
    (λ f. among_right k (goal_temporaries m.to) _ (among_right k (temporaries_in m.value) _ (sets_among k ms f)))

-- ---- lists whose numbers differ

abbrev AreApart : List ℕ → Type 0
AreApart [] = Unit {0}
AreApart (k ∷ ks) = (is_among k ks ≡ false) × AreApart ks

index_of : (k : ℕ) (ks : List ℕ) (d : ℕ) → is_among k ks ≡ true → (i : ℕ) × (i < length ks) × (slice_index_or ks i d ≡ k)
index_of k [] d e = false_true e
index_of k (j ∷ ks) d e =
    or_cases (j == k) (is_among k ks) e
    (λ f. (0, omega arith, eqb-true j k f))
    (λ f. let found = index_of k ks d f in (suc (found.0), omega (arith, found.1), found.2))

apart_of : (ks : List ℕ) → AllPairs (λ j k. j ≢ k) ks → AreApart ks
apart_of [] h = tt
apart_of (k ∷ ks) h = (
  by_bool (is_among k ks) (λ e. let found = index_of k ks 0 e in absurd (h 0 (suc (found.0)) 0 (omega arith) (omega (arith, found.1)) (sym found.2))) (λ e. e),
  apart_of ks (λ i j d p q. h (suc i) (suc j) d (omega (arith, p)) (omega (arith, q))),
)

-- one number less
abbrev without : ℕ → List ℕ → List ℕ
without n [] = []
without n (k ∷ ks) = cond (k == n) ks (k ∷ without n ks)

within_without : (n j : ℕ) (ks : List ℕ) → is_among j (without n ks) ≡ true → is_among j ks ≡ true
within_without n j [] e = e
within_without n j (k ∷ ks) e = by (k == n) e (within_without n j ks)
  where
    by : (b : Bool) → is_among j (cond b ks (k ∷ without n ks)) ≡ true → (is_among j (without n ks) ≡ true → is_among j ks ≡ true) → is_among j (k ∷ ks) ≡ true
    by true f ih = or_right (k == j) _ f
    by false f ih = or_cases (k == j) (is_among j (without n ks)) f (λ g. or_left (k == j) _ g) (λ g. or_right (k == j) _ (ih g))

without_it : (n : ℕ) (ks : List ℕ) → AreApart ks → is_among n (without n ks) ≡ true → false ≡ true
without_it n [] apart e = e
without_it n (k ∷ ks) apart e = by (k == n) refl e (without_it n ks apart.1)
  where
    by : (b : Bool) → (k == n) ≡ b → is_among n (cond b ks (k ∷ without n ks)) ≡ true → (is_among n (without n ks) ≡ true → false ≡ true) → false ≡ true
    by true s f ih = sym apart.0 ∙ ap (λ i. is_among i ks) (eqb-true k n s) ∙ f
    by false s f ih = or_cases (k == n) (is_among n (without n ks)) f (λ g. sym s ∙ g) ih

without_apart : (n : ℕ) (ks : List ℕ) → AreApart ks → AreApart (without n ks)
without_apart n [] apart = tt
without_apart n (k ∷ ks) apart = by (k == n) (without_apart n ks apart.1)
  where
    by : (b : Bool) → AreApart (without n ks) → AreApart (cond b ks (k ∷ without n ks))
    by true ih = apart.1
    by false ih = (by_bool (is_among k (without n ks)) (λ e. true_false (sym (within_without n k ks e) ∙ apart.0)) (λ e. e), ih)

without_length : (n : ℕ) (ks : List ℕ) → length ks ≤ suc (length (without n ks))
without_length n [] = omega arith
without_length n (k ∷ ks) = by (k == n) (without_length n ks)
  where
    by : (b : Bool) → length ks ≤ suc (length (without n ks)) → length (k ∷ ks) ≤ suc (length (cond b ks (k ∷ without n ks)))
    by true ih = omega arith
    by false ih = omega (arith, ih)

-- numbers that differ are no more than the different ones that they are among
no_more : (ns ks : List ℕ) → AreApart ks → ((k : ℕ) → is_among k ks ≡ true → is_among k ns ≡ true) → length ks ≤ count_different ns
no_more [] [] apart all = omega arith
no_more [] (k ∷ ks) apart all = false_true (all k (among_here k ks))
no_more (n ∷ ns) ks apart all = by (is_among n ns) refl (λ h. no_more ns ks apart h) (λ h. no_more ns (without n ks) (without_apart n ks apart) h)
  where
    in_rest : is_among n ns ≡ true → (k : ℕ) → is_among k ks ≡ true → is_among k ns ≡ true
    in_rest e k h = or_cases (n == k) (is_among k ns) (all k h) (λ f. ap (λ i. is_among i ns) (sym (eqb-true n k f)) ∙ e) (λ f. f)

    without_rest : (k : ℕ) → is_among k (without n ks) ≡ true → is_among k ns ≡ true
    without_rest k h =
        or_cases (n == k) (is_among k ns) (all k (within_without n k ks h))
        (λ f. false_true (without_it n ks apart (ap (λ i. is_among i (without n ks)) (eqb-true n k f) ∙ h))) (λ f. f)

    by : (b : Bool) → is_among n ns ≡ b → (((k : ℕ) → is_among k ks ≡ true → is_among k ns ≡ true) → length ks ≤ count_different ns)
        → (((k : ℕ) → is_among k (without n ks) ≡ true → is_among k ns ≡ true) → length (without n ks) ≤ count_different ns) → length ks ≤ cond b (count_different ns) (suc (count_different ns))
    by true e all_there one_less = all_there (in_rest e)
    by false e all_there one_less = let ih = one_less without_rest in omega (arith, ih, without_length n ks)

-- ---- counts

module _ (t : Target) (r : Routine) (register : ℕ → ℕ) where
  loads_count : (ks : List ℕ) (code : List (List Move)) → AreLoads t r register ks code → length code ≡ length ks
  loads_count _ _ no_load = refl
  loads_count _ _ (a_load k ks ms rest does more) = ap suc (loads_count ks rest more)

  stores_count : (ks : List ℕ) (code : List (List Move)) → AreStores t r register ks code → length code ≡ length ks
  stores_count _ _ no_store = refl
  stores_count _ _ (a_store k ks ms rest does more) = ap suc (stores_count ks rest more)

joined : (xs ys : List (List Move)) (y : List Move) → length (xs ++ (y ∷ ys)) ≡ length xs + suc (length ys)
joined [] ys y = omega arith
joined (x ∷ xs) ys y = let ih = joined xs ys y in omega (arith, ih)

pub colored_fits : ColoredFits
colored_fits t r seats ms new c =
    let p = c.parts in
    let o = no_more (temporaries_of ms) p.operands (apart_of p.operands p.at_home.differ) (λ k h. reads_among k ms ((p.at_home.are k).0 h).0) in
    let s = no_more (temporaries_of ms) p.results (apart_of p.results p.to_home.differ) (λ k h. sets_among k ms ((p.to_home.are k).0 h).0) in
    let l = loads_count t r p.register p.operands c.loads p.are_loads in
    let k = stores_count t r p.register p.results c.stores p.are_stores in
    let j = ap length c.is ∙ joined c.loads c.stores c.middle in
    sum (length new) (length c.loads) (length c.stores) (count_different (temporaries_of ms)) j (subst (λ (n : ℕ). n ≤ count_different (temporaries_of ms)) (sym l) o) (subst (λ (n : ℕ). n ≤ count_different (temporaries_of ms)) (sym k) s)
  where
    sum : (n a b m : ℕ) → n ≡ a + suc b → a ≤ m → b ≤ m → n ≤ max 5 (1 + 2 * m)
    sum n a b m e f g = omega (arith, e, f, g)
