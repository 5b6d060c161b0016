-- A transfer with two temporaries has the least room.
use Rattle.std.proofs.Common.{◌≡◌, ◌⊎◌, inl, inr, ℕ, suc, ◌+◌, ◌*◌, ◌≤◌, Bool, true, false, ◌||◌, List, [], ◌∷◌, ◌++◌, max, refl, sym, subst, ap, arith, ◌∙◌}
use Rattle.std.specs.Prelude.{◌==◌, if◌then◌else◌}
use Rattle.std.proofs.lemmas.Bool.Decides.{nat_tests}
use Rattle.std.proofs.lemmas.List.Folds.{list_any-append}
use Rattle.rtl_tree.specs.declared.cells.Cell.TheVariants.{Hard, Temp, Flag, Pc, Input, Output, Halt, Hole}
use Rattle.rtl_tree.specs.Trees.{Tree, Number, Symbol, CodeLabel, Read, Load, Unary, Binary, NoPair, AnyNumber, AnyName}
use Rattle.rtl_tree.specs.Moves.{Goal, ToCell, ToMemory, Move}
use Rattle.rtl_tree.specs.Same.{same_cell}
use Rattle.temp_machine.specs.Cells.{some_cell, some_goal_cell, sets_by, some_read, some_set, mentions}
use Rattle.temp_machine.specs.Tidy.{temporaries_in, goal_temporaries, temporaries_of, is_among, count_different, room_of}
use Rattle.temp_laws.proofs.Cells.{or_both, or_false}

-- the temporaries that are listed are those that are named

swapped : (m n : ℕ) → (m == n) ≡ (n == m)
swapped m n = by (m == n) (n == m) refl refl
  where
    by : (a b : Bool) → m == n ≡ a → n == m ≡ b → a ≡ b
    by true true e f = refl
    by false false e f = refl
    by true false e f = absurd (grind (arith, nat_tests, e, f))
    by false true e f = absurd (grind (arith, nat_tests, e, f))

module _ (n : ℕ) where
  one_named : (k : ℕ) → ((k == n) || false) ≡ (n == k)
  one_named k = or_false (k == n) ∙ swapped k n

  tree_named : (t : Tree) → is_among n (temporaries_in t) ≡ some_cell (same_cell (Temp n)) t
  tree_named (Read (Temp k)) = one_named k
  tree_named (Read (Hard k)) = refl
  tree_named (Read (Flag k)) = refl
  tree_named (Read Pc) = refl
  tree_named (Read Input) = refl
  tree_named (Read Output) = refl
  tree_named (Read Halt) = refl
  tree_named (Read (Hole k)) = refl
  tree_named (Load d a) = tree_named a
  tree_named (Unary o a) = tree_named a
  tree_named (Binary o a b) = list_any-append (λ k. k == n) (temporaries_in a) (temporaries_in b) ∙ or_both _ _ _ _ (tree_named a) (tree_named b)
  tree_named (Number k) = refl
  tree_named (Symbol k) = refl
  tree_named (CodeLabel l) = refl
  tree_named NoPair = refl
  tree_named (AnyNumber k) = refl
  tree_named (AnyName k) = refl

  goal_named : (g : Goal) → is_among n (goal_temporaries g) ≡ (some_goal_cell (same_cell (Temp n)) g || sets_by (same_cell (Temp n)) g)
  goal_named (ToCell (Temp k)) = one_named k
  goal_named (ToCell (Hard k)) = refl
  goal_named (ToCell (Flag k)) = refl
  goal_named (ToCell Pc) = refl
  goal_named (ToCell Input) = refl
  goal_named (ToCell Output) = refl
  goal_named (ToCell Halt) = refl
  goal_named (ToCell (Hole k)) = refl
  goal_named (ToMemory d a) = tree_named a ∙ sym (or_false (some_cell (same_cell (Temp n)) a))

  shuffled : (g s v r t : Bool) → ((g || s) || (v || (r || t))) ≡ (((g || v) || r) || (s || t))
  shuffled true s v r t = refl
  shuffled false true true r t = refl
  shuffled false true false true t = refl
  shuffled false true false false t = refl
  shuffled false false true r t = refl
  shuffled false false false true t = refl
  shuffled false false false false t = refl

  all_named : (ms : List Move) → is_among n (temporaries_of ms) ≡ mentions (same_cell (Temp n)) ms
  all_named [] = refl
  all_named (m ∷ ms) =
      let p = same_cell (Temp n) in
      list_any-append (λ k. k == n) (goal_temporaries m.to) (temporaries_in m.value ++ temporaries_of ms)
      ∙ (or_both _ _ _ _ (goal_named m.to)
      (list_any-append (λ k. k == n) (temporaries_in m.value) (temporaries_of ms) ∙ or_both _ _ _ _ (tree_named m.value) (all_named ms))
      ∙ shuffled (some_goal_cell p m.to) (sets_by p m.to) (some_cell p m.value) (some_read p ms) (some_set p ms))

-- how many differ

clash : (b : Bool) → b ≡ true → b ≡ false → ⊥
clash b e f = let k : true ≡ false = sym e ∙ f in cc

first_among : (n : ℕ) (ns : List ℕ) → is_among n (n ∷ ns) ≡ true
first_among n ns = let same : n == n ≡ true = grind (arith, nat_tests) in ap (λ (b : Bool). b || is_among n ns) same

later_among : (m n : ℕ) (ns : List ℕ) → is_among m ns ≡ true → is_among m (n ∷ ns) ≡ true
later_among m n ns e = by (n == m)
  where
    by : (b : Bool) → (b || is_among m ns) ≡ true
    by true = refl
    by false = e

more : (b : Bool) (c k : ℕ) → (b ≡ true → c ≤ suc k) → (b ≡ false → c ≤ k) → (if b then c else suc c) ≤ suc k
more true c k f g = f refl
more false c k f g = let h = g refl in omega (arith, h)

none_differ : (ns : List ℕ) → ((n : ℕ) → is_among n ns ≡ true → ⊥) → count_different ns ≤ 0
none_differ [] h = omega arith
none_differ (n ∷ ns) h = absurd (h n (first_among n ns))

one_differs : (a : ℕ) (ns : List ℕ) → ((n : ℕ) → is_among n ns ≡ true → n ≡ a) → count_different ns ≤ 1
one_differs a [] h = omega arith
one_differs a (n ∷ ns) h =
    more (is_among n ns) (count_different ns) 0 (λ e. one_differs a ns (λ m f. h m (later_among m n ns f)))
    (λ e. none_differ ns (λ m f. clash (is_among n ns)
    (subst (λ (k : ℕ). is_among k ns ≡ true) (h m (later_among m n ns f) ∙ sym (h n (first_among n ns))) f) e))

two_differ : (a b : ℕ) (ns : List ℕ) → ((n : ℕ) → is_among n ns ≡ true → (n ≡ a) ⊎ (n ≡ b)) → count_different ns ≤ 2
two_differ a b [] h = omega arith
two_differ a b (n ∷ ns) h =
    more (is_among n ns) (count_different ns) 1 (λ e. two_differ a b ns (λ m f. h m (later_among m n ns f)))
    (λ e. elim (h n (first_among n ns)) [
      | inl p ↦ one_differs b ns (λ m f. elim (h m (later_among m n ns f)) [
        | inl q ↦ absurd (clash (is_among n ns) (subst (λ (k : ℕ). is_among k ns ≡ true) (q ∙ sym p) f) e)
        | inr q ↦ q
      ])
      | inr p ↦ one_differs a ns (λ m f. elim (h m (later_among m n ns f)) [
        | inl q ↦ q
        | inr q ↦ absurd (clash (is_among n ns) (subst (λ (k : ℕ). is_among k ns ≡ true) (q ∙ sym p) f) e)
      ])
    ])

least : (c : ℕ) → c ≤ 2 → max 5 (1 + 2 * c) ≡ 5
least c h = omega (arith, h)

pub least_room : (a b : ℕ) (ms : List Move) → ((n : ℕ) → mentions (same_cell (Temp n)) ms ≡ true → (n ≡ a) ⊎ (n ≡ b)) → room_of ms ≡ 5
least_room a b ms h = least (count_different (temporaries_of ms)) (two_differ a b (temporaries_of ms) (λ n e. h n (sym (all_named n ms) ∙ e)))
