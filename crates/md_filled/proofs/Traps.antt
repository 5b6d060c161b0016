-- A row's other assignments are made wherever its marked ones are: what can trap in them is evaluated there as well.
use Rattle.std.proofs.Common.{◌≡◌, ℕ, Bool, true, false, not, ◌&&◌, ◌||◌, List, slice_get, Option, Some, None, Result, Ok, Err, refl, sym, subst, ap, ◌∙◌, arith, ◌⊎◌, inl, inr}
use Rattle.std.specs.Prelude.{if◌then◌else◌}
use Rattle.rtl_word.specs.declared.Rel.{Rel}
use Rattle.rtl_word.specs.Words.{IsWordSize}
use Rattle.rtl_tree.specs.declared.cells.Cell.{Cell}
use Rattle.rtl_tree.specs.declared.cells.Cell.TheVariants.{Hard, Temp, Flag, Pc, Input, Output, Halt, Hole as RegisterHole}
use Rattle.rtl_tree.specs.declared.expressions.Width.{Width}
use Rattle.rtl_tree.specs.declared.expressions.UnOp.{UnOp}
use Rattle.rtl_tree.specs.declared.expressions.UnOp.TheVariants.{Neg, Not, Sxb, Test}
use Rattle.rtl_tree.specs.declared.expressions.BinOp.{BinOp}
use Rattle.rtl_tree.specs.declared.expressions.BinOp.TheVariants.{Add, Sub, Mul, Div, Divu, Rem, Remu, And, Or, Xor, Shl, Shr, Shru, Cmp, Pair, When}
use Rattle.rtl_tree.specs.Trees.{Tree, Number, Symbol, CodeLabel, Read, Load, Unary, Binary, NoPair, AnyNumber, AnyName}
use Rattle.rtl_tree.specs.Moves.{Goal, ToCell, ToMemory, Move}
use Rattle.rtl_tree.specs.Same.{same_tree}
use Rattle.rtl_tree.specs.Sorts.{IsFitting, IsWordTree, IsTestedTree}
use Rattle.rtl_tree.specs.Likeness.{IsAlike}
use Rattle.rtl_tree.proofs.Equality.{same_tree-is}
use Rattle.rtl_effect.specs.Views.{Stop, Mark, View, Seen, bind, width_of, touched, word_at, unary_seen, binary_seen, unary_on, binary_on, load_on, seen, test_seen}
use Rattle.rtl_effect.specs.Effects.{mark_of_two, marked, place_at, target, chosen, aimed, jump, needed, valued, Fine, done, tested_cell, place_of, tested_by}
use Rattle.md_rows.specs.declared.instance.Bound.{Bound}
use Rattle.md_rows.specs.Instances.{held_by, filled}
use Rattle.md_match.specs.Searches.{goal_tree, unary_traps, binary_traps, occurs_by, occurs_in_move}
use Rattle.md_match.specs.Does.{AllTraps}
use Rattle.md_filled.specs.Held.{IsHeld}
use Rattle.md_filled.proofs.Rewriting.{register_is, word_is, name_is}
use Rattle.md_filled.proofs.Alike.{bound, stop_is_no_ok, alike_seen, alike_jump, alike_marked, alike_load, LoadAlike}

clash : false ≡ true → ⊥
clash e = cc

unlike : true ≡ false → ⊥
unlike e = cc

-- a node that can trap
abbrev pub IsTrapNode : Tree → Type 0
IsTrapNode (Load d a) = Unit {0}
IsTrapNode (Unary o a) = unary_traps o ≡ true
IsTrapNode (Binary o a b) = binary_traps o ≡ true
IsTrapNode _ = ⊥

abbrev is_node : Tree → Bool
is_node (Load d a) = true
is_node (Unary o a) = true
is_node (Binary o a b) = true
is_node _ = false

either_of : (a b : Bool) → (a || b) ≡ true → (a ≡ true) ⊎ (b ≡ true)
either_of true b e = inl refl
either_of false b e = inr e

module _ (w : ℕ) (b : List Bound) (v : View) where
  pub record IsSeen (t : Tree) : Type 0 where
    pub value : Option ℕ
    pub is : seen w t v ≡ Ok value

  node_of : (x : Tree) → IsTrapNode x → is_node (filled b x) ≡ true
  node_of (Load d a) n = refl
  node_of (Unary o a) n = refl
  node_of (Binary o a c) n = refl
  node_of _ n = absurd n

  -- a node occurs in no leaf
  pub no_leaf : (x t : Tree) → IsTrapNode x → is_node (filled b t) ≡ false → same_tree (filled b x) (filled b t) ≡ true → ⊥
  no_leaf x t n l e = unlike (sym (node_of x n) ∙ (ap is_node (same_tree-is (filled b x) (filled b t) e) ∙ l))

  pub leaf_of : (t : Tree) → IsHeld w b t → is_node t ≡ false → is_node (filled b t) ≡ false
  leaf_of (Number n) h e = refl
  leaf_of (Symbol n) h e = refl
  leaf_of (CodeLabel l) h e = refl
  leaf_of (Read (RegisterHole n)) h e = register_is (λ u. is_node u ≡ false) (Read (RegisterHole n)) (slice_get b n) h (λ n. refl) (λ n. refl)
  leaf_of (Read (Hard n)) h e = refl
  leaf_of (Read (Temp n)) h e = refl
  leaf_of (Read (Flag n)) h e = refl
  leaf_of (Read Pc) h e = refl
  leaf_of (Read Input) h e = refl
  leaf_of (Read Output) h e = refl
  leaf_of (Read Halt) h e = refl
  leaf_of (Load d a) h e = absurd (unlike e)
  leaf_of (Unary o a) h e = absurd (unlike e)
  leaf_of (Binary o a c) h e = absurd (unlike e)
  leaf_of NoPair h e = refl
  leaf_of (AnyNumber n) h e = word_is w (λ u. is_node u ≡ false) (AnyNumber n) (slice_get b n) h (λ n l. refl)
  leaf_of (AnyName n) h e = name_is (λ u. is_node u ≡ false) (AnyName n) (slice_get b n) h (λ n. refl) (λ l. refl)

  same_seen : (x t : Tree) → IsSeen (filled b t) → same_tree (filled b x) (filled b t) ≡ true → IsSeen (filled b x)
  same_seen x t s e = subst IsSeen (sym (same_tree-is (filled b x) (filled b t) e)) s

  not_pair : (x p q : Tree) → IsTrapNode x → filled b x ≡ Binary Pair p q → ⊥
  not_pair (Load d a) p q n e = unload e
    where
      unload : Load d (filled b a) ≡ Binary Pair p q → ⊥
      unload e = cc
  not_pair (Unary o a) p q n e = ununary e
    where
      ununary : Unary o (filled b a) ≡ Binary Pair p q → ⊥
      ununary e = cc
  not_pair (Binary o a c) p q n e = same e
    where
      same : Binary o (filled b a) (filled b c) ≡ Binary Pair p q → ⊥
      same e = let k : o ≡ Pair = cc in clash (sym (ap binary_traps k) ∙ n)
  not_pair _ p q n e = absurd n

  part_of_two : (x : Tree) (o : BinOp) (a c : Tree) (u : Option ℕ) → (IsSeen (filled b a) → occurs_by (filled b) x a ≡ true → IsSeen (filled b x))
      → (IsSeen (filled b c) → occurs_by (filled b) x c ≡ true → IsSeen (filled b x))
      → binary_on w o (seen w (filled b a) v) (seen w (filled b c) v) ≡ Ok u → (occurs_by (filled b) x a || occurs_by (filled b) x c) ≡ true → IsSeen (filled b x)
  part_of_two x o a c u f g s e =
      let p = bound (seen w (filled b a) v) _ u s in
      let q = bound (seen w (filled b c) v) _ u p.rest in
      elim (either_of (occurs_by (filled b) x a) (occurs_by (filled b) x c) e) [
        | inl k ↦ f (record { value = p.value; is = p.is }) k
        | inr k ↦ g (record { value = q.value; is = q.is }) k
      ]

  mutual
    -- each node that can trap, of a tree that is seen, is seen
    pub part_seen : (x t : Tree) → IsTrapNode x → IsHeld w b t → IsSeen (filled b t) → occurs_by (filled b) x t ≡ true → IsSeen (filled b x)
    part_seen x (Load d a) n h s e = elim (either_of _ (occurs_by (filled b) x a) e) [
      | inl f ↦ same_seen x (Load d a) s f
      | inr f ↦ (let k = bound (seen w (filled b a) v) _ s.value s.is in part_seen x a n h (record { value = k.value; is = k.is }) f)
    ]
    part_seen x (Unary Neg a) n h s e = elim (either_of _ (occurs_by (filled b) x a) e) [
      | inl f ↦ same_seen x (Unary Neg a) s f
      | inr f ↦ (let k = bound (seen w (filled b a) v) _ s.value s.is in part_seen x a n h (record { value = k.value; is = k.is }) f)
    ]
    part_seen x (Unary Not a) n h s e = elim (either_of _ (occurs_by (filled b) x a) e) [
      | inl f ↦ same_seen x (Unary Not a) s f
      | inr f ↦ (let k = bound (seen w (filled b a) v) _ s.value s.is in part_seen x a n h (record { value = k.value; is = k.is }) f)
    ]
    part_seen x (Unary Sxb a) n h s e = elim (either_of _ (occurs_by (filled b) x a) e) [
      | inl f ↦ same_seen x (Unary Sxb a) s f
      | inr f ↦ (let k = bound (seen w (filled b a) v) _ s.value s.is in part_seen x a n h (record { value = k.value; is = k.is }) f)
    ]
    part_seen x (Unary (Test r) a) n h s e = elim (either_of _ (occurs_by (filled b) x a) e) [
      | inl f ↦ same_seen x (Unary (Test r) a) s f
      | inr f ↦ part_tested x r a n h s.value s.is f
    ]
    part_seen x (Binary o a c) n h s e = elim (either_of _ (occurs_by (filled b) x a || occurs_by (filled b) x c) e) [
      | inl f ↦ same_seen x (Binary o a c) s f
      | inr f ↦ part_of_two x o a c s.value (λ p g. part_seen x a n h.0 p g) (λ p g. part_seen x c n h.1 p g) s.is f
    ]
    part_seen x (Number m) n h s e = absurd (no_leaf x (Number m) n refl e)
    part_seen x (Symbol m) n h s e = absurd (no_leaf x (Symbol m) n refl e)
    part_seen x (CodeLabel m) n h s e = absurd (no_leaf x (CodeLabel m) n refl e)
    part_seen x (Read c) n h s e = absurd (no_leaf x (Read c) n (leaf_of (Read c) h refl) e)
    part_seen x NoPair n h s e = absurd (no_leaf x NoPair n refl e)
    part_seen x (AnyNumber m) n h s e = absurd (no_leaf x (AnyNumber m) n (leaf_of (AnyNumber m) h refl) e)
    part_seen x (AnyName m) n h s e = absurd (no_leaf x (AnyName m) n (leaf_of (AnyName m) h refl) e)

    part_tested : (x : Tree) (r : Rel) (t : Tree) → IsTrapNode x → IsHeld w b t → (u : Option ℕ) → test_seen w r (filled b t) v ≡ Ok u
        → occurs_by (filled b) x t ≡ true → IsSeen (filled b x)
    part_tested x r (Binary Pair a c) n h u s e = elim (either_of _ (occurs_by (filled b) x a || occurs_by (filled b) x c) e) [
      | inl f ↦ absurd (not_pair x (filled b a) (filled b c) n (same_tree-is (filled b x) (Binary Pair (filled b a) (filled b c)) f))
      | inr f ↦ part_of_two x (Cmp r) a c u (λ p g. part_seen x a n h.0 p g) (λ p g. part_seen x c n h.1 p g) s f
    ]
    part_tested x r (Binary _ a c) n h u s e = absurd (stop_is_no_ok _ u s)
    part_tested x r (Load d a) n h u s e = absurd (stop_is_no_ok _ u s)
    part_tested x r (Unary o a) n h u s e = absurd (stop_is_no_ok _ u s)
    part_tested x r (Number m) n h u s e = absurd (no_leaf x (Number m) n refl e)
    part_tested x r (Symbol m) n h u s e = absurd (no_leaf x (Symbol m) n refl e)
    part_tested x r (CodeLabel m) n h u s e = absurd (no_leaf x (CodeLabel m) n refl e)
    part_tested x r (Read c) n h u s e = absurd (no_leaf x (Read c) n (leaf_of (Read c) h refl) e)
    part_tested x r NoPair n h u s e = absurd (no_leaf x NoPair n refl e)
    part_tested x r (AnyNumber m) n h u s e = absurd (no_leaf x (AnyNumber m) n (leaf_of (AnyNumber m) h refl) e)
    part_tested x r (AnyName m) n h u s e = absurd (no_leaf x (AnyName m) n (leaf_of (AnyName m) h refl) e)

  -- of what a flag becomes
  pub part_marked : (x t : Tree) → IsTrapNode x → IsHeld w b t → (r : Mark) → marked w (filled b t) v ≡ Ok r → occurs_by (filled b) x t ≡ true → IsSeen (filled b x)
  part_marked x (Binary Pair a c) n h r s e =
      let p = bound (seen w (filled b a) v) _ r s in
      let q = bound (seen w (filled b c) v) _ r p.rest in
      elim (either_of _ (occurs_by (filled b) x a || occurs_by (filled b) x c) e) [
        | inl f ↦ absurd (not_pair x (filled b a) (filled b c) n (same_tree-is (filled b x) (Binary Pair (filled b a) (filled b c)) f))
        | inr f ↦ elim (either_of (occurs_by (filled b) x a) (occurs_by (filled b) x c) f) [
          | inl g ↦ part_seen x a n h.0 (record { value = p.value; is = p.is }) g
          | inr g ↦ part_seen x c n h.1 (record { value = q.value; is = q.is }) g
        ]
      ]
  part_marked x (Binary _ a c) n h r s e = absurd (stop_is_no_ok _ r s)
  part_marked x (Load d a) n h r s e = absurd (stop_is_no_ok _ r s)
  part_marked x (Unary o a) n h r s e = absurd (stop_is_no_ok _ r s)
  part_marked x (Number m) n h r s e = absurd (no_leaf x (Number m) n refl e)
  part_marked x (Symbol m) n h r s e = absurd (no_leaf x (Symbol m) n refl e)
  part_marked x (CodeLabel m) n h r s e = absurd (no_leaf x (CodeLabel m) n refl e)
  part_marked x (Read c) n h r s e = absurd (no_leaf x (Read c) n (leaf_of (Read c) h refl) e)
  part_marked x NoPair n h r s e = absurd (no_leaf x NoPair n refl e)
  part_marked x (AnyNumber m) n h r s e = absurd (no_leaf x (AnyNumber m) n (leaf_of (AnyNumber m) h refl) e)
  part_marked x (AnyName m) n h r s e = absurd (no_leaf x (AnyName m) n (leaf_of (AnyName m) h refl) e)

  -- of where a jump leads
  part_word : (x t : Tree) → IsTrapNode x → IsHeld w b t → (q : Option ℕ) → bind (seen w (filled b t) v) (λ y. Ok (place_at v y)) ≡ Ok q
      → occurs_by (filled b) x t ≡ true → IsSeen (filled b x)
  part_word x t n h q s e = let k = bound (seen w (filled b t) v) _ q s in part_seen x t n h (record { value = k.value; is = k.is }) e

  part_target : (x t : Tree) → IsTrapNode x → IsHeld w b t → (q : Option ℕ) → target w (filled b t) v ≡ Ok q → occurs_by (filled b) x t ≡ true → IsSeen (filled b x)
  part_target x (Load d a) n h q s e = part_word x (Load d a) n h q s e
  part_target x (Unary o a) n h q s e = part_word x (Unary o a) n h q s e
  part_target x (Binary o a c) n h q s e = part_word x (Binary o a c) n h q s e
  part_target x (Number m) n h q s e = absurd (no_leaf x (Number m) n refl e)
  part_target x (Symbol m) n h q s e = absurd (no_leaf x (Symbol m) n refl e)
  part_target x (CodeLabel m) n h q s e = absurd (no_leaf x (CodeLabel m) n refl e)
  part_target x (Read c) n h q s e = absurd (no_leaf x (Read c) n (leaf_of (Read c) h refl) e)
  part_target x NoPair n h q s e = absurd (no_leaf x NoPair n refl e)
  part_target x (AnyNumber m) n h q s e = absurd (no_leaf x (AnyNumber m) n (leaf_of (AnyNumber m) h refl) e)
  part_target x (AnyName m) n h q s e = absurd (no_leaf x (AnyName m) n (leaf_of (AnyName m) h refl) e)

  part_aimed : (x t : Tree) → IsTrapNode x → IsHeld w b t → (q : Option ℕ) → bind (target w (filled b t) v) aimed ≡ Ok q → occurs_by (filled b) x t ≡ true → IsSeen (filled b x)
  part_aimed x t n h q s e = let k = bound (target w (filled b t) v) aimed q s in part_target x t n h k.value k.is e

  not_when : (x p q : Tree) → IsTrapNode x → filled b x ≡ Binary When p q → ⊥
  not_when (Load d a) p q n e = unload e
    where
      unload : Load d (filled b a) ≡ Binary When p q → ⊥
      unload e = cc
  not_when (Unary o a) p q n e = ununary e
    where
      ununary : Unary o (filled b a) ≡ Binary When p q → ⊥
      ununary e = cc
  not_when (Binary o a c) p q n e = same e
    where
      same : Binary o (filled b a) (filled b c) ≡ Binary When p q → ⊥
      same e = let k : o ≡ When = cc in clash (sym (ap binary_traps k) ∙ n)
  not_when _ p q n e = absurd n

  pub part_jump : (x t : Tree) → IsTrapNode x → IsHeld w b t → (q : Option ℕ) → jump w (filled b t) v ≡ Ok q → occurs_by (filled b) x t ≡ true → IsSeen (filled b x)
  part_jump x (Binary When c l) n h q s e =
      let k = bound (seen w (filled b c) v) _ q s in
      let m = bound (target w (filled b l) v) (chosen v k.value) q k.rest in
      elim (either_of _ (occurs_by (filled b) x c || occurs_by (filled b) x l) e) [
        | inl f ↦ absurd (not_when x (filled b c) (filled b l) n (same_tree-is (filled b x) (Binary When (filled b c) (filled b l)) f))
        | inr f ↦ elim (either_of (occurs_by (filled b) x c) (occurs_by (filled b) x l) f) [
          | inl g ↦ part_seen x c n h.0 (record { value = k.value; is = k.is }) g
          | inr g ↦ part_target x l n h.1 m.value m.is g
        ]
      ]
  part_jump x (Binary o a c) n h q s e = part_aimed x (Binary o a c) n h q s e
  part_jump x (Load d a) n h q s e = part_aimed x (Load d a) n h q s e
  part_jump x (Unary o a) n h q s e = part_aimed x (Unary o a) n h q s e
  part_jump x (Number m) n h q s e = absurd (no_leaf x (Number m) n refl e)
  part_jump x (Symbol m) n h q s e = absurd (no_leaf x (Symbol m) n refl e)
  part_jump x (CodeLabel m) n h q s e = absurd (no_leaf x (CodeLabel m) n refl e)
  part_jump x (Read c) n h q s e = absurd (no_leaf x (Read c) n (leaf_of (Read c) h refl) e)
  part_jump x NoPair n h q s e = absurd (no_leaf x NoPair n refl e)
  part_jump x (AnyNumber m) n h q s e = absurd (no_leaf x (AnyNumber m) n (leaf_of (AnyNumber m) h refl) e)
  part_jump x (AnyName m) n h q s e = absurd (no_leaf x (AnyName m) n (leaf_of (AnyName m) h refl) e)
