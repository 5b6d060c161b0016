-- Each leaf of a normal form is a leaf of the tree, or a number that is a word.
use Rattle.std.proofs.Common.{ℕ, ◌^◌, ◌<◌, ◌⊎◌, inl, inr, true, false, cond, List, get_or, refl, sym, subst}
use Rattle.std.specs.Prelude.{◌==◌}
use Rattle.std.specs.List.{All}
use Rattle.std.proofs.lemmas.List.Elements.{All-map}
use Rattle.rtl_word.specs.Words.{IsWordSize, word_neg}
use Rattle.rtl_tree.specs.Trees.{Tree, Number, Symbol, CodeLabel, Read, Load, Unary, Binary, NoPair, AnyNumber, AnyName}
use Rattle.rtl_tree.specs.Moves.{Goal, ToCell, ToMemory, Move}
use Rattle.rtl_tree.specs.Sorts.{IsFitting}
use Rattle.rtl_tree.specs.declared.expressions.Width.TheVariants.{Byte, Full}
use Rattle.rtl_tree.specs.declared.expressions.UnOp.TheVariants.{Sxb}
use Rattle.rtl_tree.specs.declared.expressions.BinOp.TheVariants.{And}
use Rattle.rtl_norm.specs.Normal.{finish, norm}
use Rattle.rtl_norm.specs.Transfers.{stored_byte, norm_goal, norm_value, norm_move, norm_moves, IsGoalFitting, IsMoveFitting}
use Rattle.rtl_norm.proofs.Rewrites.{Rewrites, folds, folds_one, swaps, adds, joins, drops, compares, mirrors, negates, twice_neg, twice_not, extends, extends_low, cuts, bytes, goes}
use Rattle.rtl_norm.proofs.Finish.{finish_keeps, fits_kept, norm_fits}
use Rattle.rtl_norm_form.specs.Leaves.{IsLeafOf, IsLeafOfGoal, IsLeafOfMove, IsWord}

-- each leaf has the property
abbrev pub AllLeaves : (Tree → Type 0) → Tree → Type 0
AllLeaves P (Load d a) = AllLeaves P a
AllLeaves P (Unary o a) = AllLeaves P a
AllLeaves P (Binary o a b) = AllLeaves P a × AllLeaves P b
AllLeaves P t = P t

abbrev pub AllLeavesOfGoal : (Tree → Type 0) → Goal → Type 0
AllLeavesOfGoal P (ToCell c) = P (Read c)
AllLeavesOfGoal P (ToMemory d a) = AllLeaves P a

abbrev pub AllLeavesOfMove : (Tree → Type 0) → Move → Type 0
AllLeavesOfMove P m = AllLeavesOfGoal P m.to × AllLeaves P m.value

-- what the numbers of a tree and its leaves are
record Has (w : ℕ) (P : Tree → Type 0) (t : Tree) : Type 0 where
  fits : IsFitting w t
  leaves : AllLeaves P t

-- a property that each word has stays with the leaves
module _ (w : ℕ) (size : IsWordSize w) (P : Tree → Type 0) (words : (n : ℕ) → n < 2 ^ w → P (Number n)) where
  leaves_kept : (t u : Tree) → Rewrites w t u → IsFitting w u → AllLeaves P t → AllLeaves P u
  leaves_kept _ _ (folds o a b v e) f h = words v f
  leaves_kept _ _ (folds_one o a v e) f h = words v f
  leaves_kept _ _ (swaps o a b e i j) f h = (h.1, h.0)
  leaves_kept _ _ (adds a c) f h = (h.0, words (word_neg w c) f.1)
  leaves_kept _ _ (joins o p a c d v e) f h = (h.0.0, words v f.1)
  leaves_kept _ _ (drops o a c e) f h = h.0
  leaves_kept _ _ (compares r a b) f h = h
  leaves_kept _ _ (mirrors r a b m i j) f h = (h.1, h.0)
  leaves_kept _ _ (negates a c e) f h = h.1
  leaves_kept _ _ (twice_neg a) f h = h
  leaves_kept _ _ (twice_not a) f h = h
  leaves_kept _ _ (extends a) f h = h
  leaves_kept _ _ (extends_low a c e) f h = h.0
  leaves_kept _ _ (cuts a c e) f h = h
  leaves_kept _ _ (bytes a c e) f h = h.0
  leaves_kept _ _ (goes a c e) f h = h.1

  kept : (t u : Tree) → Rewrites w t u → Has w P t → Has w P u
  kept t u r h =
      let f = fits_kept w size t u r h.fits in
      record { fits = f; leaves = leaves_kept t u r f h.leaves }

  finish_leaves : (t : Tree) → IsFitting w t → AllLeaves P t → AllLeaves P (finish w t)
  finish_leaves t f h = (finish_keeps w (Has w P) kept t (record { fits = f; leaves = h })).leaves

  pub norm_leaves : (t : Tree) → IsFitting w t → AllLeaves P t → AllLeaves P (norm w t)
  norm_leaves (Load d a) f h = finish_leaves (Load d (norm w a)) (norm_fits w a size f) (norm_leaves a f h)
  norm_leaves (Unary o a) f h = finish_leaves (Unary o (norm w a)) (norm_fits w a size f) (norm_leaves a f h)
  norm_leaves (Binary o a b) f h =
      finish_leaves (Binary o (norm w a) (norm w b)) (norm_fits w a size f.0, norm_fits w b size f.1) (norm_leaves a f.0 h.0, norm_leaves b f.1 h.1)
  norm_leaves (Number n) f h = h
  norm_leaves (Symbol n) f h = h
  norm_leaves (CodeLabel l) f h = h
  norm_leaves (Read c) f h = h
  norm_leaves NoPair f h = h
  norm_leaves (AnyNumber n) f h = h
  norm_leaves (AnyName n) f h = h

  stored_leaves : (t : Tree) → AllLeaves P t → AllLeaves P (stored_byte t)
  stored_leaves (Unary Sxb b) h = h
  stored_leaves (Binary And b (Number c)) h =
      elim (c == 255) as (λ x. AllLeaves P (cond x b (Binary And b (Number c)))) [ true ↦ h.0 | false ↦ h ]
  stored_leaves _ h = h

  goal_leaves : (g : Goal) → IsGoalFitting w g → AllLeavesOfGoal P g → AllLeavesOfGoal P (norm_goal w g)
  goal_leaves (ToCell c) f h = h
  goal_leaves (ToMemory d a) f h = norm_leaves a f h

  value_leaves : (g : Goal) (t : Tree) → IsFitting w t → AllLeaves P t → AllLeaves P (norm_value w g t)
  value_leaves (ToCell c) t f h = norm_leaves t f h
  value_leaves (ToMemory Full a) t f h = norm_leaves t f h
  value_leaves (ToMemory Byte a) t f h = stored_leaves (norm w t) (norm_leaves t f h)

  pub move_leaves : (m : Move) → IsMoveFitting w m → AllLeavesOfMove P m → AllLeavesOfMove P (norm_move w m)
  move_leaves m f h = (goal_leaves m.to f.0 h.0, value_leaves m.to m.value f.1 h.1)

  pub moves_leaves : (ms : List Move) → All (IsMoveFitting w) ms → All (AllLeavesOfMove P) ms → All (AllLeavesOfMove P) (norm_moves w ms)
  moves_leaves ms f h =
      All-map (AllLeavesOfMove P) (norm_move w) ms (λ k d lt. move_leaves (get_or ms k d) (f k d lt) (h k d lt))

-- the leaves one by one
all_of : (P : Tree → Type 0) (t : Tree) → ((u : Tree) → IsLeafOf u t → P u) → AllLeaves P t
all_of P (Load d a) h = all_of P a h
all_of P (Unary o a) h = all_of P a h
all_of P (Binary o a b) h = (all_of P a (λ u l. h u (inl l)), all_of P b (λ u l. h u (inr l)))
all_of P (Number n) h = h (Number n) refl
all_of P (Symbol n) h = h (Symbol n) refl
all_of P (CodeLabel l) h = h (CodeLabel l) refl
all_of P (Read c) h = h (Read c) refl
all_of P NoPair h = h NoPair refl
all_of P (AnyNumber n) h = h (AnyNumber n) refl
all_of P (AnyName n) h = h (AnyName n) refl

leaf_has : (P : Tree → Type 0) (t u : Tree) → AllLeaves P t → IsLeafOf u t → P u
leaf_has P (Load d a) u h l = leaf_has P a u h l
leaf_has P (Unary o a) u h l = leaf_has P a u h l
leaf_has P (Binary o a b) u h l = elim l [ inl x ↦ leaf_has P a u h.0 x | inr x ↦ leaf_has P b u h.1 x ]
leaf_has P (Number n) u h l = subst P (sym l) h
leaf_has P (Symbol n) u h l = subst P (sym l) h
leaf_has P (CodeLabel m) u h l = subst P (sym l) h
leaf_has P (Read c) u h l = subst P (sym l) h
leaf_has P NoPair u h l = subst P (sym l) h
leaf_has P (AnyNumber n) u h l = subst P (sym l) h
leaf_has P (AnyName n) u h l = subst P (sym l) h

all_of_goal : (P : Tree → Type 0) (g : Goal) → ((u : Tree) → IsLeafOfGoal u g → P u) → AllLeavesOfGoal P g
all_of_goal P (ToCell c) h = h (Read c) refl
all_of_goal P (ToMemory d a) h = all_of P a h

goal_has : (P : Tree → Type 0) (g : Goal) (u : Tree) → AllLeavesOfGoal P g → IsLeafOfGoal u g → P u
goal_has P (ToCell c) u h l = subst P (sym l) h
goal_has P (ToMemory d a) u h l = leaf_has P a u h l

pub leaf_of_normal : (w : ℕ) (m : Move) (u : Tree) → IsWordSize w → IsMoveFitting w m → IsLeafOfMove u (norm_move w m) → IsLeafOfMove u m ⊎ IsWord w u
leaf_of_normal w m u z f l =
    let P : Tree → Type 0 = λ x. IsLeafOfMove x m ⊎ IsWord w x in
    let own : AllLeavesOfMove P m = (all_of_goal P m.to (λ x k. inl (inl k)), all_of P m.value (λ x k. inl (inr k))) in
    let all = move_leaves w z P (λ n h. inr h) m f own in
    elim l [ inl k ↦ goal_has P (norm_move w m).to u all.0 k | inr k ↦ leaf_has P (norm_move w m).value u all.1 k ]
