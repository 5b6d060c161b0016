-- The normal form reads no other cell.
use Rattle.std.proofs.Common.{◌≡◌, ℕ, zero, suc, ◌||◌, ◌&&◌, not, Bool, true, false, List, [], ◌∷◌, Option, Some, None, refl, sym, subst}
use Rattle.rtl_tree.specs.declared.cells.Cell.{Cell}
use Rattle.rtl_tree.specs.declared.cells.Cell.TheVariants.{Hard, Temp, Flag, Pc, Input, Output, Halt, Hole}
use Rattle.rtl_tree.specs.Trees.{Tree, Number, Symbol, CodeLabel, Read, Load, Unary, Binary, NoPair, AnyNumber, AnyName}
use Rattle.rtl_tree.specs.Same.{same_cell}
use Rattle.rtl_tree.specs.Moves.{Goal, ToCell, ToMemory, Move}
use Rattle.rtl_norm.specs.Normal.{step, weight, follow, steps, finish, norm}
use Rattle.rtl_norm.proofs.Rewrites.{Rewrites, folds, folds_one, swaps, adds, joins, drops, compares, mirrors, negates, twice_neg, twice_not, extends, extends_low, cuts, bytes, goes, step_sound}
use Rattle.rtl_norm_value.specs.Effect.{jump_in_form, with_normal_jump}
use Rattle.temp_machine.specs.Cells.{some_cell, some_goal_cell, sets_by, is_flag, move_reads, reads, reads_beside_flags, reads_for_flag}
use Rattle.color_jumps.specs.Jumps.{JumpReadsLess}

false_true : {A : Type 0} → false ≡ true → A
false_true e = absurd (let k : false ≡ true = e in cc)

or_some : (a b c d : Bool) → (a ≡ true → c ≡ true) → (b ≡ true → d ≡ true) → (a || b) ≡ true → (c || d) ≡ true
or_some true b c d f g e = subst (λ x. (x || d) ≡ true) (sym (f refl)) refl
or_some false b true d f g e = refl
or_some false b false d f g e = g e

or_swap : (a b : Bool) → (a || b) ≡ true → (b || a) ≡ true
or_swap true true e = refl
or_swap true false e = refl
or_swap false true e = refl
or_swap false false e = e

or_false : (a : Bool) → a ≡ true → (a || false) ≡ true
or_false true e = refl
or_false false e = e

and_some : (k a b : Bool) → (a ≡ true → b ≡ true) → (k && a) ≡ true → (k && b) ≡ true
and_some true a b f e = f e
and_some false a b f e = e

module _ (p : Cell → Bool) where
  rewrites_less : (w : ℕ) (t u : Tree) → Rewrites w t u → some_cell p u ≡ true → some_cell p t ≡ true
  rewrites_less w _ _ (folds o a b v e) k = k
  rewrites_less w _ _ (folds_one o a v e) k = k
  rewrites_less w _ _ (swaps o a b e f g) k = or_swap (some_cell p b) (some_cell p a) k
  rewrites_less w _ _ (adds a c) k = k
  rewrites_less w _ _ (joins o q a c d v e) k = or_some (some_cell p a) false (some_cell p a || false) false (or_false (some_cell p a)) (λ f. f) k
  rewrites_less w _ _ (drops o a c e) k = or_false (some_cell p a) k
  rewrites_less w _ _ (compares q a b) k = k
  rewrites_less w _ _ (mirrors q a b e f g) k = or_swap (some_cell p b) (some_cell p a) k
  rewrites_less w _ _ (negates a c e) k = k
  rewrites_less w _ _ (twice_neg a) k = k
  rewrites_less w _ _ (twice_not a) k = k
  rewrites_less w _ _ (extends a) k = k
  rewrites_less w _ _ (extends_low a c e) k = or_false (some_cell p a) k
  rewrites_less w _ _ (cuts a c e) k = k
  rewrites_less w _ _ (goes a c e) k = k
  rewrites_less w _ _ (bytes a c e) k = or_false (some_cell p a) k

  follow_less : (w : ℕ) (o : Option Tree) (t : Tree) (go : Tree → Tree) → ((u : Tree) → o ≡ Some u → some_cell p u ≡ true → some_cell p t ≡ true)
      → ((u : Tree) → some_cell p (go u) ≡ true → some_cell p u ≡ true) → some_cell p (follow o t go) ≡ true → some_cell p t ≡ true
  follow_less w (Some u) t go f g k = f u refl (g u k)
  follow_less w None t go f g k = k

  steps_less : (w n : ℕ) (t : Tree) → some_cell p (steps w n t) ≡ true → some_cell p t ≡ true
  steps_less w zero t k = k
  steps_less w (suc n) t k = follow_less w (step w t) t (steps w n) (λ u e. rewrites_less w t u (step_sound w t u e)) (steps_less w n) k

  finish_less : (w : ℕ) (t : Tree) → some_cell p (finish w t) ≡ true → some_cell p t ≡ true
  unfolding finish
  finish_less w t k = steps_less w (weight t) t k

  norm_less : (w : ℕ) (t : Tree) → some_cell p (norm w t) ≡ true → some_cell p t ≡ true
  norm_less w (Load d a) k = norm_less w a (finish_less w (Load d (norm w a)) k)
  norm_less w (Unary o a) k = norm_less w a (finish_less w (Unary o (norm w a)) k)
  norm_less w (Binary o a b) k = or_some (some_cell p (norm w a)) (some_cell p (norm w b)) (some_cell p a) (some_cell p b) (norm_less w a) (norm_less w b) (finish_less w (Binary o (norm w a) (norm w b)) k)
  norm_less w (Number n) k = k
  norm_less w (Symbol n) k = k
  norm_less w (CodeLabel l) k = k
  norm_less w (Read c) k = k
  norm_less w NoPair k = k
  norm_less w (AnyNumber n) k = k
  norm_less w (AnyName n) k = k

  form_less : (w : ℕ) (g : Goal) (a : Tree) → some_cell p (jump_in_form w g a) ≡ true → some_cell p a ≡ true
  form_less w (ToCell Pc) a k = norm_less w a k
  form_less w (ToCell (Hard n)) a k = k
  form_less w (ToCell (Temp n)) a k = k
  form_less w (ToCell (Flag n)) a k = k
  form_less w (ToCell Input) a k = k
  form_less w (ToCell Output) a k = k
  form_less w (ToCell Halt) a k = k
  form_less w (ToCell (Hole n)) a k = k
  form_less w (ToMemory d b) a k = k

  move_less : (w : ℕ) (g : Goal) (a : Tree) → (some_goal_cell p g || some_cell p (jump_in_form w g a)) ≡ true → (some_goal_cell p g || some_cell p a) ≡ true
  move_less w g a k = or_some (some_goal_cell p g) (some_cell p (jump_in_form w g a)) (some_goal_cell p g) (some_cell p a) (λ e. e) (form_less w g a) k

module _ (w : ℕ) (c : Cell) where
  reads_less : (ms : List Move) → reads c (with_normal_jump w ms) ≡ true → reads c ms ≡ true
  reads_less [] k = k
  reads_less (m ∷ ms) k =
      or_some (some_goal_cell (same_cell c) m.to || some_cell (same_cell c) (jump_in_form w m.to m.value)) (reads c (with_normal_jump w ms)) (move_reads c m) (reads c ms)
      (move_less (same_cell c) w m.to m.value) (reads_less ms) k

  beside_less : (ms : List Move) → reads_beside_flags c (with_normal_jump w ms) ≡ true → reads_beside_flags c ms ≡ true
  beside_less [] k = k
  beside_less (m ∷ ms) k =
      or_some (not (sets_by is_flag m.to) && (some_goal_cell (same_cell c) m.to || some_cell (same_cell c) (jump_in_form w m.to m.value))) (reads_beside_flags c (with_normal_jump w ms))
      (not (sets_by is_flag m.to) && move_reads c m) (reads_beside_flags c ms)
      (and_some (not (sets_by is_flag m.to)) (some_goal_cell (same_cell c) m.to || some_cell (same_cell c) (jump_in_form w m.to m.value)) (move_reads c m) (move_less (same_cell c) w m.to m.value))
      (beside_less ms) k

  flag_less : (n : ℕ) (ms : List Move) → reads_for_flag n c (with_normal_jump w ms) ≡ true → reads_for_flag n c ms ≡ true
  flag_less n [] k = k
  flag_less n (m ∷ ms) k =
      or_some (sets_by (same_cell (Flag n)) m.to && (some_goal_cell (same_cell c) m.to || some_cell (same_cell c) (jump_in_form w m.to m.value))) (reads_for_flag n c (with_normal_jump w ms))
      (sets_by (same_cell (Flag n)) m.to && move_reads c m) (reads_for_flag n c ms)
      (and_some (sets_by (same_cell (Flag n)) m.to) (some_goal_cell (same_cell c) m.to || some_cell (same_cell c) (jump_in_form w m.to m.value)) (move_reads c m) (move_less (same_cell c) w m.to m.value))
      (flag_less n ms) k

pub jump_reads_less : JumpReadsLess
jump_reads_less w ms c = record { reads = reads_less w c ms; beside_flags = beside_less w c ms; for_flag = λ n. flag_less w c n ms }
