-- The cells of trees: what filling, the normal form and likeness keep.
use Rattle.std.proofs.Common.{◌≡◌, ℕ, Bool, true, false, cond, ◌||◌, List, slice_get, refl, sym, ap, ◌∙◌}
use Rattle.std.specs.Prelude.{◌==◌}
use Rattle.rtl_tree.specs.declared.cells.Cell.{Cell}
use Rattle.rtl_tree.specs.declared.expressions.Width.TheVariants.{Byte, Full}
use Rattle.rtl_tree.specs.declared.expressions.UnOp.TheVariants.{Neg, Not, Sxb, Test}
use Rattle.rtl_tree.specs.declared.expressions.BinOp.TheVariants.{And}
use Rattle.rtl_tree.specs.Trees.{Tree, Number, Symbol, CodeLabel, Read, Load, Unary, Binary, NoPair, AnyNumber, AnyName}
use Rattle.rtl_tree.specs.Moves.{Goal, ToCell, ToMemory}
use Rattle.rtl_tree.specs.Likeness.{IsAlike, equal, loads, unaries, straight, crossed}
use Rattle.rtl_norm.specs.Normal.{norm}
use Rattle.rtl_norm.specs.Transfers.{stored_byte, norm_value}
use Rattle.rtl_norm.proofs.Rewrites.{Rewrites, folds, folds_one, swaps, adds, joins, drops, compares, mirrors, negates, twice_neg, twice_not, extends, extends_low, cuts, goes, bytes}
use Rattle.rtl_norm.proofs.Finish.{finish_keeps}
use Rattle.md_rows.specs.declared.instance.Bound.{Bound}
use Rattle.md_rows.specs.Instances.{filled}
use Rattle.md_filled.specs.Held.{IsHeld}
use Rattle.md_filled.proofs.Rewriting.{word_is, name_is}
use Rattle.temp_machine.specs.Cells.{some_cell}

pub or_false : (a : Bool) → (a || false) ≡ a
or_false true = refl
or_false false = refl

or_swaps : (a b : Bool) → (a || b) ≡ (b || a)
or_swaps true true = refl
or_swaps true false = refl
or_swaps false true = refl
or_swaps false false = refl

pub or_both : (a b c d : Bool) → a ≡ c → b ≡ d → (a || b) ≡ (c || d)
or_both a b c d e f = ap (λ (x : Bool). x || b) e ∙ ap (λ (x : Bool). c || x) f

module _ (q : Cell → Bool) where
  rule_cells : (w : ℕ) (t u : Tree) → Rewrites w t u → some_cell q u ≡ some_cell q t
  rule_cells w _ _ (folds o a b v e) = refl
  rule_cells w _ _ (folds_one o a v e) = refl
  rule_cells w _ _ (swaps o a b e k l) = or_swaps (some_cell q b) (some_cell q a)
  rule_cells w _ _ (adds a c) = refl
  rule_cells w _ _ (joins o p a c d v e) = sym (or_false (some_cell q a || false))
  rule_cells w _ _ (drops o a c e) = sym (or_false (some_cell q a))
  rule_cells w _ _ (compares r a b) = refl
  rule_cells w _ _ (mirrors r a b m k l) = or_swaps (some_cell q b) (some_cell q a)
  rule_cells w _ _ (negates a c e) = refl
  rule_cells w _ _ (twice_neg a) = refl
  rule_cells w _ _ (twice_not a) = refl
  rule_cells w _ _ (extends a) = refl
  rule_cells w _ _ (extends_low a c e) = sym (or_false (some_cell q a))
  rule_cells w _ _ (cuts a c e) = refl
  rule_cells w _ _ (bytes a c e) = sym (or_false (some_cell q a))
  rule_cells w _ _ (goes a c e) = refl

  pub norm_cells : (w : ℕ) (t : Tree) → some_cell q (norm w t) ≡ some_cell q t
  norm_cells w (Load d a) =
      finish_keeps w (λ u. some_cell q u ≡ some_cell q a) (λ t u s e. rule_cells w t u s ∙ e) (Load d (norm w a)) (norm_cells w a)
  norm_cells w (Unary o a) =
      finish_keeps w (λ u. some_cell q u ≡ some_cell q a) (λ t u s e. rule_cells w t u s ∙ e) (Unary o (norm w a)) (norm_cells w a)
  norm_cells w (Binary o a b) =
      finish_keeps w (λ u. some_cell q u ≡ (some_cell q a || some_cell q b)) (λ t u s e. rule_cells w t u s ∙ e) (Binary o (norm w a) (norm w b))
      (or_both _ _ _ _ (norm_cells w a) (norm_cells w b))
  norm_cells w (Read c) = refl
  norm_cells w (Number n) = refl
  norm_cells w (Symbol n) = refl
  norm_cells w (CodeLabel l) = refl
  norm_cells w NoPair = refl
  norm_cells w (AnyNumber n) = refl
  norm_cells w (AnyName n) = refl

  stored_cells : (t : Tree) → some_cell q (stored_byte t) ≡ some_cell q t
  stored_cells (Unary Sxb b) = refl
  stored_cells (Unary Neg b) = refl
  stored_cells (Unary Not b) = refl
  stored_cells (Unary (Test r) b) = refl
  stored_cells (Binary And b (Number c)) = by (c == 255)
    where
      by : (k : Bool) → some_cell q (cond k b (Binary And b (Number c))) ≡ (some_cell q b || false)
      by true = sym (or_false (some_cell q b))
      by false = refl
  stored_cells t = refl

  value_cells : (w : ℕ) (g : Goal) (t : Tree) → some_cell q (norm_value w g t) ≡ some_cell q t
  value_cells w (ToMemory Byte a) t = stored_cells (norm w t) ∙ norm_cells w t
  value_cells w (ToMemory Full a) t = norm_cells w t
  value_cells w (ToCell c) t = norm_cells w t

  pub alike_cells : (x y : Tree) → IsAlike x y → some_cell q x ≡ some_cell q y
  alike_cells _ _ (equal a) = refl
  alike_cells _ _ (loads d a b h) = alike_cells a b h
  alike_cells _ _ (unaries o a b h) = alike_cells a b h
  alike_cells _ _ (straight o a b c d h i) = or_both _ _ _ _ (alike_cells a c h) (alike_cells b d i)
  alike_cells _ _ (crossed o a b c d k h i) =
      or_both _ _ _ _ (alike_cells a d h) (alike_cells b c i) ∙ or_swaps (some_cell q d) (some_cell q c)

-- the cells of a filled tree, by those of the tree
module _ (q : Cell → Bool) (w : ℕ) (b : List Bound) where
  abbrev through : Cell → Bool
  through c = some_cell q (filled b (Read c))

  filled_cells : (t : Tree) → IsHeld w b t → some_cell q (filled b t) ≡ some_cell through t
  filled_cells (Read c) h = refl
  filled_cells (Load d a) h = filled_cells a h
  filled_cells (Unary o a) h = filled_cells a h
  filled_cells (Binary o a c) h = or_both _ _ _ _ (filled_cells a h.0) (filled_cells c h.1)
  filled_cells (Number n) h = refl
  filled_cells (Symbol n) h = refl
  filled_cells (CodeLabel l) h = refl
  filled_cells NoPair h = refl
  filled_cells (AnyNumber n) h = word_is w (λ t. some_cell q t ≡ false) (AnyNumber n) (slice_get b n) h (λ n l. refl)
  filled_cells (AnyName n) h = name_is (λ t. some_cell q t ≡ false) (AnyName n) (slice_get b n) h (λ n. refl) (λ l. refl)

  -- a value, and what its normal form is alike, have the same cells once filled
  pub taken_cells : (g : Goal) (t x : Tree) → IsHeld w b t → IsHeld w b (norm_value w g t) → IsAlike (filled b (norm_value w g t)) x
      → some_cell q (filled b t) ≡ some_cell q x
  taken_cells g t x h k a =
      filled_cells t h ∙ (sym (value_cells through w g t) ∙ (sym (filled_cells (norm_value w g t) k) ∙ alike_cells q (filled b (norm_value w g t)) x a))

  -- a tree has the cells of its normal form
  pub norm_filled_cells : (t : Tree) → IsHeld w b t → IsHeld w b (norm w t) → some_cell q (filled b t) ≡ some_cell q (filled b (norm w t))
  norm_filled_cells t h k = filled_cells t h ∙ (sym (norm_cells through w t) ∙ sym (filled_cells (norm w t) k))
