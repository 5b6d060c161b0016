-- No rule makes a tree deeper.
use Rattle.std.proofs.Common.{ℕ, ◌≤◌, suc, max, true, false, cond, arith}
use Rattle.std.specs.Prelude.{◌==◌}
use Rattle.rtl_tree.specs.Trees.{Tree, Number, Symbol, CodeLabel, Read, Load, Unary, Binary, NoPair, AnyNumber, AnyName}
use Rattle.rtl_tree.specs.WellFormed.{depth}
use Rattle.rtl_tree.specs.declared.expressions.UnOp.TheVariants.{Sxb}
use Rattle.rtl_tree.specs.declared.expressions.BinOp.TheVariants.{And}
use Rattle.rtl_norm.specs.Normal.{finish, norm}
use Rattle.rtl_norm.specs.Transfers.{stored_byte}
use Rattle.rtl_norm.proofs.Rewrites.{Rewrites, folds, folds_one, swaps, adds, joins, drops, compares, mirrors, negates, twice_neg, twice_not, extends, extends_low, cuts, bytes, goes}
use Rattle.rtl_norm.proofs.Finish.{finish_keeps}

depth_falls : (w : ℕ) (t u : Tree) → Rewrites w t u → depth u ≤ depth t
depth_falls w _ _ (folds o a b v e) = omega arith
depth_falls w _ _ (folds_one o a v e) = omega arith
depth_falls w _ _ (swaps o a b e i j) = omega arith
depth_falls w _ _ (adds a c) = omega arith
depth_falls w _ _ (joins o p a c d v e) = omega arith
depth_falls w _ _ (drops o a c e) = omega arith
depth_falls w _ _ (compares r a b) = omega arith
depth_falls w _ _ (mirrors r a b m i j) = omega arith
depth_falls w _ _ (negates a c e) = omega arith
depth_falls w _ _ (twice_neg a) = omega arith
depth_falls w _ _ (twice_not a) = omega arith
depth_falls w _ _ (extends a) = omega arith
depth_falls w _ _ (extends_low a c e) = omega arith
depth_falls w _ _ (cuts a c e) = omega arith
depth_falls w _ _ (bytes a c e) = omega arith
depth_falls w _ _ (goes a c e) = omega arith

finish_depth : (w n : ℕ) (t : Tree) → depth t ≤ n → depth (finish w t) ≤ n
finish_depth w n t h = finish_keeps w (λ u. depth u ≤ n) (λ x y r p. omega (arith, depth_falls w x y r)) t h

pub norm_depth : (w : ℕ) (t : Tree) → depth (norm w t) ≤ depth t
norm_depth w (Load d a) = finish_depth w (suc (depth a)) (Load d (norm w a)) (omega (arith, norm_depth w a))
norm_depth w (Unary o a) = finish_depth w (suc (depth a)) (Unary o (norm w a)) (omega (arith, norm_depth w a))
norm_depth w (Binary o a b) =
    finish_depth w (suc (max (depth a) (depth b))) (Binary o (norm w a) (norm w b)) (omega (arith, norm_depth w a, norm_depth w b))
norm_depth w (Number n) = omega arith
norm_depth w (Symbol n) = omega arith
norm_depth w (CodeLabel l) = omega arith
norm_depth w (Read c) = omega arith
norm_depth w NoPair = omega arith
norm_depth w (AnyNumber n) = omega arith
norm_depth w (AnyName n) = omega arith

pub stored_depth : (t : Tree) → depth (stored_byte t) ≤ depth t
stored_depth (Unary Sxb b) = omega arith
stored_depth (Binary And b (Number c)) =
    elim (c == 255) as (λ x. depth (cond x b (Binary And b (Number c))) ≤ suc (max (depth b) 1)) [ true ↦ omega arith | false ↦ omega arith ]
stored_depth _ = omega arith
