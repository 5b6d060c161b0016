-- Flags stay under tests, and tests over flags.
use Rattle.std.proofs.Common.{◌≡◌, ℕ, true, false, cond, refl}
use Rattle.std.specs.Prelude.{◌==◌}
use Rattle.rtl_tree.specs.Trees.{Tree, Number, Symbol, CodeLabel, Read, Load, Unary, Binary, NoPair, AnyNumber, AnyName}
use Rattle.rtl_tree.specs.WellFormed.{is_flag, flags_tested}
use Rattle.rtl_tree.specs.declared.expressions.UnOp.TheVariants.{Neg, Not, Sxb, Test}
use Rattle.rtl_tree.specs.declared.expressions.BinOp.TheVariants.{And}
use Rattle.rtl_norm.specs.Normal.{finish, norm}
use Rattle.rtl_norm.specs.Transfers.{stored_byte}
use Rattle.rtl_norm.proofs.Rewrites.{Rewrites, folds, folds_one, swaps, adds, joins, drops, compares, mirrors, negates, twice_neg, twice_not, extends, extends_low, cuts, bytes, goes}
use Rattle.rtl_norm.proofs.Finish.{finish_keeps}
use Rattle.rtl_norm_form.proofs.Constructs.{and_true, both_true}

tested_kept : (w : ℕ) (t u : Tree) → Rewrites w t u → flags_tested t ≡ true → flags_tested u ≡ true
tested_kept w _ _ (folds o a b v e) h = refl
tested_kept w _ _ (folds_one o a v e) h = refl
tested_kept w _ _ (swaps o a b e i j) h = let p = and_true (flags_tested a) _ h in both_true _ _ p.1 p.0
tested_kept w _ _ (adds a c) h = both_true _ _ (and_true (flags_tested a) _ h).0 refl
tested_kept w _ _ (joins o p a c d v e) h =
    let q = and_true (flags_tested (Binary p a (Number c))) _ h in
    both_true _ _ (and_true (flags_tested a) _ q.0).0 refl
tested_kept w _ _ (drops o a c e) h = (and_true (flags_tested a) _ h).0
tested_kept w _ _ (compares r a b) h = cc
tested_kept w _ _ (mirrors r a b m i j) h = let p = and_true (flags_tested a) _ h in both_true _ _ p.1 p.0
tested_kept w _ _ (negates a c e) h = h
tested_kept w _ _ (twice_neg a) h = h
tested_kept w _ _ (twice_not a) h = h
tested_kept w _ _ (extends a) h = h
tested_kept w _ _ (extends_low a c e) h = (and_true (flags_tested a) _ h).0
tested_kept w _ _ (cuts a c e) h = h
tested_kept w _ _ (bytes a c e) h = (and_true (flags_tested a) _ h).0
tested_kept w _ _ (goes a c e) h = h

finish_tested : (w : ℕ) (t : Tree) → flags_tested t ≡ true → flags_tested (finish w t) ≡ true
finish_tested w t h = finish_keeps w (λ u. flags_tested u ≡ true) (tested_kept w) t h

norm_flag : (w : ℕ) (t : Tree) → is_flag t ≡ true → is_flag (norm w t) ≡ true
norm_flag w (Read c) h = h
norm_flag w _ h = absurd (let e : false ≡ true = h in cc)

pub norm_tested : (w : ℕ) (t : Tree) → flags_tested t ≡ true → flags_tested (norm w t) ≡ true
norm_tested w (Unary (Test r) a) h = finish_tested w (Unary (Test r) (norm w a)) (norm_flag w a h)
norm_tested w (Unary Neg a) h = finish_tested w (Unary Neg (norm w a)) (norm_tested w a h)
norm_tested w (Unary Not a) h = finish_tested w (Unary Not (norm w a)) (norm_tested w a h)
norm_tested w (Unary Sxb a) h = finish_tested w (Unary Sxb (norm w a)) (norm_tested w a h)
norm_tested w (Load d a) h = finish_tested w (Load d (norm w a)) (norm_tested w a h)
norm_tested w (Binary o a b) h =
    let p = and_true (flags_tested a) _ h in
    finish_tested w (Binary o (norm w a) (norm w b)) (both_true _ _ (norm_tested w a p.0) (norm_tested w b p.1))
norm_tested w (Number n) h = h
norm_tested w (Symbol n) h = h
norm_tested w (CodeLabel l) h = h
norm_tested w (Read c) h = h
norm_tested w NoPair h = h
norm_tested w (AnyNumber n) h = h
norm_tested w (AnyName n) h = h

pub stored_tested : (t : Tree) → flags_tested t ≡ true → flags_tested (stored_byte t) ≡ true
stored_tested (Unary Sxb b) h = h
stored_tested (Binary And b (Number c)) h =
    elim (c == 255) as (λ x. flags_tested (cond x b (Binary And b (Number c))) ≡ true) [
      | true ↦ (and_true (flags_tested b) _ h).0
      | false ↦ h
    ]
stored_tested _ h = h
