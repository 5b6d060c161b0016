-- The normal form is normal everywhere, and a normal tree is its own normal form.
use Rattle.std.proofs.Common.{◌≡◌, ℕ, None, refl, ap, ◌∙◌}
use Rattle.rtl_tree.specs.Trees.{Tree, Number, Symbol, CodeLabel, Read, Load, Unary, Binary, NoPair, AnyNumber, AnyName}
use Rattle.rtl_norm.specs.Normal.{step, finish, norm, IsNormal}
use Rattle.rtl_norm.proofs.Rewrites.{Rewrites, folds, folds_one, swaps, adds, joins, drops, compares, mirrors, negates, twice_neg, twice_not, extends, extends_low, cuts, bytes, goes}
use Rattle.rtl_norm.proofs.Finish.{finish_keeps, finish_settled, finish_done}

-- the children are normal
abbrev Below : ℕ → Tree → Type 0
Below w (Load d a) = IsNormal w a
Below w (Unary o a) = IsNormal w a
Below w (Binary o a b) = IsNormal w a × IsNormal w b
Below w _ = Unit {0}

below_of : (w : ℕ) (t : Tree) → IsNormal w t → Below w t
below_of w (Load d a) h = h.1
below_of w (Unary o a) h = h.1
below_of w (Binary o a b) h = (h.1, h.2)
below_of w (Number n) h = tt
below_of w (Symbol n) h = tt
below_of w (CodeLabel l) h = tt
below_of w (Read c) h = tt
below_of w NoPair h = tt
below_of w (AnyNumber n) h = tt
below_of w (AnyName n) h = tt

normal_of : (w : ℕ) (t : Tree) → step w t ≡ None → Below w t → IsNormal w t
normal_of w (Load d a) e h = (e, h)
normal_of w (Unary o a) e h = (e, h)
normal_of w (Binary o a b) e h = (e, h.0, h.1)
normal_of w (Number n) e h = tt
normal_of w (Symbol n) e h = tt
normal_of w (CodeLabel l) e h = tt
normal_of w (Read c) e h = tt
normal_of w NoPair e h = tt
normal_of w (AnyNumber n) e h = tt
normal_of w (AnyName n) e h = tt

-- no rule makes a new node below the root
below_kept : (w : ℕ) (t u : Tree) → Rewrites w t u → Below w t → Below w u
below_kept w _ _ (folds o a b v e) h = tt
below_kept w _ _ (folds_one o a v e) h = tt
below_kept w _ _ (swaps o a b e k l) h = (h.1, h.0)
below_kept w _ _ (adds a c) h = (h.0, tt)
below_kept w _ _ (joins o p a c d v e) h = (h.0.1, tt)
below_kept w _ _ (drops o a c e) h = below_of w a h.0
below_kept w _ _ (compares r a b) h = (h.1, h.2)
below_kept w _ _ (mirrors r a b m k l) h = (h.1, h.0)
below_kept w _ _ (negates a c e) h = h.1
below_kept w _ _ (twice_neg a) h = below_of w a h.1
below_kept w _ _ (twice_not a) h = below_of w a h.1
below_kept w _ _ (extends a) h = h.1
below_kept w _ _ (extends_low a c e) h = h.1
below_kept w _ _ (cuts a c e) h = (h.0.1, h.1)
below_kept w _ _ (bytes a c e) h = h.0.1
below_kept w _ _ (goes a c e) h = below_of w a h.1

finish_normal : (w : ℕ) (t : Tree) → Below w t → IsNormal w (finish w t)
finish_normal w t h = normal_of w (finish w t) (finish_settled w t) (finish_keeps w (Below w) (below_kept w) t h)

pub norm_normal : (w : ℕ) (t : Tree) → IsNormal w (norm w t)
norm_normal w (Load d a) = finish_normal w (Load d (norm w a)) (norm_normal w a)
norm_normal w (Unary o a) = finish_normal w (Unary o (norm w a)) (norm_normal w a)
norm_normal w (Binary o a b) = finish_normal w (Binary o (norm w a) (norm w b)) (norm_normal w a, norm_normal w b)
norm_normal w (Number n) = tt
norm_normal w (Symbol n) = tt
norm_normal w (CodeLabel l) = tt
norm_normal w (Read c) = tt
norm_normal w NoPair = tt
norm_normal w (AnyNumber n) = tt
norm_normal w (AnyName n) = tt

pub norm_fixed : (w : ℕ) (t : Tree) → IsNormal w t → norm w t ≡ t
norm_fixed w (Load d a) h = ap (λ x. finish w (Load d x)) (norm_fixed w a h.1) ∙ finish_done w (Load d a) h.0
norm_fixed w (Unary o a) h = ap (λ x. finish w (Unary o x)) (norm_fixed w a h.1) ∙ finish_done w (Unary o a) h.0
norm_fixed w (Binary o a b) h =
    ap (λ x. finish w (Binary o x (norm w b))) (norm_fixed w a h.1)
    ∙ (ap (λ x. finish w (Binary o a x)) (norm_fixed w b h.2) ∙ finish_done w (Binary o a b) h.0)
norm_fixed w (Number n) h = refl
norm_fixed w (Symbol n) h = refl
norm_fixed w (CodeLabel l) h = refl
norm_fixed w (Read c) h = refl
norm_fixed w NoPair h = refl
norm_fixed w (AnyNumber n) h = refl
norm_fixed w (AnyName n) h = refl

pub norm_norm : (w : ℕ) (t : Tree) → norm w (norm w t) ≡ norm w t
norm_norm w t = norm_fixed w (norm w t) (norm_normal w t)
