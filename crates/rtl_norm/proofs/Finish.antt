-- The steps at a root, steps no rule applies.
use Rattle.std.proofs.Common.{◌≡◌, ℕ, zero, suc, ◌^◌, ◌<◌, ◌≤◌, true, false, Option, Some, None, is_some, unwrap_or, arith, refl, sym, ap, ◌∙◌}
use Rattle.std.proofs.lemmas.Nat.{or_lt, xor_lt}
use Rattle.rtl_word.specs.Words.{IsWordSize}
use Rattle.rtl_word.proofs.Below.{word_add-below, word_sub-below, word_mul-below, word_neg-below, word_not-below, word_sxb-below, word_rel-below, word_div-below, word_divu-below, word_rem-below, word_remu-below, word_shl-below, word_shr-below, word_shru-below, bit_and-below}
use Rattle.rtl_tree.specs.Trees.{Tree, Number, Symbol, CodeLabel, Read, Load, Unary, Binary, NoPair, AnyNumber, AnyName}
use Rattle.rtl_tree.specs.declared.expressions.UnOp.{UnOp}
use Rattle.rtl_tree.specs.declared.expressions.UnOp.TheVariants.{Neg, Not, Sxb, Test}
use Rattle.rtl_tree.specs.declared.expressions.BinOp.{BinOp}
use Rattle.rtl_tree.specs.declared.expressions.BinOp.TheVariants.{Add, Sub, Mul, Div, Divu, Rem, Remu, And, Or, Xor, Shl, Shr, Shru, Cmp, Pair, When}
use Rattle.rtl_tree.specs.Sorts.{IsFitting}
use Rattle.rtl_norm.specs.Numbers.{unary_number, binary_number}
use Rattle.rtl_norm.specs.Rules.{joined}
use Rattle.rtl_norm.specs.Normal.{step, weight, follow, steps, finish, norm}
use Rattle.rtl_norm.proofs.Rewrites.{Rewrites, folds, folds_one, swaps, adds, joins, drops, compares, mirrors, negates, twice_neg, twice_not, extends, extends_low, cuts, bytes, goes, step_sound, falls, weight_pos, none_some}

follow_same : (o : Option Tree) (t : Tree) (f g : Tree → Tree) → ((u : Tree) → o ≡ Some u → f u ≡ g u) → follow o t f ≡ follow o t g
follow_same (Some u) t f g h = h u refl
follow_same None t f g h = refl

lighter : (w : ℕ) (t u : Tree) → step w t ≡ Some u → weight u < weight t
lighter w t u e = falls w t u (step_sound w t u e)

-- more steps than the weight change nothing
steps_stable : (w n m : ℕ) (t : Tree) → weight t ≤ n → weight t ≤ m → steps w n t ≡ steps w m t
steps_stable w zero m t h k = absurd (omega (arith, weight_pos t))
steps_stable w (suc n) zero t h k = absurd (omega (arith, weight_pos t))
steps_stable w (suc n) (suc m) t h k =
    follow_same (step w t) t (steps w n) (steps w m)
    (λ u e. steps_stable w n m u (omega (arith, lighter w t u e)) (omega (arith, lighter w t u e)))

steps_done : (w n : ℕ) (t : Tree) → step w t ≡ None → steps w n t ≡ t
steps_done w zero t e = refl
steps_done w (suc n) t e = ap (λ o. follow o t (steps w n)) e

steps_step : (w n : ℕ) (t u : Tree) → weight t ≤ n → step w t ≡ Some u → steps w n t ≡ steps w (weight u) u
steps_step w zero t u h e = absurd (omega (arith, weight_pos t))
steps_step w (suc n) t u h e =
    ap (λ o. follow o t (steps w n)) e ∙ steps_stable w n (weight u) u (omega (arith, lighter w t u e)) (omega arith)

-- where no rule applies
pub finish_done : (w : ℕ) (t : Tree) → step w t ≡ None → finish w t ≡ t
unfolding finish
finish_done w t e = steps_done w (weight t) t e

-- after one rule
pub finish_step : (w : ℕ) (t u : Tree) → step w t ≡ Some u → finish w t ≡ finish w u
unfolding finish
finish_step w t u e = steps_step w (weight t) t u (omega arith) e

settled_at : (w : ℕ) (o : Option Tree) (t : Tree) (f : Tree → Tree) → step w t ≡ o → ((u : Tree) → o ≡ Some u → step w (f u) ≡ None) → step w (follow o t f) ≡ None
settled_at w (Some u) t f e h = h u refl
settled_at w None t f e h = e

steps_settled : (w n : ℕ) (t : Tree) → weight t ≤ n → step w (steps w n t) ≡ None
steps_settled w zero t h = absurd (omega (arith, weight_pos t))
steps_settled w (suc n) t h =
    settled_at w (step w t) t (steps w n) refl (λ u e. steps_settled w n u (omega (arith, lighter w t u e)))

-- at the end no rule applies at the root
pub finish_settled : (w : ℕ) (t : Tree) → step w (finish w t) ≡ None
unfolding finish
finish_settled w t = steps_settled w (weight t) t (omega arith)

-- a fact that each rule keeps is kept
kept_at : (w : ℕ) (P : Tree → Type 0) (o : Option Tree) (t : Tree) (f : Tree → Tree) → P t → ((u : Tree) → o ≡ Some u → P (f u)) → P (follow o t f)
kept_at w P (Some u) t f p h = h u refl
kept_at w P None t f p h = p

steps_keeps : (w : ℕ) (P : Tree → Type 0) → ((t u : Tree) → Rewrites w t u → P t → P u) → (n : ℕ) (t : Tree) → P t → P (steps w n t)
steps_keeps w P k zero t p = p
steps_keeps w P k (suc n) t p =
    kept_at w P (step w t) t (steps w n) p (λ u e. steps_keeps w P k n u (k t u (step_sound w t u e) p))

pub finish_keeps : (w : ℕ) (P : Tree → Type 0) → ((t u : Tree) → Rewrites w t u → P t → P u) → (t : Tree) → P t → P (finish w t)
unfolding finish
finish_keeps w P k t p = steps_keeps w P k (weight t) t p

some_is : (a b : ℕ) → Some a ≡ Some b → a ≡ b
some_is a b e = cc

unary_number_below : (w : ℕ) (o : UnOp) (a v : ℕ) → IsWordSize w → unary_number w o a ≡ Some v → v < 2 ^ w
unary_number_below w Neg a v z e = omega (arith, word_neg-below w a, some_is _ _ e)
unary_number_below w Not a v z e = omega (arith, word_not-below w a, some_is _ _ e)
unary_number_below w Sxb a v z e = omega (arith, word_sxb-below w a z, some_is _ _ e)
unary_number_below w (Test r) a v z e = absurd (none_some v e)

binary_number_below : (w : ℕ) (o : BinOp) (a b v : ℕ) → IsWordSize w → a < 2 ^ w → b < 2 ^ w → binary_number w o a b ≡ Some v → v < 2 ^ w
binary_number_below w Add a b v z h k e = omega (arith, word_add-below w a b, some_is _ _ e)
binary_number_below w Sub a b v z h k e = omega (arith, word_sub-below w a b, some_is _ _ e)
binary_number_below w Mul a b v z h k e = omega (arith, word_mul-below w a b, some_is _ _ e)
binary_number_below w Div a b v z h k e = word_div-below w a b v z h k e
binary_number_below w Divu a b v z h k e = word_divu-below w a b v h e
binary_number_below w Rem a b v z h k e = word_rem-below w a b v z h k e
binary_number_below w Remu a b v z h k e = word_remu-below w a b v h e
binary_number_below w And a b v z h k e = omega (arith, bit_and-below w a b h, some_is _ _ e)
binary_number_below w Or a b v z h k e = omega (arith, or_lt w a b h k, some_is _ _ e)
binary_number_below w Xor a b v z h k e = omega (arith, xor_lt w a b h k, some_is _ _ e)
binary_number_below w Shl a b v z h k e = word_shl-below w a b v e
binary_number_below w Shr a b v z h k e = word_shr-below w a b v z h e
binary_number_below w Shru a b v z h k e = word_shru-below w a b v h e
binary_number_below w (Cmp r) a b v z h k e = omega (arith, word_rel-below w r a b z, some_is _ _ e)
binary_number_below w Pair a b v z h k e = absurd (none_some v e)
binary_number_below w When a b v z h k e = absurd (none_some v e)

joined_below : (w : ℕ) (o p : BinOp) (c d v : ℕ) → c < 2 ^ w → d < 2 ^ w → joined w o p c d ≡ Some v → v < 2 ^ w
joined_below w Add Add c d v h k e = omega (arith, word_add-below w c d, some_is _ _ e)
joined_below w And And c d v h k e = omega (arith, bit_and-below w c d h, some_is _ _ e)
joined_below w Or Or c d v h k e = omega (arith, or_lt w c d h k, some_is _ _ e)
joined_below w _ _ c d v h k e = absurd (none_some v e)

-- the numbers stay words
pub fits_kept : (w : ℕ) → IsWordSize w → (t u : Tree) → Rewrites w t u → IsFitting w t → IsFitting w u
fits_kept w z _ _ (folds o a b v e) h = binary_number_below w o a b v z h.0 h.1 e
fits_kept w z _ _ (folds_one o a v e) h = unary_number_below w o a v z e
fits_kept w z _ _ (swaps o a b e k l) h = (h.1, h.0)
fits_kept w z _ _ (adds a c) h = (h.0, word_neg-below w c)
fits_kept w z _ _ (joins o p a c d v e) h = (h.0.0, joined_below w o p c d v h.0.1 h.1 e)
fits_kept w z _ _ (drops o a c e) h = h.0
fits_kept w z _ _ (compares r a b) h = h
fits_kept w z _ _ (mirrors r a b m k l) h = (h.1, h.0)
fits_kept w z _ _ (negates a c e) h = h.1
fits_kept w z _ _ (twice_neg a) h = h
fits_kept w z _ _ (twice_not a) h = h
fits_kept w z _ _ (extends a) h = h
fits_kept w z _ _ (extends_low a c e) h = h.0
fits_kept w z _ _ (cuts a c e) h = h
fits_kept w z _ _ (bytes a c e) h = h.0
fits_kept w z _ _ (goes a c e) h = h.1

pub finish_fits : (w : ℕ) (t : Tree) → IsWordSize w → IsFitting w t → IsFitting w (finish w t)
finish_fits w t z h = finish_keeps w (IsFitting w) (fits_kept w z) t h

pub norm_fits : (w : ℕ) (t : Tree) → IsWordSize w → IsFitting w t → IsFitting w (norm w t)
norm_fits w (Load d a) z h = finish_fits w (Load d (norm w a)) z (norm_fits w a z h)
norm_fits w (Unary o a) z h = finish_fits w (Unary o (norm w a)) z (norm_fits w a z h)
norm_fits w (Binary o a b) z h = finish_fits w (Binary o (norm w a) (norm w b)) z (norm_fits w a z h.0, norm_fits w b z h.1)
norm_fits w (Number n) z h = h
norm_fits w (Symbol n) z h = h
norm_fits w (CodeLabel l) z h = h
norm_fits w (Read c) z h = h
norm_fits w NoPair z h = h
norm_fits w (AnyNumber n) z h = h
norm_fits w (AnyName n) z h = h

some_of : (o : Option Tree) (t u : Tree) → is_some o ≡ true → u ≡ unwrap_or o t → o ≡ Some u
some_of (Some v) t u h e = let k : u ≡ v = e in sym (ap Some k)
some_of None t u h e = let k : false ≡ true = h in cc

none_of : (o : Option Tree) (t u : Tree) → is_some o ≡ false → u ≡ unwrap_or o t → (o ≡ None) × (u ≡ t)
none_of (Some v) t u h e = let k : true ≡ false = h in cc
none_of None t u h e = (refl, e)

-- what a turn of the loop keeps, from what `apply` ensures
pub turn_fits : (w : ℕ) (t u : Tree) → IsWordSize w → is_some (step w t) ≡ true → u ≡ unwrap_or (step w t) t → IsFitting w t → IsFitting w u
turn_fits w t u z h e f = fits_kept w z t u (step_sound w t u (some_of (step w t) t u h e)) f

pub turn_same : (w : ℕ) (t u : Tree) → is_some (step w t) ≡ true → u ≡ unwrap_or (step w t) t → finish w u ≡ finish w t
turn_same w t u h e = sym (finish_step w t u (some_of (step w t) t u h e))

pub turn_lighter : (w : ℕ) (t u : Tree) → is_some (step w t) ≡ true → u ≡ unwrap_or (step w t) t → weight u < weight t
turn_lighter w t u h e = lighter w t u (some_of (step w t) t u h e)

pub turn_last : (w : ℕ) (t u : Tree) → is_some (step w t) ≡ false → u ≡ unwrap_or (step w t) t → u ≡ finish w t
turn_last w t u h e =
    let k = none_of (step w t) t u h e in
    k.1 ∙ sym (finish_done w t k.0)
