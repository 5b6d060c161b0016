-- The rules as a relation: what a step does, and what each rule keeps.
use Rattle.std.proofs.Common.{◌≡◌, ℕ, ◌<◌, ◌≤◌, ◌⊎◌, inl, inr, Bool, true, false, not, ◌&&◌, cond, Option, Some, None, arith, refl, sym, subst, ◌∙◌, is_some, unwrap_or}
use Rattle.std.specs.Prelude.{◌==◌, nat_le}
use Rattle.rtl_word.specs.declared.Rel.{Rel}
use Rattle.rtl_word.specs.Words.{word_neg, mirrored}
use Rattle.rtl_tree.specs.Trees.{Tree, Number, AnyNumber, Load, Unary, Binary}
use Rattle.rtl_tree.specs.Likeness.{commutes}
use Rattle.rtl_tree.specs.declared.expressions.Width.TheVariants.{Byte}
use Rattle.rtl_tree.specs.declared.expressions.UnOp.{UnOp}
use Rattle.rtl_tree.specs.declared.expressions.UnOp.TheVariants.{Neg, Not, Sxb, Test}
use Rattle.rtl_tree.specs.declared.expressions.BinOp.{BinOp}
use Rattle.rtl_tree.specs.declared.expressions.BinOp.TheVariants.{Add, Sub, And, Cmp, Pair, When}
use Rattle.rtl_tree.specs.Sorts.{IsFitting}
use Rattle.rtl_norm.specs.Numbers.{is_constant, unary_number, binary_number}
use Rattle.rtl_norm.specs.Rules.{folded, number_if, fold_rule, swap_rule, is_order, mirror_rule, minus_rule, negate_rule, joined, joined_number, left_of, binary_if, join_rule, is_neutral, neutral_rule, twice_rule, extend_rule, cut_rule, byte_rule, pair_rule, when_rule}
use Rattle.rtl_norm.specs.Normal.{or_else, step, weight, sub_weight, constant_weight}

-- one rule at the root
pub data Rewrites (w : ℕ) : Tree → Tree → Type 0 where
  folds : (o : BinOp) (a b v : ℕ) → binary_number w o a b ≡ Some v → Rewrites w (Binary o (Number a) (Number b)) (Number v)
  folds_one : (o : UnOp) (a v : ℕ) → unary_number w o a ≡ Some v → Rewrites w (Unary o (Number a)) (Number v)
  swaps : (o : BinOp) (a b : Tree) → commutes o ≡ true → is_constant a ≡ true → is_constant b ≡ false → Rewrites w (Binary o a b) (Binary o b a)
  adds : (a : Tree) (c : ℕ) → Rewrites w (Binary Sub a (Number c)) (Binary Add a (Number (word_neg w c)))
  joins : (o p : BinOp) (a : Tree) (c d v : ℕ) → joined w o p c d ≡ Some v → Rewrites w (Binary o (Binary p a (Number c)) (Number d)) (Binary o a (Number v))
  drops : (o : BinOp) (a : Tree) (c : ℕ) → is_neutral w o c ≡ true → Rewrites w (Binary o a (Number c)) a
  compares : (r : Rel) (a b : Tree) → Rewrites w (Unary (Test r) (Binary Pair a b)) (Binary (Cmp r) a b)
  mirrors : (r : Rel) (a b : Tree) → is_order r ≡ true → is_constant a ≡ true → is_constant b ≡ false → Rewrites w (Binary (Cmp r) a b) (Binary (Cmp (mirrored r)) b a)
  negates : (a : Tree) (c : ℕ) → c == 0 ≡ true → Rewrites w (Binary Sub (Number c) a) (Unary Neg a)
  twice_neg : (a : Tree) → Rewrites w (Unary Neg (Unary Neg a)) a
  twice_not : (a : Tree) → Rewrites w (Unary Not (Unary Not a)) a
  extends : (a : Tree) → Rewrites w (Unary Sxb (Unary Sxb a)) (Unary Sxb a)
  extends_low : (a : Tree) (c : ℕ) → c == 255 ≡ true → Rewrites w (Unary Sxb (Binary And a (Number c))) (Unary Sxb a)
  cuts : (a : Tree) (c : ℕ) → nat_le c 255 ≡ true → Rewrites w (Binary And (Unary Sxb a) (Number c)) (Binary And a (Number c))
  goes : (a : Tree) (c : ℕ) → c == 0 ≡ false → Rewrites w (Binary When (Number c) a) a
  bytes : (a : Tree) (c : ℕ) → c == 255 ≡ true → Rewrites w (Binary And (Load Byte a) (Number c)) (Load Byte a)

pub none_some : {A : Type 0} (a : A) → None ≡ Some a → ⊥
none_some a e = cc

-- a choice that gave something
taken : (b : Bool) (x u : Tree) → cond b (Some x) None ≡ Some u → (b ≡ true) × (x ≡ u)
taken true x u e = (refl, cc)
taken false x u e = absurd (none_some u e)

numbered : (o : Option ℕ) (u : Tree) → number_if o ≡ Some u → (v : ℕ) × (o ≡ Some v) × (Number v ≡ u)
numbered (Some v) u e = (v, refl, cc)
numbered None u e = absurd (none_some u e)

to : (w : ℕ) (t x u : Tree) → x ≡ u → Rewrites w t x → Rewrites w t u
to w t x u e r = let P : Tree → Type 0 = λ y. Rewrites w t y in subst P e r

folded_sound : (w : ℕ) (t : Tree) (v : ℕ) → folded w t ≡ Some v → Rewrites w t (Number v)
folded_sound w (Unary o (Number a)) v e = folds_one o a v e
folded_sound w (Binary o (Number a) (Number b)) v e = folds o a b v e
folded_sound w _ v e = absurd (none_some v e)

fold_sound : (w : ℕ) (t u : Tree) → fold_rule w t ≡ Some u → Rewrites w t u
unfolding fold_rule
fold_sound w t u e =
    let h = numbered (folded w t) u e in
    to w t (Number h.0) u h.2 (folded_sound w t h.0 h.1)

and_true : (a b : Bool) → a && b ≡ true → (a ≡ true) × (b ≡ true)
and_true true b e = (refl, e)
and_true false b e = (cc, cc)

not_true : (a : Bool) → not a ≡ true → a ≡ false
not_true true e = cc
not_true false e = refl

swap_sound : (w : ℕ) (t u : Tree) → swap_rule t ≡ Some u → Rewrites w t u
unfolding swap_rule
swap_sound w (Binary o a b) u e =
    let h = taken (commutes o && is_constant a && not (is_constant b)) (Binary o b a) u e in
    let k = and_true (commutes o && is_constant a) (not (is_constant b)) h.0 in
    let l = and_true (commutes o) (is_constant a) k.0 in
    to w (Binary o a b) (Binary o b a) u h.1 (swaps o a b l.0 l.1 (not_true (is_constant b) k.1))
swap_sound w _ u e = absurd (none_some u e)

minus_sound : (w : ℕ) (t u : Tree) → minus_rule w t ≡ Some u → Rewrites w t u
unfolding minus_rule
minus_sound w (Binary Sub a (Number c)) u e =
    let h : Binary Add a (Number (word_neg w c)) ≡ u = cc in to w _ _ _ h (adds a c)
minus_sound w _ u e = absurd (none_some u e)

binary_is : (o : BinOp) (a u : Tree) (v : Option ℕ) → binary_if o a v ≡ Some u → (n : ℕ) × (v ≡ Some n) × (Binary o a (Number n) ≡ u)
binary_is o a u (Some n) e = (n, refl, cc)
binary_is o a u None e = absurd (none_some u e)

joined_sound : (w : ℕ) (o : BinOp) (a b : Tree) (v : ℕ) → joined_number w o a b ≡ Some v → Rewrites w (Binary o a b) (Binary o (left_of a) (Number v))
joined_sound w o (Binary p a (Number c)) (Number d) v e = joins o p a c d v e
joined_sound w o _ _ v e = absurd (none_some v e)

join_sound : (w : ℕ) (t u : Tree) → join_rule w t ≡ Some u → Rewrites w t u
unfolding join_rule
join_sound w (Binary o a b) u e =
    let h = binary_is o (left_of a) u (joined_number w o a b) e in
    to w (Binary o a b) (Binary o (left_of a) (Number h.0)) u h.2 (joined_sound w o a b h.0 h.1)
join_sound w _ u e = absurd (none_some u e)

neutral_sound : (w : ℕ) (t u : Tree) → neutral_rule w t ≡ Some u → Rewrites w t u
unfolding neutral_rule
neutral_sound w (Binary o a (Number c)) u e =
    let h = taken (is_neutral w o c) a u e in
    to w (Binary o a (Number c)) a u h.1 (drops o a c h.0)
neutral_sound w _ u e = absurd (none_some u e)

pair_sound : (w : ℕ) (t u : Tree) → pair_rule t ≡ Some u → Rewrites w t u
unfolding pair_rule
pair_sound w (Unary (Test r) (Binary Pair a b)) u e =
    let h : Binary (Cmp r) a b ≡ u = cc in to w _ _ _ h (compares r a b)
pair_sound w _ u e = absurd (none_some u e)

mirror_sound : (w : ℕ) (t u : Tree) → mirror_rule t ≡ Some u → Rewrites w t u
unfolding mirror_rule
mirror_sound w (Binary (Cmp r) a b) u e =
    let h = taken (is_order r && is_constant a && not (is_constant b)) (Binary (Cmp (mirrored r)) b a) u e in
    let k = and_true (is_order r && is_constant a) (not (is_constant b)) h.0 in
    let l = and_true (is_order r) (is_constant a) k.0 in
    to w (Binary (Cmp r) a b) (Binary (Cmp (mirrored r)) b a) u h.1 (mirrors r a b l.0 l.1 (not_true (is_constant b) k.1))
mirror_sound w _ u e = absurd (none_some u e)

negate_sound : (w : ℕ) (t u : Tree) → negate_rule t ≡ Some u → Rewrites w t u
unfolding negate_rule
negate_sound w (Binary Sub (Number c) a) u e =
    let h = taken (c == 0) (Unary Neg a) u e in to w _ _ _ h.1 (negates a c h.0)
negate_sound w _ u e = absurd (none_some u e)

twice_sound : (w : ℕ) (t u : Tree) → twice_rule t ≡ Some u → Rewrites w t u
unfolding twice_rule
twice_sound w (Unary Neg (Unary Neg a)) u e = let h : a ≡ u = cc in to w _ _ _ h (twice_neg a)
twice_sound w (Unary Not (Unary Not a)) u e = let h : a ≡ u = cc in to w _ _ _ h (twice_not a)
twice_sound w _ u e = absurd (none_some u e)

extend_sound : (w : ℕ) (t u : Tree) → extend_rule t ≡ Some u → Rewrites w t u
unfolding extend_rule
extend_sound w (Unary Sxb (Unary Sxb a)) u e = let h : Unary Sxb a ≡ u = cc in to w _ _ _ h (extends a)
extend_sound w (Unary Sxb (Binary And a (Number c))) u e =
    let h = taken (c == 255) (Unary Sxb a) u e in to w _ _ _ h.1 (extends_low a c h.0)
extend_sound w _ u e = absurd (none_some u e)

cut_sound : (w : ℕ) (t u : Tree) → cut_rule t ≡ Some u → Rewrites w t u
unfolding cut_rule
cut_sound w (Binary And (Unary Sxb a) (Number c)) u e =
    let h = taken (nat_le c 255) (Binary And a (Number c)) u e in to w _ _ _ h.1 (cuts a c h.0)
cut_sound w _ u e = absurd (none_some u e)

byte_sound : (w : ℕ) (t u : Tree) → byte_rule t ≡ Some u → Rewrites w t u
unfolding byte_rule
byte_sound w (Binary And (Load Byte a) (Number c)) u e =
    let h = taken (c == 255) (Load Byte a) u e in to w _ _ _ h.1 (bytes a c h.0)
byte_sound w _ u e = absurd (none_some u e)

left_out : (b : Bool) (x u : Tree) → cond b None (Some x) ≡ Some u → (b ≡ false) × (x ≡ u)
left_out true x u e = absurd (none_some u e)
left_out false x u e = (refl, cc)

when_sound : (w : ℕ) (t u : Tree) → when_rule t ≡ Some u → Rewrites w t u
unfolding when_rule
when_sound w (Binary When (Number c) a) u e =
    let h = left_out (c == 0) a u e in to w _ _ _ h.1 (goes a c h.0)
when_sound w _ u e = absurd (none_some u e)

or_else_splits : (a b : Option Tree) (u : Tree) → or_else a b ≡ Some u → (a ≡ Some u) ⊎ (b ≡ Some u)
or_else_splits (Some t) b u e = inl e
or_else_splits None b u e = inr e

-- a step is by one rule
pub step_sound : (w : ℕ) (t u : Tree) → step w t ≡ Some u → Rewrites w t u
unfolding step
step_sound w t u e =
    elim (or_else_splits (fold_rule w t) _ u e) [ inl h ↦ fold_sound w t u h | inr e0 ↦ elim (or_else_splits (swap_rule t) _ u e0) [ inl h ↦ swap_sound w t u h | inr e1 ↦ elim (or_else_splits (mirror_rule t) _ u e1) [ inl h ↦ mirror_sound w t u h | inr e2 ↦ elim (or_else_splits (minus_rule w t) _ u e2) [ inl h ↦ minus_sound w t u h | inr e3 ↦ elim (or_else_splits (negate_rule t) _ u e3) [ inl h ↦ negate_sound w t u h | inr e4 ↦ elim (or_else_splits (join_rule w t) _ u e4) [ inl h ↦ join_sound w t u h | inr e5 ↦ elim (or_else_splits (neutral_rule w t) _ u e5) [ inl h ↦ neutral_sound w t u h | inr e6 ↦ elim (or_else_splits (twice_rule t) _ u e6) [ inl h ↦ twice_sound w t u h | inr e7 ↦ elim (or_else_splits (extend_rule t) _ u e7) [ inl h ↦ extend_sound w t u h | inr e8 ↦ elim (or_else_splits (cut_rule t) _ u e8) [ inl h ↦ cut_sound w t u h | inr e9 ↦ elim (or_else_splits (byte_rule t) _ u e9) [ inl h ↦ byte_sound w t u h | inr e10 ↦ elim (or_else_splits (pair_rule t) _ u e10) [ inl h ↦ pair_sound w t u h | inr h ↦ when_sound w t u h ] ] ] ] ] ] ] ] ] ] ] ]

-- each rule makes the tree lighter
pub weight_pos : (t : Tree) → 0 < weight t
weight_pos (Load d a) = omega (arith, weight_pos a)
weight_pos (Unary o a) = omega (arith, weight_pos a)
weight_pos (Binary o a b) = omega (arith, weight_pos a)
weight_pos _ = omega arith

sub_weight_commutes : (o : BinOp) → commutes o ≡ true → sub_weight o ≡ 0
sub_weight_commutes Sub e = cc
sub_weight_commutes _ e = refl

constant_weight_is : (a : Tree) → is_constant a ≡ true → (weight a ≡ 1) × (constant_weight a ≡ 1)
constant_weight_is (Number n) e = (refl, refl)
constant_weight_is (AnyNumber n) e = (refl, refl)
constant_weight_is _ e = absurd (let h : false ≡ true = e in cc)

constant_weight_not : (a : Tree) → is_constant a ≡ false → constant_weight a ≡ 0
constant_weight_not (Number n) e = cc
constant_weight_not (AnyNumber n) e = cc
constant_weight_not _ e = refl

constant_weight_le : (a : Tree) → constant_weight a ≤ 1
constant_weight_le (Number n) = omega arith
constant_weight_le (AnyNumber n) = omega arith
constant_weight_le _ = omega arith

pub falls : (w : ℕ) (t u : Tree) → Rewrites w t u → weight u < weight t
falls w _ _ (folds o a b v e) = omega arith
falls w _ _ (folds_one o a v e) = omega arith
falls w _ _ (swaps o a b e h k) =
    omega (arith, sub_weight_commutes o e, constant_weight_is a h, constant_weight_not b k)
falls w _ _ (adds a c) = omega arith
falls w _ _ (joins o p a c d v e) = omega (arith, constant_weight_le a)
falls w _ _ (drops o a c e) = omega arith
falls w _ _ (compares r a b) = omega (arith, constant_weight_le a)
falls w _ _ (mirrors r a b m h k) = omega (arith, constant_weight_is a h, constant_weight_not b k)
falls w _ _ (negates a c e) = omega arith
falls w _ _ (twice_neg a) = omega arith
falls w _ _ (twice_not a) = omega arith
falls w _ _ (extends a) = omega arith
falls w _ _ (extends_low a c e) = omega arith
falls w _ _ (cuts a c e) = omega (arith, constant_weight_le a)
falls w _ _ (bytes a c e) = omega arith
falls w _ _ (goes a c e) = omega arith

-- a rule that applies, and one that doesn't
pub or_first : (a b : Option Tree) → is_some a ≡ true → or_else a b ≡ a
or_first (Some t) b e = refl
or_first None b e = let k : false ≡ true = e in cc

pub or_next : (a b : Option Tree) → is_some a ≡ false → or_else a b ≡ b
or_next (Some t) b e = let k : true ≡ false = e in cc
or_next None b e = refl

pub left_alone : (a : Option Tree) (t u : Tree) → is_some a ≡ false → u ≡ unwrap_or a t → u ≡ t
left_alone (Some v) t u e h = let k : true ≡ false = e in cc
left_alone None t u e h = h

-- the numbers are still words where no rule applied
pub fits_alone : (w : ℕ) (r : Bool) (a : Option Tree) (t u : Tree) → r ≡ is_some a → r ≡ false → u ≡ unwrap_or a t → IsFitting w t → IsFitting w u
fits_alone w r a t u e h k f =
    let P : Tree → Type 0 = λ x. IsFitting w x in
    subst P (sym (left_alone a t u (sym e ∙ h) k)) f
