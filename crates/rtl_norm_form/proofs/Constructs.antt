-- A construct that stands nowhere in a tree, or only at its root, comes to stand nowhere else.
use Rattle.std.proofs.Common.{◌≡◌, ℕ, Bool, true, false, not, ◌&&◌, cond, Option, Some, None, refl, sym, subst}
use Rattle.std.specs.Prelude.{◌==◌}
use Rattle.rtl_word.specs.declared.Rel.{Rel}
use Rattle.rtl_tree.specs.Trees.{Tree, Number, Symbol, CodeLabel, Read, Load, Unary, Binary, NoPair, AnyNumber, AnyName}
use Rattle.rtl_tree.specs.WellFormed.{is_construct, free_of, free_below}
use Rattle.rtl_tree.specs.declared.cells.Cell.TheVariants.{Input}
use Rattle.rtl_tree.specs.declared.constructs.Construct.{Construct}
use Rattle.rtl_tree.specs.declared.constructs.Construct.TheVariants.{Compared, Jump, Taken, Written}
use Rattle.rtl_tree.specs.declared.expressions.Width.TheVariants.{Byte}
use Rattle.rtl_tree.specs.declared.expressions.UnOp.TheVariants.{Sxb}
use Rattle.rtl_tree.specs.declared.expressions.BinOp.{BinOp}
use Rattle.rtl_tree.specs.declared.expressions.BinOp.TheVariants.{Add, Sub, And, Cmp, Pair, When}
use Rattle.rtl_norm.specs.Normal.{step, finish, norm}
use Rattle.rtl_norm.specs.Transfers.{stored_byte}
use Rattle.rtl_norm.proofs.Rewrites.{Rewrites, folds, folds_one, swaps, adds, joins, drops, compares, mirrors, negates, twice_neg, twice_not, extends, extends_low, cuts, bytes, goes, step_sound, none_some}
use Rattle.rtl_norm.proofs.Finish.{finish_keeps, finish_done}

pub and_true : (a b : Bool) → a && b ≡ true → (a ≡ true) × (b ≡ true)
and_true true b e = (refl, e)
and_true false b e = (cc, cc)

pub both_true : (a b : Bool) → a ≡ true → b ≡ true → a && b ≡ true
both_true true b e h = h
both_true false b e h = cc

-- whether a node is such a construct lies in its operator
same_operator : (k : Construct) (o : BinOp) (a b c d : Tree) → not (is_construct k (Binary o a b)) ≡ true → not (is_construct k (Binary o c d)) ≡ true
same_operator Compared Pair a b c d e = e
same_operator Compared _ a b c d e = refl
same_operator Jump When a b c d e = e
same_operator Jump _ a b c d e = refl
same_operator Taken o a b c d e = refl
same_operator Written o a b c d e = refl

no_number : (k : Construct) (n : ℕ) → not (is_construct k (Number n)) ≡ true
no_number Compared n = refl
no_number Jump n = refl
no_number Taken n = refl
no_number Written n = refl

no_sum : (k : Construct) (a b : Tree) → not (is_construct k (Binary Add a b)) ≡ true
no_sum Compared a b = refl
no_sum Jump a b = refl
no_sum Taken a b = refl
no_sum Written a b = refl

no_relation : (k : Construct) (r : Rel) (a b : Tree) → not (is_construct k (Binary (Cmp r) a b)) ≡ true
no_relation Compared r a b = refl
no_relation Jump r a b = refl
no_relation Taken r a b = refl
no_relation Written r a b = refl

record Parts (k : Construct) (o : BinOp) (a b : Tree) : Type 0 where
  root : not (is_construct k (Binary o a b)) ≡ true
  left : free_of k a ≡ true
  right : free_of k b ≡ true

parts_of : (k : Construct) (o : BinOp) (a b : Tree) → free_of k (Binary o a b) ≡ true → Parts k o a b
parts_of k o a b e =
    let p = and_true (not (is_construct k (Binary o a b))) _ e in
    let q = and_true (free_of k a) _ p.1 in
    record { root = p.0; left = q.0; right = q.1 }

whole_of : (k : Construct) (o : BinOp) (a b : Tree) → not (is_construct k (Binary o a b)) ≡ true → free_of k a ≡ true → free_of k b ≡ true → free_of k (Binary o a b) ≡ true
whole_of k o a b e l r = both_true _ _ e (both_true (free_of k a) _ l r)

-- where the construct stands nowhere
free_kept : (k : Construct) (w : ℕ) (t u : Tree) → Rewrites w t u → free_of k t ≡ true → free_of k u ≡ true
free_kept k w _ _ (folds o a b v e) h = no_number k v
free_kept k w _ _ (folds_one o a v e) h = no_number k v
free_kept k w _ _ (swaps o a b e i j) h =
    let p = parts_of k o a b h in whole_of k o b a (same_operator k o a b b a p.root) p.right p.left
free_kept k w _ _ (adds a c) h =
    let p = parts_of k Sub a (Number c) h in whole_of k Add a _ (no_sum k a _) p.left (no_number k _)
free_kept k w _ _ (joins o p a c d v e) h =
    let q = parts_of k o (Binary p a (Number c)) (Number d) h in
    let r = parts_of k p a (Number c) q.left in
    whole_of k o a (Number v) (same_operator k o _ _ _ _ q.root) r.left (no_number k v)
free_kept k w _ _ (drops o a c e) h = (parts_of k o a (Number c) h).left
free_kept k w _ _ (compares r a b) h =
    let p = parts_of k Pair a b h in whole_of k (Cmp r) a b (no_relation k r a b) p.left p.right
free_kept k w _ _ (mirrors r a b m i j) h =
    let p = parts_of k (Cmp r) a b h in whole_of k _ b a (no_relation k _ b a) p.right p.left
free_kept k w _ _ (negates a c e) h = (parts_of k Sub (Number c) a h).right
free_kept k w _ _ (twice_neg a) h = h
free_kept k w _ _ (twice_not a) h = h
free_kept k w _ _ (extends a) h = h
free_kept k w _ _ (extends_low a c e) h = (parts_of k And a (Number c) h).left
free_kept k w _ _ (cuts a c e) h =
    let p = parts_of k And (Unary Sxb a) (Number c) h in
    whole_of k And a (Number c) (same_operator k And _ _ _ _ p.root) p.left p.right
free_kept k w _ _ (bytes a c e) h = (parts_of k And (Load Byte a) (Number c) h).left
free_kept k w _ _ (goes a c e) h = (parts_of k When (Number c) a h).right

finish_free : (k : Construct) (w : ℕ) (t : Tree) → free_of k t ≡ true → free_of k (finish w t) ≡ true
finish_free k w t h = finish_keeps w (λ u. free_of k u ≡ true) (free_kept k w) t h

pub norm_free : (k : Construct) (w : ℕ) (t : Tree) → free_of k t ≡ true → free_of k (norm w t) ≡ true
norm_free k w (Load d a) h = finish_free k w (Load d (norm w a)) (norm_free k w a h)
norm_free k w (Unary o a) h = finish_free k w (Unary o (norm w a)) (norm_free k w a h)
norm_free k w (Binary o a b) h =
    let p = parts_of k o a b h in
    finish_free k w (Binary o (norm w a) (norm w b))
    (whole_of k o (norm w a) (norm w b) (same_operator k o _ _ _ _ p.root) (norm_free k w a p.left) (norm_free k w b p.right))
norm_free k w (Number n) h = h
norm_free k w (Symbol n) h = h
norm_free k w (CodeLabel l) h = h
norm_free k w (Read c) h = h
norm_free k w NoPair h = h
norm_free k w (AnyNumber n) h = h
norm_free k w (AnyName n) h = h

pub stored_free : (k : Construct) (t : Tree) → free_of k t ≡ true → free_of k (stored_byte t) ≡ true
stored_free k (Unary Sxb b) h = h
stored_free k (Binary And b (Number c)) h =
    elim (c == 255) as (λ x. free_of k (cond x b (Binary And b (Number c))) ≡ true) [
      | true ↦ (parts_of k And b (Number c) h).left
      | false ↦ h
    ]
stored_free k _ h = h

-- where it stands only at the root
pub below_of : (k : Construct) (t : Tree) → free_of k t ≡ true → free_below k t ≡ true
below_of k (Load d a) h = h
below_of k (Unary o a) h = h
below_of k (Binary o a b) h = let p = parts_of k o a b h in both_true _ _ p.left p.right
below_of k _ h = refl

below_kept : (k : Construct) (w : ℕ) (t u : Tree) → Rewrites w t u → free_below k t ≡ true → free_below k u ≡ true
below_kept k w _ _ (folds o a b v e) h = refl
below_kept k w _ _ (folds_one o a v e) h = refl
below_kept k w _ _ (swaps o a b e i j) h = let p = and_true (free_of k a) _ h in both_true _ _ p.1 p.0
below_kept k w _ _ (adds a c) h = both_true _ _ (and_true (free_of k a) _ h).0 (no_number k _)
below_kept k w _ _ (joins o p a c d v e) h =
    let q = and_true (free_of k (Binary p a (Number c))) _ h in
    both_true _ _ (parts_of k p a (Number c) q.0).left (no_number k v)
below_kept k w _ _ (drops o a c e) h = below_of k a (and_true (free_of k a) _ h).0
below_kept k w _ _ (compares r a b) h = let p = parts_of k Pair a b h in both_true _ _ p.left p.right
below_kept k w _ _ (mirrors r a b m i j) h = let p = and_true (free_of k a) _ h in both_true _ _ p.1 p.0
below_kept k w _ _ (negates a c e) h = (and_true (free_of k (Number c)) _ h).1
below_kept k w _ _ (twice_neg a) h = below_of k a h
below_kept k w _ _ (twice_not a) h = below_of k a h
below_kept k w _ _ (extends a) h = h
below_kept k w _ _ (extends_low a c e) h = (parts_of k And a (Number c) h).left
below_kept k w _ _ (cuts a c e) h =
    let p = and_true (free_of k (Unary Sxb a)) _ h in both_true (free_of k a) _ p.0 p.1
below_kept k w _ _ (bytes a c e) h = (and_true (free_of k (Load Byte a)) _ h).0
below_kept k w _ _ (goes a c e) h = below_of k a (and_true (free_of k (Number c)) _ h).1

finish_below : (k : Construct) (w : ℕ) (t : Tree) → free_below k t ≡ true → free_below k (finish w t) ≡ true
finish_below k w t h = finish_keeps w (λ u. free_below k u ≡ true) (below_kept k w) t h

pub norm_below : (k : Construct) (w : ℕ) (t : Tree) → free_below k t ≡ true → free_below k (norm w t) ≡ true
norm_below k w (Load d a) h = finish_below k w (Load d (norm w a)) (norm_free k w a h)
norm_below k w (Unary o a) h = finish_below k w (Unary o (norm w a)) (norm_free k w a h)
norm_below k w (Binary o a b) h =
    let p = and_true (free_of k a) _ h in
    finish_below k w (Binary o (norm w a) (norm w b)) (both_true _ _ (norm_free k w a p.0) (norm_free k w b p.1))
norm_below k w (Number n) h = h
norm_below k w (Symbol n) h = h
norm_below k w (CodeLabel l) h = h
norm_below k w (Read c) h = h
norm_below k w NoPair h = h
norm_below k w (AnyNumber n) h = h
norm_below k w (AnyName n) h = h

-- no rule applies to a pair
no_pair : (w : ℕ) (a b u : Tree) → Rewrites w (Binary Pair a b) u → ⊥
no_pair w _ _ _ (folds Pair a b n e) = none_some n e
no_pair w _ _ _ (swaps Pair a b e h l) = cc
no_pair w _ _ _ (joins Pair p a c d n e) = none_some n e
no_pair w _ _ _ (drops Pair a c e) = cc

none_if : (o : Option Tree) → ((u : Tree) → o ≡ Some u → ⊥) → o ≡ None
none_if (Some u) h = absurd (h u refl)
none_if None h = refl

norm_pair : (w : ℕ) (a b : Tree) → norm w (Binary Pair a b) ≡ Binary Pair (norm w a) (norm w b)
norm_pair w a b =
    let t = Binary Pair (norm w a) (norm w b) in
    finish_done w t (none_if (step w t) (λ u e. no_pair w (norm w a) (norm w b) u (step_sound w t u e)))

-- a flag's value stays a pair or `lost`
pub norm_compared : (w : ℕ) (t : Tree) → is_construct Compared t && free_below Compared t ≡ true → is_construct Compared (norm w t) && free_below Compared (norm w t) ≡ true
norm_compared w (Binary Pair a b) h =
    let p = and_true (free_of Compared a) _ h in
    let P : Tree → Type 0 = λ u. is_construct Compared u && free_below Compared u ≡ true in
    subst P (sym (norm_pair w a b)) (both_true (free_of Compared (norm w a)) _ (norm_free Compared w a p.0) (norm_free Compared w b p.1))
norm_compared w NoPair h = h
norm_compared w _ h = absurd (let e : false ≡ true = h in cc)

pub not_input : (t : Tree) → free_of Taken t ≡ true → is_construct Taken t ≡ false
not_input (Read Input) e = cc
not_input _ e = refl

-- the normal form of a value is the input where the value is
pub norm_taken : (w : ℕ) (t : Tree) → free_below Taken t ≡ true → is_construct Taken (norm w t) ≡ is_construct Taken t
norm_taken w (Load d a) h = not_input (norm w (Load d a)) (norm_free Taken w (Load d a) h)
norm_taken w (Unary o a) h = not_input (norm w (Unary o a)) (norm_free Taken w (Unary o a) h)
norm_taken w (Binary o a b) h =
    let p = and_true (free_of Taken a) _ h in
    not_input (norm w (Binary o a b)) (norm_free Taken w (Binary o a b) (whole_of Taken o a b refl p.0 p.1))
norm_taken w (Number n) h = refl
norm_taken w (Symbol n) h = refl
norm_taken w (CodeLabel l) h = refl
norm_taken w (Read c) h = refl
norm_taken w NoPair h = refl
norm_taken w (AnyNumber n) h = refl
norm_taken w (AnyName n) h = refl
