-- The normal form is seen as the tree is, in every view of words.
use Rattle.std.proofs.Common.{◌≡◌, ℕ, ◌^◌, ◌≤◌, Bool, true, false, Option, Some, None, Ok, Err, bit_and, arith, refl, sym, ap, subst, ◌∙◌}
use Rattle.std.specs.Prelude.{◌==◌, nat_le, if◌then◌else◌}
use Rattle.std.proofs.lemmas.Bool.Decides.{nat_tests}
use Rattle.rtl_word.specs.declared.Rel.{Rel}
use Rattle.rtl_word.specs.Words.{IsWordSize, word_neg, mirrored}
use Rattle.rtl_word.proofs.Sums.{add_neg, zero_sub, neg_neg, not_not}
use Rattle.rtl_word.proofs.Bitwise.{sxb_sxb, sxb_and, sxb_cut, byte_cut}
use Rattle.rtl_word.proofs.Comparisons.{rel_mirrored}
use Rattle.rtl_tree.specs.Trees.{Tree, Number, Symbol, CodeLabel, Read, Load, Unary, Binary, NoPair, AnyNumber, AnyName}
use Rattle.rtl_tree.specs.Likeness.{commutes}
use Rattle.rtl_tree.specs.declared.cells.Cell.TheVariants.{Flag}
use Rattle.rtl_tree.specs.declared.expressions.UnOp.{UnOp}
use Rattle.rtl_tree.specs.declared.expressions.UnOp.TheVariants.{Neg, Not, Sxb, Test}
use Rattle.rtl_tree.specs.declared.expressions.BinOp.{BinOp}
use Rattle.rtl_tree.specs.declared.expressions.BinOp.TheVariants.{Add, Sub, And, Cmp, Pair}
use Rattle.rtl_tree.specs.Sorts.{IsFitting}
use Rattle.rtl_norm.specs.Numbers.{is_constant, unary_number}
use Rattle.rtl_norm.specs.Rules.{joined, is_neutral}
use Rattle.rtl_tree.specs.Sorts.{IsWordTree, IsTestedTree}
use Rattle.rtl_norm.specs.Normal.{step, finish, norm}
use Rattle.rtl_norm.proofs.Rewrites.{Rewrites, folds, folds_one, swaps, adds, joins, drops, compares, mirrors, negates, twice_neg, twice_not, extends, extends_low, cuts, bytes, goes, step_sound, none_some}
use Rattle.rtl_norm.proofs.Finish.{finish_keeps, finish_done, fits_kept, norm_fits}
use Rattle.rtl_effect.specs.Views.{Wild, View, width_of, Seen, lifted, unary_on, binary_on, load_on, seen, test_seen}
use Rattle.rtl_norm_value.specs.Kept.{IsWordView, SeenIsKept}
use Rattle.rtl_norm_value.proofs.Operators.{unary_folded, binary_folded, binary_commutes, commuting_is_total, binary_joins, joining_is_total, is_number_of, binary_neutral, neutral_is_total}
use Rattle.rtl_norm_value.proofs.Words.{IsBelow, seen_below, byte_load_below}

-- a number
abbrev known : ℕ → Seen
known n = Ok (Some n)

abbrev unset : Seen
unset = Ok None

otherwise : (t : Bool) → t ≡ false → (let r : Seen = if t then Err Wild else Ok None in r ≡ Ok None)
otherwise true e = cc
otherwise false e = refl

seen_commutes : (w : ℕ) (o : BinOp) (n : ℕ) (u : Seen) → commutes o ≡ true → binary_on w o u (known n) ≡ binary_on w o (known n) u
seen_commutes w o n (Ok (Some x)) e = ap lifted (binary_commutes w o x n e)
seen_commutes w o n (Ok None) e =
    let h = commuting_is_total w o n e in otherwise _ h.1 ∙ sym (otherwise _ h.0)
seen_commutes w o n (Err s) e = refl

seen_mirrored : (w : ℕ) (r : Rel) (n : ℕ) (u : Seen) → binary_on w (Cmp (mirrored r)) u (known n) ≡ binary_on w (Cmp r) (known n) u
seen_mirrored w r n (Ok (Some x)) = ap (λ m. Ok (Some m)) (rel_mirrored w r n x)
seen_mirrored w r n (Ok None) = refl
seen_mirrored w r n (Err s) = refl

seen_minus : (w c : ℕ) (u : Seen) → binary_on w Add u (known (word_neg w c)) ≡ binary_on w Sub u (known c)
seen_minus w c (Ok (Some x)) = ap (λ m. Ok (Some m)) (add_neg w x c)
seen_minus w c (Ok None) = refl
seen_minus w c (Err s) = refl

seen_negated : (w c : ℕ) (u : Seen) → c == 0 ≡ true → unary_on w Neg u ≡ binary_on w Sub (known c) u
seen_negated w c (Ok (Some x)) e =
    let P : ℕ → Type 0 = λ k. unary_on w Neg (Ok (Some x)) ≡ binary_on w Sub (Ok (Some k)) (Ok (Some x)) in
    subst P (sym (is_number_of c 0 e)) (ap (λ m. Ok (Some m)) (sym (zero_sub w x)))
seen_negated w c (Ok None) e = refl
seen_negated w c (Err s) e = refl

seen_joined : (w : ℕ) (o p : BinOp) (c d n : ℕ) (u : Seen) → joined w o p c d ≡ Some n →
    binary_on w o u (known n) ≡ binary_on w o (binary_on w p u (known c)) (known d)
seen_joined w o p c d n (Ok (Some x)) e =
    let h = binary_joins w o p x c d n e in
    ap lifted (sym h.2) ∙ ap (λ r. binary_on w o (lifted r) (Ok (Some d))) (sym h.1)
seen_joined w o p c d n (Ok None) e =
    otherwise _ (joining_is_total w o p c d n n e).0
    ∙ (sym (otherwise _ (joining_is_total w o p c d n d e).0)
    ∙ ap (λ r. binary_on w o r (Ok (Some d))) (sym (otherwise _ (joining_is_total w o p c d n c e).1)))
seen_joined w o p c d n (Err s) e = refl

seen_neutral : (w : ℕ) (o : BinOp) (c : ℕ) (u : Seen) → IsWordSize w → IsBelow (2 ^ w) u → is_neutral w o c ≡ true → u ≡ binary_on w o u (known c)
seen_neutral w o c (Ok (Some x)) z h e = ap lifted (sym (binary_neutral w o x c z (h.below x refl) e))
seen_neutral w o c (Ok None) z h e = sym (otherwise _ (neutral_is_total w o c z e))
seen_neutral w o c (Err s) z h e = refl

seen_twice_neg : (w : ℕ) (u : Seen) → IsWordSize w → IsBelow (2 ^ w) u → u ≡ unary_on w Neg (unary_on w Neg u)
seen_twice_neg w (Ok (Some x)) z h = ap (λ m. Ok (Some m)) (sym (neg_neg w x z (h.below x refl)))
seen_twice_neg w (Ok None) z h = refl
seen_twice_neg w (Err s) z h = refl

seen_twice_not : (w : ℕ) (u : Seen) → IsBelow (2 ^ w) u → u ≡ unary_on w Not (unary_on w Not u)
seen_twice_not w (Ok (Some x)) h = ap (λ m. Ok (Some m)) (sym (not_not w x (h.below x refl)))
seen_twice_not w (Ok None) h = refl
seen_twice_not w (Err s) h = refl

seen_extends : (w : ℕ) (u : Seen) → IsWordSize w → unary_on w Sxb u ≡ unary_on w Sxb (unary_on w Sxb u)
seen_extends w (Ok (Some x)) z = ap (λ m. Ok (Some m)) (sym (sxb_sxb w x z))
seen_extends w (Ok None) z = refl
seen_extends w (Err s) z = refl

seen_extends_low : (w c : ℕ) (u : Seen) → c == 255 ≡ true → unary_on w Sxb u ≡ unary_on w Sxb (binary_on w And u (known c))
seen_extends_low w c (Ok (Some x)) e =
    let P : ℕ → Type 0 = λ k. unary_on w Sxb (Ok (Some x)) ≡ unary_on w Sxb (binary_on w And (Ok (Some x)) (Ok (Some k))) in
    subst P (sym (is_number_of c 255 e)) (ap (λ m. Ok (Some m)) (sym (sxb_and w x)))
seen_extends_low w c (Ok None) e = refl
seen_extends_low w c (Err s) e = refl

seen_cuts : (w c : ℕ) (u : Seen) → IsWordSize w → nat_le c 255 ≡ true → binary_on w And u (known c) ≡ binary_on w And (unary_on w Sxb u) (known c)
seen_cuts w c (Ok (Some x)) z e =
    let h : c ≤ 255 = grind (arith, nat_tests) in ap (λ m. Ok (Some m)) (sym (sxb_cut w x c z h))
seen_cuts w c (Ok None) z e = refl
seen_cuts w c (Err s) z e = refl

seen_bytes : (w c : ℕ) (u : Seen) → IsBelow 256 u → c == 255 ≡ true → u ≡ binary_on w And u (known c)
seen_bytes w c (Ok (Some x)) h e =
    let P : ℕ → Type 0 = λ k. x ≡ bit_and x k in
    ap (λ m. Ok (Some m)) (subst P (sym (is_number_of c 255 e)) (sym (byte_cut x (h.below x refl))))
seen_bytes w c (Ok None) h e = refl
seen_bytes w c (Err s) h e = refl

-- a word that is a number or a hole is a number
number_is : (w : ℕ) (a : Tree) (v : View) → is_constant a ≡ true → IsWordTree a → (n : ℕ) × (seen w a v ≡ known n)
number_is w (Number n) v e h = (n, refl)
number_is w (AnyNumber n) v e h = absurd h
number_is w _ v e h = absurd (let k : false ≡ true = e in cc)

with_number : (w : ℕ) (o p : BinOp) (u r : Seen) (n : ℕ) → u ≡ known n → binary_on w p r (known n) ≡ binary_on w o (known n) r → binary_on w p r u ≡ binary_on w o u r
with_number w o p u r n e h = ap (λ x. binary_on w p r x) e ∙ (h ∙ ap (λ x. binary_on w o x r) (sym e))

swap_seen : (w : ℕ) (o : BinOp) (a b : Tree) (v : View) → commutes o ≡ true → is_constant a ≡ true → IsWordTree a → seen w (Binary o b a) v ≡ seen w (Binary o a b) v
swap_seen w o a b v e h k =
    let n = number_is w a v h k in
    with_number w o o (seen w a v) (seen w b v) n.0 n.1 (seen_commutes w o n.0 (seen w b v) e)

mirror_seen : (w : ℕ) (r : Rel) (a b : Tree) (v : View) → is_constant a ≡ true → IsWordTree a → seen w (Binary (Cmp (mirrored r)) b a) v ≡ seen w (Binary (Cmp r) a b) v
mirror_seen w r a b v h k =
    let n = number_is w a v h k in
    with_number w (Cmp r) (Cmp (mirrored r)) (seen w a v) (seen w b v) n.0 n.1 (seen_mirrored w r n.0 (seen w b v))

unary_number_seen : (w : ℕ) (o : UnOp) (a n : ℕ) (v : View) → unary_number w o a ≡ Some n → IsWordTree (Unary o (Number a)) → known n ≡ seen w (Unary o (Number a)) v
unary_number_seen w Neg a n v e h = ap (λ m. Ok (Some m)) (sym (unary_folded w Neg a n e))
unary_number_seen w Not a n v e h = ap (λ m. Ok (Some m)) (sym (unary_folded w Not a n e))
unary_number_seen w Sxb a n v e h = ap (λ m. Ok (Some m)) (sym (unary_folded w Sxb a n e))
unary_number_seen w (Test r) a n v e h = absurd h

-- one rule keeps what is seen
pub seen_kept : (w : ℕ) (v : View) → IsWordSize w → IsWordView w v → (t u : Tree) → Rewrites w t u → IsFitting w t → IsWordTree t → seen w u v ≡ seen w t v
seen_kept w v z k _ _ (folds o a b n e) f h = ap lifted (sym (binary_folded w o a b n e))
seen_kept w v z k _ _ (folds_one o a n e) f h = unary_number_seen w o a n v e h
seen_kept w v z k _ _ (swaps o a b e l m) f h = swap_seen w o a b v e l h.1
seen_kept w v z k _ _ (adds a c) f h = seen_minus w c (seen w a v)
seen_kept w v z k _ _ (joins o p a c d n e) f h = seen_joined w o p c d n (seen w a v) e
seen_kept w v z k _ _ (drops o a c e) f h = seen_neutral w o c (seen w a v) z (seen_below w a v z k f.0) e
seen_kept w v z k _ _ (compares r a b) f h = refl
seen_kept w v z k _ _ (mirrors r a b e l m) f h = mirror_seen w r a b v l h.1
seen_kept w v z k _ _ (negates a c e) f h = seen_negated w c (seen w a v) e
seen_kept w v z k _ _ (twice_neg a) f h = seen_twice_neg w (seen w a v) z (seen_below w a v z k f)
seen_kept w v z k _ _ (twice_not a) f h = seen_twice_not w (seen w a v) (seen_below w a v z k f)
seen_kept w v z k _ _ (extends a) f h = seen_extends w (seen w a v) z
seen_kept w v z k _ _ (extends_low a c e) f h = seen_extends_low w c (seen w a v) e
seen_kept w v z k _ _ (cuts a c e) f h = seen_cuts w c (seen w a v) z e
seen_kept w v z k _ _ (bytes a c e) f h = seen_bytes w c (load_on 1 v (seen w a v)) (byte_load_below w v (seen w a v) k) e
seen_kept w v z k _ _ (goes a c e) f h = absurd h.0

-- one rule keeps a word a word
pub word_kept : (w : ℕ) (t u : Tree) → Rewrites w t u → IsWordTree t → IsWordTree u
word_kept w _ _ (folds o a b n e) h = tt
word_kept w _ _ (folds_one o a n e) h = tt
word_kept w _ _ (swaps o a b e k l) h = (h.0, h.2, h.1)
word_kept w _ _ (adds a c) h = (tt, h.1, tt)
word_kept w _ _ (joins o p a c d n e) h = (h.0, h.1.1, tt)
word_kept w _ _ (drops o a c e) h = h.1
word_kept w _ _ (compares r a b) h = (tt, h.0, h.1)
word_kept w _ _ (mirrors r a b m k l) h = (tt, h.2, h.1)
word_kept w _ _ (negates a c e) h = h.2
word_kept w _ _ (twice_neg a) h = h
word_kept w _ _ (twice_not a) h = h
word_kept w _ _ (extends a) h = h
word_kept w _ _ (extends_low a c e) h = h.1
word_kept w _ _ (cuts a c e) h = h
word_kept w _ _ (bytes a c e) h = h.1
word_kept w _ _ (goes a c e) h = absurd h.0

-- what steps at a root keep
record Kept (w : ℕ) (v : View) (r : Seen) (t : Tree) : Type 0 where
  fits : IsFitting w t
  word : IsWordTree t
  same : seen w t v ≡ r

finish_seen : (w : ℕ) (v : View) (t : Tree) → IsWordSize w → IsWordView w v → IsFitting w t → IsWordTree t → Kept w v (seen w t v) (finish w t)
finish_seen w v t z k f h =
    let P : Tree → Type 0 = λ u. Kept w v (seen w t v) u in
    finish_keeps w P
    (λ x y r p. record {
      fits = fits_kept w z x y r p.fits;
      word = word_kept w x y r p.word;
      same = seen_kept w v z k x y r p.fits p.word ∙ p.same;
    })
    t (record { fits = f; word = h; same = refl })

-- no rule applies to a pair
no_pair : (w : ℕ) (a b u : Tree) → Rewrites w (Binary Pair a b) u → ⊥
no_pair w _ _ _ (folds Pair a b n e) = none_some n e
no_pair w _ _ _ (swaps Pair a b e h l) = cc
no_pair w _ _ _ (joins Pair p a c d n e) = none_some n e
no_pair w _ _ _ (drops Pair a c e) = cc

none_if : (o : Option Tree) → ((u : Tree) → o ≡ Some u → ⊥) → o ≡ None
none_if (Some u) h = absurd (h u refl)
none_if None h = refl

pub norm_pair : (w : ℕ) (a b : Tree) → norm w (Binary Pair a b) ≡ Binary Pair (norm w a) (norm w b)
norm_pair w a b =
    finish_done w (Binary Pair (norm w a) (norm w b))
    (none_if (step w (Binary Pair (norm w a) (norm w b))) (λ u e. no_pair w (norm w a) (norm w b) u (step_sound w (Binary Pair (norm w a) (norm w b)) u e)))

both_are : (w : ℕ) (o : BinOp) (a b c d : Seen) → a ≡ c → b ≡ d → binary_on w o a b ≡ binary_on w o c d
both_are w o a b c d e h = ap (λ r. binary_on w o r b) e ∙ ap (λ r. binary_on w o c r) h

record IsSame (w : ℕ) (v : View) (t : Tree) : Type 0 where
  word : IsWordTree (norm w t)
  same : seen w (norm w t) v ≡ seen w t v

record IsTestedSame (w : ℕ) (v : View) (t : Tree) : Type 0 where
  tested : IsTestedTree (norm w t)
  same : (r : Rel) → test_seen w r (norm w t) v ≡ test_seen w r t v

to_same : (w : ℕ) (v : View) (t u : Tree) → Kept w v (seen w u v) (norm w t) → seen w u v ≡ seen w t v → IsSame w v t
to_same w v t u p e = record { word = p.word; same = p.same ∙ e }

mutual
  norm_seen : (w : ℕ) (t : Tree) (v : View) → IsWordSize w → IsWordView w v → IsFitting w t → IsWordTree t → IsSame w v t
  norm_seen w (Number n) v z k f h = record { word = tt; same = refl }
  norm_seen w (Symbol n) v z k f h = record { word = tt; same = refl }
  norm_seen w (CodeLabel l) v z k f h = record { word = tt; same = refl }
  norm_seen w (Read c) v z k f h = record { word = h; same = refl }
  norm_seen w (Load d a) v z k f h =
      let p = norm_seen w a v z k f h in
      to_same w v (Load d a) (Load d (norm w a)) (finish_seen w v (Load d (norm w a)) z k (norm_fits w a z f) p.word)
      (ap (load_on (width_of w d) v) p.same)
  norm_seen w (Unary Neg a) v z k f h =
      let p = norm_seen w a v z k f h in
      to_same w v (Unary Neg a) (Unary Neg (norm w a)) (finish_seen w v (Unary Neg (norm w a)) z k (norm_fits w a z f) p.word)
      (ap (unary_on w Neg) p.same)
  norm_seen w (Unary Not a) v z k f h =
      let p = norm_seen w a v z k f h in
      to_same w v (Unary Not a) (Unary Not (norm w a)) (finish_seen w v (Unary Not (norm w a)) z k (norm_fits w a z f) p.word)
      (ap (unary_on w Not) p.same)
  norm_seen w (Unary Sxb a) v z k f h =
      let p = norm_seen w a v z k f h in
      to_same w v (Unary Sxb a) (Unary Sxb (norm w a)) (finish_seen w v (Unary Sxb (norm w a)) z k (norm_fits w a z f) p.word)
      (ap (unary_on w Sxb) p.same)
  norm_seen w (Unary (Test r) a) v z k f h =
      let p = norm_tested w a v z k f h in
      to_same w v (Unary (Test r) a) (Unary (Test r) (norm w a)) (finish_seen w v (Unary (Test r) (norm w a)) z k (norm_fits w a z f) p.tested)
      (p.same r)
  norm_seen w (Binary o a b) v z k f h =
      let p = norm_seen w a v z k f.0 h.1 in
      let q = norm_seen w b v z k f.1 h.2 in
      to_same w v (Binary o a b) (Binary o (norm w a) (norm w b))
      (finish_seen w v (Binary o (norm w a) (norm w b)) z k (norm_fits w a z f.0, norm_fits w b z f.1) (h.0, p.word, q.word))
      (both_are w o _ _ _ _ p.same q.same)
  norm_seen w NoPair v z k f h = absurd h
  norm_seen w (AnyNumber n) v z k f h = absurd h
  norm_seen w (AnyName n) v z k f h = absurd h

  norm_tested : (w : ℕ) (t : Tree) (v : View) → IsWordSize w → IsWordView w v → IsFitting w t → IsTestedTree t → IsTestedSame w v t
  norm_tested w (Read (Flag n)) v z k f h = record { tested = tt; same = λ r. refl }
  norm_tested w (Binary Pair a b) v z k f h =
      let p = norm_seen w a v z k f.0 h.0 in
      let q = norm_seen w b v z k f.1 h.1 in
      let e = norm_pair w a b in
      record {
        tested = subst IsTestedTree (sym e) (p.word, q.word);
        same = λ r. ap (λ x. test_seen w r x v) e ∙ both_are w (Cmp r) _ _ _ _ p.same q.same;
      }
  norm_tested w _ v z k f h = absurd h

pub seen_is_kept : SeenIsKept
seen_is_kept w t v z k f h = (norm_seen w t v z k f h).same

pub word_is_kept : (w : ℕ) (t : Tree) (v : View) → IsWordSize w → IsWordView w v → IsFitting w t → IsWordTree t → IsWordTree (norm w t)
word_is_kept w t v z k f h = (norm_seen w t v z k f h).word
