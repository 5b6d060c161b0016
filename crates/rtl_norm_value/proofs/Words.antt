-- What is seen in a view of words is a word.
use Rattle.std.proofs.Common.{◌≡◌, ℕ, zero, suc, ◌+◌, ◌*◌, ◌/◌, ◌^◌, ◌<◌, ◌≤◌, Bool, true, false, Option, Some, None, Result, Ok, Err, arith, refl, subst}
use Rattle.std.specs.Prelude.{if◌then◌else◌}
use Rattle.std.proofs.lemmas.Nat.{or_lt, xor_lt, pow-add}
use Rattle.rtl_word.specs.declared.Rel.{Rel}
use Rattle.rtl_word.specs.Words.{IsWordSize}
use Rattle.rtl_word.proofs.Below.{by_size, word_add-below, word_sub-below, word_mul-below, word_neg-below, word_not-below, word_sxb-below, word_rel-below, word_div-below, word_divu-below, word_rem-below, word_remu-below, word_shl-below, word_shr-below, word_shru-below, bit_and-below}
use Rattle.rtl_tree.specs.Trees.{Tree, Number, Symbol, CodeLabel, Read, Load, Unary, Binary, NoPair, AnyNumber, AnyName}
use Rattle.rtl_tree.specs.declared.cells.Cell.TheVariants.{Flag}
use Rattle.rtl_tree.specs.declared.expressions.Width.{Width}
use Rattle.rtl_tree.specs.declared.expressions.Width.TheVariants.{Byte, Full}
use Rattle.rtl_tree.specs.declared.expressions.UnOp.{UnOp}
use Rattle.rtl_tree.specs.declared.expressions.UnOp.TheVariants.{Neg, Not, Sxb, Test}
use Rattle.rtl_tree.specs.declared.expressions.BinOp.{BinOp}
use Rattle.rtl_tree.specs.declared.expressions.BinOp.TheVariants.{Add, Sub, Mul, Div, Divu, Rem, Remu, And, Or, Xor, Shl, Shr, Shru, Cmp, Pair, When}
use Rattle.rtl_tree.specs.Sorts.{IsFitting}
use Rattle.rtl_norm.proofs.Rewrites.{none_some}
use Rattle.rtl_value.specs.declared.state.Trap.{Trap}
use Rattle.rtl_value.specs.Values.{or_trap, binary_of}
use Rattle.rtl_effect.specs.Views.{Stop, Traps, Wild, Mark, Holds, Gone, View, Seen, bind, lifted, both, word_at, width_of, touched, mark_test, may_trap, some_trap, unary_on, binary_on, load_on, seen, test_seen}
use Rattle.rtl_norm_value.specs.Kept.{IsWordView}

-- what is seen, if it is set, is below a bound
pub record IsBelow (m : ℕ) (r : Seen) : Type 0 where
  pub below : (n : ℕ) → r ≡ Ok (Some n) → n < m

pub word_below : (m n : ℕ) → n < m → IsBelow m (Ok (Some n))
word_below m n h = record { below = λ k e. let d : n ≡ k = cc in subst (λ (x : ℕ). x < m) d h }

pub unset_below : (m : ℕ) → IsBelow m (Ok None)
unset_below m = record { below = λ k e. cc }

pub stop_below : (m : ℕ) (s : Stop) → IsBelow m (Err s)
stop_below m s = record { below = λ k e. cc }

cell_below : (m : ℕ) (o : Option ℕ) → ((n : ℕ) → o ≡ Some n → n < m) → IsBelow m (Ok o)
cell_below m (Some n) h = word_below m n (h n refl)
cell_below m None h = unset_below m

answer_below : (m : ℕ) (o : Option ℕ) (t : Trap) → ((n : ℕ) → o ≡ Some n → n < m) → IsBelow m (lifted (or_trap o t))
answer_below m (Some n) t h = word_below m n (h n refl)
answer_below m None t h = stop_below m (Traps t)

pub binary_below : (w : ℕ) (o : BinOp) (a b : ℕ) → IsWordSize w → a < 2 ^ w → b < 2 ^ w → IsBelow (2 ^ w) (lifted (binary_of w o a b))
binary_below w Add a b s h k = word_below _ _ (word_add-below w a b)
binary_below w Sub a b s h k = word_below _ _ (word_sub-below w a b)
binary_below w Mul a b s h k = word_below _ _ (word_mul-below w a b)
binary_below w Div a b s h k = answer_below _ _ _ (λ v e. word_div-below w a b v s h k e)
binary_below w Divu a b s h k = answer_below _ _ _ (λ v e. word_divu-below w a b v h e)
binary_below w Rem a b s h k = answer_below _ _ _ (λ v e. word_rem-below w a b v s h k e)
binary_below w Remu a b s h k = answer_below _ _ _ (λ v e. word_remu-below w a b v h e)
binary_below w And a b s h k = word_below _ _ (bit_and-below w a b h)
binary_below w Or a b s h k = word_below _ _ (or_lt w a b h k)
binary_below w Xor a b s h k = word_below _ _ (xor_lt w a b h k)
binary_below w Shl a b s h k = answer_below _ _ _ (λ v e. word_shl-below w a b v e)
binary_below w Shr a b s h k = answer_below _ _ _ (λ v e. word_shr-below w a b v s h e)
binary_below w Shru a b s h k = answer_below _ _ _ (λ v e. word_shru-below w a b v h e)
binary_below w (Cmp r) a b s h k = word_below _ _ (word_rel-below w r a b s)
binary_below w Pair a b s h k = stop_below _ _
binary_below w When a b s h k = stop_below _ _

wild_or_unset : (m : ℕ) (t : Bool) → IsBelow m (if t then Err Wild else Ok None)
wild_or_unset m true = stop_below m Wild
wild_or_unset m false = unset_below m

binary_on_below : (w : ℕ) (o : BinOp) (u v : Seen) → IsWordSize w → IsBelow (2 ^ w) u → IsBelow (2 ^ w) v → IsBelow (2 ^ w) (binary_on w o u v)
binary_on_below w o (Ok (Some a)) (Ok (Some b)) z h k = binary_below w o a b z (h.below a refl) (k.below b refl)
binary_on_below w o (Ok (Some a)) (Ok None) z h k = wild_or_unset _ (may_trap o)
binary_on_below w o (Ok None) (Ok (Some b)) z h k = wild_or_unset _ (some_trap w o b)
binary_on_below w o (Ok None) (Ok None) z h k = wild_or_unset _ (may_trap o)
binary_on_below w o (Ok (Some a)) (Err s) z h k = stop_below _ s
binary_on_below w o (Ok None) (Err s) z h k = stop_below _ s
binary_on_below w o (Err s) v z h k = stop_below _ s

unary_on_below : (w : ℕ) (o : UnOp) (u : Seen) → IsWordSize w → IsBelow (2 ^ w) (unary_on w o u)
unary_on_below w Neg (Ok (Some a)) z = word_below _ _ (word_neg-below w a)
unary_on_below w Not (Ok (Some a)) z = word_below _ _ (word_not-below w a)
unary_on_below w Sxb (Ok (Some a)) z = word_below _ _ (word_sxb-below w a z)
unary_on_below w (Test r) (Ok (Some a)) z = word_below _ _ (by_size (λ n. 0 < 2 ^ n) (omega arith) (omega arith) w z)
unary_on_below w o (Ok None) z = unset_below _
unary_on_below w o (Err s) z = stop_below _ s

-- the bytes of memory make a number
both_is : (x y : Option ℕ) (f : ℕ → ℕ → ℕ) (n : ℕ) → both x y f ≡ Some n → (a : ℕ) × (b : ℕ) × (x ≡ Some a) × (y ≡ Some b) × (f a b ≡ n)
both_is (Some a) (Some b) f n e = (a, b, refl, refl, (let d : f a b ≡ n = cc in d))
both_is (Some a) None f n e = absurd (none_some n e)
both_is None y f n e = absurd (none_some n e)

word_at_below : (m : ℕ → Option ℕ) (a n x : ℕ) → ((k b : ℕ) → m k ≡ Some b → b < 256) → word_at m a n ≡ Some x → x < 256 ^ n
word_at_below m a zero x h e = let d : 0 ≡ x = cc in omega arith
word_at_below m a (suc n) x h e =
    let p = both_is (m a) (word_at m (a + 1) n) (λ x y. x + 256 * y) x e in
    let low = h a p.0 p.2 in
    let high = word_at_below m (a + 1) n p.1 h p.3 in
    let sum : p.0 + 256 * p.1 ≡ x = p.4 in
    let pow : 256 ^ (1 + n) ≡ 256 ^ 1 * 256 ^ n = pow-add 256 1 n in
    omega arith

at_address_below : (m n : ℕ) (v : View) (r : Result ℕ Stop) → ((a x : ℕ) → word_at v.bytes a n ≡ Some x → x < m) → IsBelow m (bind r (λ b. Ok (word_at v.bytes b n)))
at_address_below m n v (Ok a) h = cell_below m (word_at v.bytes a n) (h a)
at_address_below m n v (Err s) h = stop_below m s

load_on_below : (m n : ℕ) (v : View) (u : Seen) → ((a x : ℕ) → word_at v.bytes a n ≡ Some x → x < m) → IsBelow m (load_on n v u)
load_on_below m n v (Ok a) h = at_address_below m n v (touched n v a) h
load_on_below m n v (Err s) h = stop_below m s

pub byte_load_below : (w : ℕ) (v : View) (u : Seen) → IsWordView w v → IsBelow 256 (load_on 1 v u)
byte_load_below w v u k = load_on_below 256 1 v u (λ a x e. word_at_below v.bytes a 1 x k.bytes e)

byte_count : (w : ℕ) (d : Width) → IsWordSize w → 256 ^ width_of w d ≤ 2 ^ w
byte_count w Byte z = by_size (λ n. 256 ^ 1 ≤ 2 ^ n) (omega arith) (omega arith) w z
byte_count w Full z = by_size (λ n. 256 ^ (n / 8) ≤ 2 ^ n) (omega arith) (omega arith) w z

load_below : (w : ℕ) (d : Width) (v : View) (u : Seen) → IsWordSize w → IsWordView w v → IsBelow (2 ^ w) (load_on (width_of w d) v u)
load_below w d v u z k =
    load_on_below (2 ^ w) (width_of w d) v u
    (λ a x e. let h = word_at_below v.bytes a (width_of w d) x k.bytes e in let l = byte_count w d z in omega arith)

mark_below : (w : ℕ) (r : Rel) (m : Mark) → IsWordSize w → IsBelow (2 ^ w) (mark_test w r m)
mark_below w r (Holds a b) z = word_below _ _ (word_rel-below w r a b z)
mark_below w r Gone z = stop_below _ _

mutual
  pub seen_below : (w : ℕ) (t : Tree) (v : View) → IsWordSize w → IsWordView w v → IsFitting w t → IsBelow (2 ^ w) (seen w t v)
  seen_below w (Number n) v z k f = word_below _ n f
  seen_below w (Symbol n) v z k f = word_below _ _ (k.symbols n)
  seen_below w (CodeLabel l) v z k f = cell_below _ (v.labels l) (k.labels l)
  seen_below w (Read c) v z k f = cell_below _ (v.cells c) (k.cells c)
  seen_below w (Load d a) v z k f = load_below w d v (seen w a v) z k
  seen_below w (Unary Neg a) v z k f = unary_on_below w Neg (seen w a v) z
  seen_below w (Unary Not a) v z k f = unary_on_below w Not (seen w a v) z
  seen_below w (Unary Sxb a) v z k f = unary_on_below w Sxb (seen w a v) z
  seen_below w (Unary (Test r) a) v z k f = test_below w r a v z k f
  seen_below w (Binary o a b) v z k f = binary_on_below w o (seen w a v) (seen w b v) z (seen_below w a v z k f.0) (seen_below w b v z k f.1)
  seen_below w NoPair v z k f = stop_below _ _
  seen_below w (AnyNumber n) v z k f = stop_below _ _
  seen_below w (AnyName n) v z k f = stop_below _ _

  test_below : (w : ℕ) (r : Rel) (t : Tree) (v : View) → IsWordSize w → IsWordView w v → IsFitting w t → IsBelow (2 ^ w) (test_seen w r t v)
  test_below w r (Read (Flag n)) v z k f = mark_below w r (v.flags n) z
  test_below w r (Binary Pair a b) v z k f =
      binary_on_below w (Cmp r) (seen w a v) (seen w b v) z (seen_below w a v z k f.0) (seen_below w b v z k f.1)
  test_below w r _ v z k f = stop_below _ _
