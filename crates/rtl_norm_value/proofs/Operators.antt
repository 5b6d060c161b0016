-- The laws of operators that the rules rest on.
use Rattle.std.proofs.Common.{◌≡◌, ℕ, ◌-◌, ◌^◌, ◌<◌, true, false, Option, Some, Ok, bit_and, bit_or, arith, refl, sym, ap, subst, ◌∙◌}
use Rattle.std.specs.Prelude.{◌==◌}
use Rattle.std.proofs.lemmas.Bool.Decides.{nat_tests}
use Rattle.std.proofs.lemmas.Nat.{and_comm, or_comm, xor_comm, and_assoc}
use Rattle.std.specs.Int.Bits.{or_zero_r, xor_zero_r}
use Rattle.rtl_word.specs.declared.Rel.TheVariants.{Eq, Ne}
use Rattle.rtl_word.specs.Words.{IsWordSize, word_add}
use Rattle.rtl_word.proofs.Below.{by_size}
use Rattle.rtl_word.proofs.Sums.{add_comm, add_assoc, add_zero}
use Rattle.rtl_word.proofs.Products.{mul_commutes, mul_one}
use Rattle.rtl_word.proofs.Bitwise.{or_assoc, and_ones}
use Rattle.rtl_word.proofs.Shifts.{shl_none, shr_none, shru_none}
use Rattle.rtl_word.proofs.Quotients.{div_one, divu_one}
use Rattle.rtl_word.proofs.Comparisons.{rel_mirrored}
use Rattle.rtl_tree.specs.Likeness.{commutes}
use Rattle.rtl_tree.specs.declared.expressions.UnOp.{UnOp}
use Rattle.rtl_tree.specs.declared.expressions.UnOp.TheVariants.{Neg, Not, Sxb, Test}
use Rattle.rtl_tree.specs.declared.expressions.BinOp.{BinOp}
use Rattle.rtl_tree.specs.declared.expressions.BinOp.TheVariants.{Add, Sub, Mul, Div, Divu, Rem, Remu, And, Or, Xor, Shl, Shr, Shru, Cmp, Pair, When}
use Rattle.rtl_norm.specs.Numbers.{unary_number, binary_number}
use Rattle.rtl_norm.specs.Rules.{joined, is_neutral}
use Rattle.rtl_norm.proofs.Rewrites.{none_some}
use Rattle.rtl_value.specs.declared.state.Trap.{Trap}
use Rattle.rtl_value.specs.declared.state.Trap.TheVariants.{Divide, Shift}
use Rattle.rtl_value.specs.Values.{or_trap, unary_of, binary_of}
use Rattle.rtl_effect.specs.Views.{may_trap, some_trap}

pub some_is : (a b : ℕ) → Some a ≡ Some b → a ≡ b
some_is a b e = cc

answered : (o : Option ℕ) (t : Trap) (v : ℕ) → o ≡ Some v → or_trap o t ≡ Ok v
answered o t v e = ap (λ x. or_trap x t) e

-- N1's numbers are values
pub unary_folded : (w : ℕ) (o : UnOp) (a v : ℕ) → unary_number w o a ≡ Some v → unary_of w o a ≡ v
unary_folded w Neg a v e = some_is _ _ e
unary_folded w Not a v e = some_is _ _ e
unary_folded w Sxb a v e = some_is _ _ e
unary_folded w (Test r) a v e = absurd (none_some v e)

pub binary_folded : (w : ℕ) (o : BinOp) (a b v : ℕ) → binary_number w o a b ≡ Some v → binary_of w o a b ≡ Ok v
binary_folded w Add a b v e = ap Ok (some_is _ _ e)
binary_folded w Sub a b v e = ap Ok (some_is _ _ e)
binary_folded w Mul a b v e = ap Ok (some_is _ _ e)
binary_folded w Div a b v e = answered _ _ v e
binary_folded w Divu a b v e = answered _ _ v e
binary_folded w Rem a b v e = answered _ _ v e
binary_folded w Remu a b v e = answered _ _ v e
binary_folded w And a b v e = ap Ok (some_is _ _ e)
binary_folded w Or a b v e = ap Ok (some_is _ _ e)
binary_folded w Xor a b v e = ap Ok (some_is _ _ e)
binary_folded w Shl a b v e = answered _ _ v e
binary_folded w Shr a b v e = answered _ _ v e
binary_folded w Shru a b v e = answered _ _ v e
binary_folded w (Cmp r) a b v e = ap Ok (some_is _ _ e)
binary_folded w Pair a b v e = absurd (none_some v e)
binary_folded w When a b v e = absurd (none_some v e)

-- N2: the operands of an operator that commutes
pub binary_commutes : (w : ℕ) (o : BinOp) (a b : ℕ) → commutes o ≡ true → binary_of w o a b ≡ binary_of w o b a
binary_commutes w Add a b e = ap Ok (add_comm w a b)
binary_commutes w Mul a b e = ap Ok (mul_commutes w a b)
binary_commutes w And a b e = ap Ok (and_comm a b)
binary_commutes w Or a b e = ap Ok (or_comm a b)
binary_commutes w Xor a b e = ap Ok (xor_comm a b)
binary_commutes w (Cmp Eq) a b e = ap Ok (rel_mirrored w Eq b a)
binary_commutes w (Cmp Ne) a b e = ap Ok (rel_mirrored w Ne b a)
binary_commutes w _ a b e = let k : false ≡ true = e in cc

-- an operator that commutes never traps
pub commuting_is_total : (w : ℕ) (o : BinOp) (b : ℕ) → commutes o ≡ true → (may_trap o ≡ false) × (some_trap w o b ≡ false)
commuting_is_total w Add b e = (refl, refl)
commuting_is_total w Mul b e = (refl, refl)
commuting_is_total w And b e = (refl, refl)
commuting_is_total w Or b e = (refl, refl)
commuting_is_total w Xor b e = (refl, refl)
commuting_is_total w (Cmp r) b e = (refl, refl)
commuting_is_total w _ b e = absurd (let k : false ≡ true = e in cc)

-- N6: two numbers made one
pub binary_joins : (w : ℕ) (o p : BinOp) (x c d v : ℕ) → joined w o p c d ≡ Some v → (y : ℕ) × (binary_of w p x c ≡ Ok y) × (binary_of w o y d ≡ binary_of w o x v)
binary_joins w Add Add x c d v e =
    (word_add w x c, refl, ap Ok (add_assoc w x c d ∙ ap (word_add w x) (some_is _ _ e)))
binary_joins w And And x c d v e =
    (bit_and x c, refl, ap Ok (and_assoc d x c ∙ ap (bit_and x) (some_is _ _ e)))
binary_joins w Or Or x c d v e =
    (bit_or x c, refl, ap Ok (or_assoc x c d ∙ ap (bit_or x) (some_is _ _ e)))
binary_joins w _ _ x c d v e = absurd (none_some v e)

-- those that N6 joins never trap
pub joining_is_total : (w : ℕ) (o p : BinOp) (c d v n : ℕ) → joined w o p c d ≡ Some v → (some_trap w o n ≡ false) × (some_trap w p n ≡ false)
joining_is_total w Add Add c d v n e = (refl, refl)
joining_is_total w And And c d v n e = (refl, refl)
joining_is_total w Or Or c d v n e = (refl, refl)
joining_is_total w _ _ c d v n e = absurd (none_some v e)

pub is_number_of : (c n : ℕ) → c == n ≡ true → c ≡ n
is_number_of c n e = grind (arith, nat_tests)

at : (w : ℕ) (o : BinOp) (x c n : ℕ) → c == n ≡ true → binary_of w o x n ≡ Ok x → binary_of w o x c ≡ Ok x
at w o x c n e h = let P : ℕ → Type 0 = λ k. binary_of w o x k ≡ Ok x in subst P (sym (is_number_of c n e)) h

-- N7: a number that changes nothing
pub binary_neutral : (w : ℕ) (o : BinOp) (x c : ℕ) → IsWordSize w → x < 2 ^ w → is_neutral w o c ≡ true → binary_of w o x c ≡ Ok x
binary_neutral w Add x c z h e = at w Add x c 0 e (ap Ok (add_zero w x h))
binary_neutral w Or x c z h e = at w Or x c 0 e (ap Ok (or_zero_r x))
binary_neutral w Xor x c z h e = at w Xor x c 0 e (ap Ok (xor_zero_r x))
binary_neutral w Mul x c z h e = at w Mul x c 1 e (ap Ok (mul_one w x h))
binary_neutral w And x c z h e = at w And x c (2 ^ w - 1) e (ap Ok (and_ones w x h))
binary_neutral w Divu x c z h e = at w Divu x c 1 e (ap (λ o. or_trap o Divide) (divu_one x))
binary_neutral w Div x c z h e = at w Div x c 1 e (ap (λ o. or_trap o Divide) (div_one w x z h))
binary_neutral w Shl x c z h e = at w Shl x c 0 e (ap (λ o. or_trap o Shift) (shl_none w x z h))
binary_neutral w Shru x c z h e = at w Shru x c 0 e (ap (λ o. or_trap o Shift) (shru_none w x z))
binary_neutral w Shr x c z h e = at w Shr x c 0 e (ap (λ o. or_trap o Shift) (shr_none w x z h))
binary_neutral w _ x c z h e = absurd (let k : false ≡ true = e in cc)

with_number : (w : ℕ) (o : BinOp) (c n : ℕ) → c == n ≡ true → some_trap w o n ≡ false → some_trap w o c ≡ false
with_number w o c n e h = let P : ℕ → Type 0 = λ k. some_trap w o k ≡ false in subst P (sym (is_number_of c n e)) h

-- and with which an operator never traps
pub neutral_is_total : (w : ℕ) (o : BinOp) (c : ℕ) → IsWordSize w → is_neutral w o c ≡ true → some_trap w o c ≡ false
neutral_is_total w Add c z e = refl
neutral_is_total w Or c z e = refl
neutral_is_total w Xor c z e = refl
neutral_is_total w Mul c z e = refl
neutral_is_total w And c z e = refl
neutral_is_total w Divu c z e = with_number w Divu c 1 e refl
neutral_is_total w Div c z e = with_number w Div c 1 e (by_size (λ n. some_trap n Div 1 ≡ false) refl refl w z)
neutral_is_total w Shl c z e = with_number w Shl c 0 e (by_size (λ n. some_trap n Shl 0 ≡ false) refl refl w z)
neutral_is_total w Shru c z e = with_number w Shru c 0 e (by_size (λ n. some_trap n Shru 0 ≡ false) refl refl w z)
neutral_is_total w Shr c z e = with_number w Shr c 0 e (by_size (λ n. some_trap n Shr 0 ≡ false) refl refl w z)
neutral_is_total w _ c z e = absurd (let k : false ≡ true = e in cc)
