-- The shift to the right that keeps the sign: that of the complement, complemented.
use Rattle.std.proofs.Common.{◌≡◌, ℕ, suc, ◌-◌, ◌/◌, ◌^◌, ◌<◌, List, [], ◌∷◌, Bool, true, false, cond, if◌then◌else◌, nat_lt, Some, None, refl, sym, ap, subst, ◌∙◌, arith}
use Rattle.std.specs.Int.{int_shr}
use Rattle.std.specs.Prelude.{pos, negsuc}
use Rattle.std.proofs.Math.Nat.{div-le_self}
use Rattle.std.proofs.lemmas.Bool.Decides.{nat_tests}
use Rattle.std.proofs.lemmas.Nat.{pow_pos}
use Rattle.rtl_word.specs.Words.{IsWordSize, word_sub, word_not, word_signed, word_of_signed, word_shr}
use Rattle.rtl_word.specs.Laws.{is_negative}
use Rattle.rtl_word.proofs.Below.{by_size, word_not-below}
use Rattle.c_helpers.specs.Code.{combine, minus, both, number, variable, is_set, put, ◌then◌, when, Variables, value, unless_zero, does, Ends}
use Rattle.c_helpers.specs.Helpers.{top, ones, shift_right, shr}
use Rattle.c_helpers.specs.Law.{Gives}
use Rattle.c_helpers.proofs.Gathering.{sub_word}
use Rattle.c_helpers.proofs.Products.{shift_rights}
use Rattle.c_helpers.proofs.Quotients.{flag, top_bit, by_sign, some_same}

-- the words before and after the shift, with the sign in the last
abbrev shifting : ℕ → ℕ → ℕ → Variables
shifting x n s = record { a = x; b = n; locals = 1 ∷ 0 ∷ 1 ∷ s ∷ [] }

complemented : (w x : ℕ) → x < 2 ^ w → word_sub w (ones w) x ≡ word_not w x
complemented w x h = sub_word w (ones w) x (omega arith) (omega (arith, pow_pos w))

sign_off : (w x n : ℕ) → 0 < w → x < 2 ^ w
    → does w (when (is_set (combine both (variable 0) (number (top w)))) (put 5 (number 1) then put 0 (combine minus (number (ones w)) (variable 0)))) (shifting x n 0)
    ≡ shifting (cond (is_negative w x) (word_not w x) x) n (flag (is_negative w x))
sign_off w x n po xw =
    ap (λ v. unless_zero v (shifting (word_sub w (ones w) x) n 1) (shifting x n 0)) (top_bit w x po xw)
    ∙ (by_sign w (is_negative w x) (shifting (word_sub w (ones w) x) n 1) (shifting x n 0) ∙ both_ways (is_negative w x))
  where
    both_ways : (b : Bool) → (if b then shifting (word_sub w (ones w) x) n 1 else shifting x n 0) ≡ shifting (cond b (word_not w x) x) n (flag b)
    both_ways true = ap (λ z. shifting z n 1) (complemented w x xw)
    both_ways false = refl

abbrev with_rest : Variables → List ℕ → Variables
with_rest h l = record { a = h.a; b = h.b; locals = l }

sign_on : (w : ℕ) (s : Bool) (h : Variables) → h.locals ≡ value w h (variable 2) ∷ value w h (variable 3) ∷ value w h (variable 4) ∷ flag s ∷ [] → value w h (variable 3) < 2 ^ w
    → value w (does w (when (is_set (variable 5)) (put 3 (combine minus (number (ones w)) (variable 3)))) h) (variable 3) ≡ cond s (word_not w (value w h (variable 3))) (value w h (variable 3))
sign_on w s h e lt =
    ap (λ l. value w (does w (when (is_set (variable 5)) (put 3 (combine minus (number (ones w)) (variable 3)))) (with_rest h l)) (variable 3)) e ∙ both_ways s
  where
    both_ways : (b : Bool)
        → value w (does w (when (is_set (variable 5)) (put 3 (combine minus (number (ones w)) (variable 3)))) (with_rest h (value w h (variable 2) ∷ value w h (variable 3) ∷ value w h (variable 4) ∷ flag b ∷ []))) (variable 3)
        ≡ cond b (word_not w (value w h (variable 3))) (value w h (variable 3))
    both_ways true = complemented w (value w h (variable 3)) lt
    both_ways false = refl

shr_is : (w x n : ℕ) → n < w → x < 2 ^ w → word_shr w x n ≡ Some (cond (is_negative w x) (word_not w (word_not w x / 2 ^ n)) (x / 2 ^ n))
shr_is w x n le xw =
    let t : nat_lt n w ≡ true = grind (arith, nat_tests) in
    ap (λ b. cond b (Some (word_of_signed w (int_shr (word_signed w x) n))) None) t ∙ ap Some (by_reading (is_negative w x) refl)
  where
    by_reading : (b : Bool) → is_negative w x ≡ b → word_of_signed w (int_shr (word_signed w x) n) ≡ cond b (word_not w (word_not w x / 2 ^ n)) (x / 2 ^ n)
    by_reading true e =
        let f : nat_lt x (top w) ≡ false = grind (arith, nat_tests, e) in
        let m : 2 ^ w - suc x ≡ word_not w x = omega arith in
        let back : 2 ^ w - suc (word_not w x / 2 ^ n) ≡ word_not w (word_not w x / 2 ^ n) = omega arith in
        ap (λ b. word_of_signed w (int_shr (cond b (pos x) (negsuc (2 ^ w - suc x))) n)) f ∙ (ap (λ k. word_of_signed w (int_shr (negsuc k) n)) m ∙ back)
    by_reading false e =
        let f : nat_lt x (top w) ≡ true = grind (arith, nat_tests, e) in
        ap (λ b. word_of_signed w (int_shr (cond b (pos x) (negsuc (2 ^ w - suc x))) n)) f

shr_small : (w x n v : ℕ) → word_shr w x n ≡ Some v → n < w
shr_small w x n v e = grind (arith, nat_tests, e)

quotient_word : (w x n : ℕ) → x < 2 ^ w → x / 2 ^ n < 2 ^ w
quotient_word w x n h = omega (arith, h, div-le_self x (2 ^ n))

size_word : (w x : ℕ) (b : Bool) → x < 2 ^ w → cond b (word_not w x) x < 2 ^ w
size_word w x true h = word_not-below w x
size_word w x false h = h

meets : (w x n : ℕ) (b : Bool) → cond b (word_not w (cond b (word_not w x) x / 2 ^ n)) (cond b (word_not w x) x / 2 ^ n) ≡ cond b (word_not w (word_not w x / 2 ^ n)) (x / 2 ^ n)
meets w x n true = refl
meets w x n false = refl

pub shifts_signed : (w x y v : ℕ) → IsWordSize w → x < 2 ^ w → word_shr w x y ≡ Some v → Gives w (shr w) x y v
shifts_signed w x n v z xw e =
    let po : 0 < w = by_size (λ w. 0 < w) (omega arith) (omega arith) w z in
    let le = shr_small w x n v e in
    let b = is_negative w x in
    let m = cond b (word_not w x) x in
    let mw = size_word w x b xw in
    let back = when (is_set (variable 5)) (put 3 (combine minus (number (ones w)) (variable 3))) in
    let one = sign_off w x n po xw in
    let d = shift_rights w m n (flag b ∷ []) po mw le in
    let h = does w shift_right (shifting m n (flag b)) in
    let r_word : value w h (variable 3) < 2 ^ w = subst (λ k. k < 2 ^ w) (sym d.r) (quotient_word w m n mw) in
    let ends : Ends w shift_right (does w (when (is_set (combine both (variable 0) (number (top w)))) (put 5 (number 1) then put 0 (combine minus (number (ones w)) (variable 0)))) (shifting x n 0)) = subst (Ends w shift_right) (sym one) d.ends in
    record {
      ends = ((tt, tt), (ends, tt));
      value = ap (λ g. value w (does w back (does w shift_right g)) (variable 3)) one
          ∙ (sign_on w b h d.rest r_word ∙ (ap (λ k. cond b (word_not w k) k) d.r ∙ (meets w x n b ∙ some_same _ v (sym (shr_is w x n le xw) ∙ e))));
    }
