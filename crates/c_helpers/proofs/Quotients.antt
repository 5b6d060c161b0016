-- What the four helpers of division give.
use Rattle.std.proofs.Common.{◌≡◌, ℕ, zero, suc, ◌+◌, ◌-◌, ◌*◌, ◌/◌, ◌%◌, ◌^◌, ◌<◌, ◌≤◌, List, [], ◌∷◌, Bool, true, false, not, cond, if◌then◌else◌, nat_le, nat_lt, Option, Some, None, bit_and, inl, inr, refl, sym, ap, subst, ◌∙◌, arith}
use Rattle.std.proofs.Math.Nat.{mod-eq_of_lt, div-eq_of_lt}
use Rattle.std.proofs.lemmas.Bool.{cases_lt}
use Rattle.std.proofs.lemmas.Bool.Decides.{nat_tests}
use Rattle.std.proofs.lemmas.Nat.{pow_pos, pow_below, div-mul-add, mod-mul-add}
use Rattle.rtl_word.specs.Words.{IsWordSize, word_sub, word_div, word_divu, word_rem, word_remu, word_div_traps}
use Rattle.rtl_word.specs.Laws.{is_negative, magnitude, negated_if, differ}
use Rattle.rtl_word.proofs.Sums.{zero_sub}
use Rattle.rtl_word.proofs.Below.{by_size}
use Rattle.rtl_word.proofs.Quotients.{div_signs, rem_signs}
use Rattle.c_helpers.specs.Code.{combine, minus, both, number, variable, is_set, at_least, put, ◌then◌, when, Variables, value, tested, unless_zero, repeated, does, started}
use Rattle.c_helpers.specs.Helpers.{top, divide, large, divu, div, remu, rem}
use Rattle.c_helpers.specs.Law.{Gives}
use Rattle.c_helpers.proofs.Repeats.{viewed, stays_put}
use Rattle.c_helpers.proofs.Gathering.{double_pow, sub_word, mod_small}
use Rattle.c_helpers.proofs.Dividing.{Quad, mask, dividing, divide_body, divide_turn, divide_turns, Halfway, divides, Divided, bit_of}

doubled_top : (w : ℕ) → 0 < w → 2 ^ w ≡ top w + top w
doubled_top w h = let e : suc (w - 1) ≡ w = omega (arith, h) in ap (λ n. 2 ^ n) (sym e) ∙ double_pow (w - 1)

-- the while on any dividend
pub loop_gives : (w x y : ℕ) (rest : List ℕ) → 0 < w → x < 2 ^ w → 0 < y → y ≤ top w
    → (t : Quad) × (does w (divide w 0 1 2 3) (dividing rest (record { a = x; b = y; r = 0; m = 1 })) ≡ dividing rest t) × Divided x y t
loop_gives w x y rest pos xw some fits =
    let t : Quad = record { a = x; b = y; r = 0; m = 1 } in
    let h : Halfway w 0 w 0 x y t = record {
      bits = omega arith;
      first = omega arith;
      other = xw;
      dividend = sym (ap (λ n. x * 1 + n) (div-eq_of_lt some) ∙ omega arith);
      divisor = refl;
      remainder = sym (mod-eq_of_lt some);
      counter = sym (mod_small w 0 pos);
    } in
    let d = divides w w 0 0 x y t h some fits in
    let n : 0 * 2 ^ w + x ≡ x = omega arith in (
      repeated w mask (divide_turn w) t,
      viewed Quad Variables (dividing rest) (λ g. tested w g (is_set (variable 3))) (does w (divide_body w)) mask (divide_turn w) (λ u. refl) (divide_turns w rest) w t,
      subst (λ n. Divided n y (repeated w mask (divide_turn w) t)) n d,
    )

-- ---- `__divu`

large_by : (w u x y : ℕ) → unless_zero u (does w (put 2 (combine minus (variable 2) (variable 1)) then put 0 (number 1)) (dividing [] (record { a = 0; b = y; r = x; m = 0 }))) (dividing [] (record { a = 0; b = y; r = x; m = 0 }))
    ≡ dividing [] (record { a = unless_zero u 1 0; b = y; r = unless_zero u (word_sub w x y) x; m = 0 })
large_by w zero x y = refl
large_by w (suc u) x y = refl

quotient_once : (w x y : ℕ) → 0 < w → x < 2 ^ w → top w < y → unless_zero (if nat_le y x then 1 else 0) 1 0 ≡ x / y
quotient_once w x y pos xw big =
    elim (cases_lt x y) [
      | inl h ↦ let n : nat_le y x ≡ false = grind (arith, nat_tests) in ap (λ b. unless_zero (if b then 1 else 0) 1 0) n ∙ sym (div-eq_of_lt h)
      | inr h ↦
          let n : nat_le y x ≡ true = grind (arith, nat_tests) in
          let p : x ≡ 1 * y + (x - y) = omega arith in
          ap (λ b. unless_zero (if b then 1 else 0) 1 0) n ∙ sym (ap (λ z. z / y) p ∙ div-mul-add 1 y (x - y) (omega (arith, doubled_top w pos)))
    ]

divu_small : (w x y : ℕ) → 0 < w → x < 2 ^ w → 0 < y → y ≤ top w → Gives w (divu w) x y (x / y)
divu_small w x y pos xw some fits =
    let h0 = started (divu w) x y in
    let n : nat_lt (top w) y ≡ false = grind (arith, nat_tests) in
    let first : does w (large w) h0 ≡ h0 =
    ap (λ b. unless_zero (if b then 1 else 0) (does w (put 3 (number 0) then put 2 (variable 0) then put 0 (number 0) then when (at_least (variable 2) (variable 1)) (put 2 (combine minus (variable 2) (variable 1)) then put 0 (number 1))) h0) h0) n in
    let l = loop_gives w x y [] pos xw some fits in
    let whole : does w (divu w).code h0 ≡ dividing [] l.0 = ap (does w (divide w 0 1 2 3)) first ∙ l.1 in
    record {
      ends = ((tt, (tt, (tt, (tt, tt)))), (ap (λ h. tested w h (is_set (variable 3))) whole ∙ l.2.none, λ h. (tt, (tt, (tt, ((tt, tt), tt))))));
      value = ap (λ h. value w h (variable 0)) whole ∙ l.2.quotient;
    }

divu_large : (w x y : ℕ) → 0 < w → x < 2 ^ w → top w < y → Gives w (divu w) x y (x / y)
divu_large w x y pos xw big =
    let h0 = started (divu w) x y in
    let n : nat_lt (top w) y ≡ true = grind (arith, nat_tests) in
    let inner = put 3 (number 0) then put 2 (variable 0) then put 0 (number 0) then when (at_least (variable 2) (variable 1)) (put 2 (combine minus (variable 2) (variable 1)) then put 0 (number 1)) in
    let u : ℕ = if nat_le y x then 1 else 0 in
    let q : Quad = record { a = unless_zero u 1 0; b = y; r = unless_zero u (word_sub w x y) x; m = 0 } in
    let first : does w (large w) h0 ≡ dividing [] q = ap (λ b. unless_zero (if b then 1 else 0) (does w inner h0) h0) n ∙ large_by w u x y in
    let still : does w (divide w 0 1 2 3) (dividing [] q) ≡ dividing [] q =
    stays_put w (λ g. tested w g (is_set (variable 3))) (does w (divide_body w)) (dividing [] q) refl in
    let whole : does w (divu w).code h0 ≡ dividing [] q = ap (does w (divide w 0 1 2 3)) first ∙ still in
    record {
      ends = ((tt, (tt, (tt, (tt, tt)))), (ap (λ h. tested w h (is_set (variable 3))) whole, λ h. (tt, (tt, (tt, ((tt, tt), tt))))));
      value = ap (λ h. value w h (variable 0)) whole ∙ quotient_once w x y pos xw big;
    }

-- the same code leaves the remainder
remainder_once : (w x y : ℕ) → 0 < w → x < 2 ^ w → top w < y → unless_zero (if nat_le y x then 1 else 0) (word_sub w x y) x ≡ x % y
remainder_once w x y pos xw big =
    elim (cases_lt x y) [
      | inl h ↦ let n : nat_le y x ≡ false = grind (arith, nat_tests) in ap (λ b. unless_zero (if b then 1 else 0) (word_sub w x y) x) n ∙ sym (mod-eq_of_lt h)
      | inr h ↦
          let n : nat_le y x ≡ true = grind (arith, nat_tests) in
          let p : x ≡ 1 * y + (x - y) = omega arith in
          ap (λ b. unless_zero (if b then 1 else 0) (word_sub w x y) x) n ∙ (sub_word w x y h xw ∙ sym (ap (λ z. z % y) p ∙ mod-mul-add 1 y (x - y) (omega (arith, doubled_top w pos))))
    ]

remu_small : (w x y : ℕ) → 0 < w → x < 2 ^ w → 0 < y → y ≤ top w → Gives w (remu w) x y (x % y)
remu_small w x y pos xw some fits =
    let h0 = started (remu w) x y in
    let n : nat_lt (top w) y ≡ false = grind (arith, nat_tests) in
    let first : does w (large w) h0 ≡ h0 =
    ap (λ b. unless_zero (if b then 1 else 0) (does w (put 3 (number 0) then put 2 (variable 0) then put 0 (number 0) then when (at_least (variable 2) (variable 1)) (put 2 (combine minus (variable 2) (variable 1)) then put 0 (number 1))) h0) h0) n in
    let l = loop_gives w x y [] pos xw some fits in
    let whole : does w (remu w).code h0 ≡ dividing [] l.0 = ap (does w (divide w 0 1 2 3)) first ∙ l.1 in
    record { ends = (divu_small w x y pos xw some fits).ends; value = ap (λ h. value w h (variable 2)) whole ∙ l.2.remainder }

remu_large : (w x y : ℕ) → 0 < w → x < 2 ^ w → top w < y → Gives w (remu w) x y (x % y)
remu_large w x y pos xw big =
    let h0 = started (remu w) x y in
    let n : nat_lt (top w) y ≡ true = grind (arith, nat_tests) in
    let inner = put 3 (number 0) then put 2 (variable 0) then put 0 (number 0) then when (at_least (variable 2) (variable 1)) (put 2 (combine minus (variable 2) (variable 1)) then put 0 (number 1)) in
    let u : ℕ = if nat_le y x then 1 else 0 in
    let q : Quad = record { a = unless_zero u 1 0; b = y; r = unless_zero u (word_sub w x y) x; m = 0 } in
    let first : does w (large w) h0 ≡ dividing [] q = ap (λ b. unless_zero (if b then 1 else 0) (does w inner h0) h0) n ∙ large_by w u x y in
    let still : does w (divide w 0 1 2 3) (dividing [] q) ≡ dividing [] q =
    stays_put w (λ g. tested w g (is_set (variable 3))) (does w (divide_body w)) (dividing [] q) refl in
    let whole : does w (remu w).code h0 ≡ dividing [] q = ap (does w (divide w 0 1 2 3)) first ∙ still in
    record { ends = (divu_large w x y pos xw big).ends; value = ap (λ h. value w h (variable 2)) whole ∙ remainder_once w x y pos xw big }

remu_value : (x y v : ℕ) → word_remu x y ≡ Some v → (0 < y) × (x % y ≡ v)
remu_value x y v e = (grind (arith, nat_tests, e), grind (arith, nat_tests, e))

pub remains_unsigned : (w x y v : ℕ) → 0 < w → x < 2 ^ w → y < 2 ^ w → word_remu x y ≡ Some v → Gives w (remu w) x y v
remains_unsigned w x y v pos xw yw e =
    let d = remu_value x y v e in
    elim (cases_lt (top w) y) as (λ _. Gives w (remu w) x y v) [
      | inl h ↦ subst (Gives w (remu w) x y) d.1 (remu_large w x y pos xw h)
      | inr h ↦ subst (Gives w (remu w) x y) d.1 (remu_small w x y pos xw d.0 h)
    ]

divu_value : (x y v : ℕ) → word_divu x y ≡ Some v → (0 < y) × (x / y ≡ v)
divu_value x y v e = (grind (arith, nat_tests, e), grind (arith, nat_tests, e))

pub divides_unsigned : (w x y v : ℕ) → 0 < w → x < 2 ^ w → y < 2 ^ w → word_divu x y ≡ Some v → Gives w (divu w) x y v
divides_unsigned w x y v pos xw yw e =
    let d = divu_value x y v e in
    elim (cases_lt (top w) y) as (λ _. Gives w (divu w) x y v) [
      | inl h ↦ subst (Gives w (divu w) x y) d.1 (divu_large w x y pos xw h)
      | inr h ↦ subst (Gives w (divu w) x y) d.1 (divu_small w x y pos xw d.0 h)
    ]

-- ---- `__div`: the signs are taken off, and put on again

abbrev pub flag : Bool → ℕ
flag true = 1
flag false = 0

-- the words of the signed helpers, before the while
abbrev signed : ℕ → ℕ → ℕ → Variables
signed x y s = record { a = x; b = y; locals = 0 ∷ 1 ∷ s ∷ [] }

pub top_bit : (w x : ℕ) → 0 < w → x < 2 ^ w → bit_and x (top w) ≡ (if is_negative w x then top w else 0)
top_bit w x pos xw =
    elim (cases_lt x (top w)) [
      | inl h ↦
          let n : is_negative w x ≡ false = grind (arith, nat_tests) in
          let b : bit_and (0 * top w + x) (top w) ≡ 0 * top w = bit_of (w - 1) 0 x (omega arith) h in
          let e : 0 * top w + x ≡ x = omega arith in
          sym (ap (λ z. bit_and z (top w)) e) ∙ (b ∙ (omega arith ∙ sym (ap (λ z. if z then top w else 0) n)))
      | inr h ↦
          let n : is_negative w x ≡ true = grind (arith, nat_tests) in
          let b : bit_and (1 * top w + (x - top w)) (top w) ≡ 1 * top w = bit_of (w - 1) 1 (x - top w) (omega arith) (omega (arith, doubled_top w pos)) in
          let e : 1 * top w + (x - top w) ≡ x = omega arith in
          sym (ap (λ z. bit_and z (top w)) e) ∙ (b ∙ (omega arith ∙ sym (ap (λ z. if z then top w else 0) n)))
    ]

-- a conditional whose test is the sign
pub by_sign : {H : Type 0} (w : ℕ) (n : Bool) (g h : H) → unless_zero (if n then top w else 0) g h ≡ (if n then g else h)
by_sign w true g h = from_some (top w) (pow_pos (w - 1))
  where
    from_some : (k : ℕ) → 0 < k → unless_zero k g h ≡ g
    from_some zero z = absurd (omega (arith, z))
    from_some (suc k) z = refl
by_sign w false g h = refl

negated : (w x : ℕ) → 0 < w → x < 2 ^ w → is_negative w x ≡ true → word_sub w 0 x ≡ 2 ^ w - x
negated w x pos xw n =
    let h : top w ≤ x = grind (arith, nat_tests, n) in
    ap (λ z. z % 2 ^ w) (omega arith) ∙ mod-eq_of_lt (omega (arith, pow_pos (w - 1)))

dividend_sign : (w x y : ℕ) → 0 < w → x < 2 ^ w
    → does w (when (is_set (combine both (variable 0) (number (top w)))) (put 0 (combine minus (number 0) (variable 0)) then put 4 (number 1))) (signed x y 0) ≡ signed (magnitude w x) y (flag (is_negative w x))
dividend_sign w x y pos xw =
    ap (λ v. unless_zero v (signed (word_sub w 0 x) y 1) (signed x y 0)) (top_bit w x pos xw)
    ∙ (by_sign w (is_negative w x) (signed (word_sub w 0 x) y 1) (signed x y 0) ∙ both_ways (is_negative w x) refl)
  where
    both_ways : (n : Bool) → is_negative w x ≡ n → (if n then signed (word_sub w 0 x) y 1 else signed x y 0) ≡ signed (cond n (2 ^ w - x) x) y (flag n)
    both_ways true e = ap (λ z. signed z y 1) (negated w x pos xw e)
    both_ways false e = refl

other_flag : (w : ℕ) → 0 < w → (s : Bool) → word_sub w 1 (flag s) ≡ flag (not s)
other_flag w pos true = sub_word w 1 1 (omega arith) (pow_below 0 w pos) ∙ omega arith
other_flag w pos false = sub_word w 1 0 (omega arith) (pow_below 0 w pos) ∙ omega arith

divisor_sign : (w x y : ℕ) (s : Bool) → 0 < w → y < 2 ^ w
    → does w (when (is_set (combine both (variable 1) (number (top w)))) (put 1 (combine minus (number 0) (variable 1)) then put 4 (combine minus (number 1) (variable 4)))) (signed x y (flag s))
    ≡ signed x (magnitude w y) (flag (cond (is_negative w y) (not s) s))
divisor_sign w x y s pos yw =
    ap (λ v. unless_zero v (signed x (word_sub w 0 y) (word_sub w 1 (flag s))) (signed x y (flag s))) (top_bit w y pos yw)
    ∙ (by_sign w (is_negative w y) (signed x (word_sub w 0 y) (word_sub w 1 (flag s))) (signed x y (flag s)) ∙ both_ways (is_negative w y) refl)
  where
    both_ways : (n : Bool) → is_negative w y ≡ n
        → (if n then signed x (word_sub w 0 y) (word_sub w 1 (flag s)) else signed x y (flag s)) ≡ signed x (cond n (2 ^ w - y) y) (flag (cond n (not s) s))
    both_ways true e = ap (λ z. signed x z (word_sub w 1 (flag s))) (negated w y pos yw e) ∙ ap (signed x (2 ^ w - y)) (other_flag w pos s)
    both_ways false e = refl

sign_back : (w : ℕ) (s : Bool) (t : Quad) → value w (does w (when (is_set (variable 4)) (put 0 (combine minus (number 0) (variable 0)))) (dividing (flag s ∷ []) t)) (variable 0) ≡ negated_if w s t.a
sign_back w true t = zero_sub w t.a
sign_back w false t = refl

magnitude_fits : (w x : ℕ) → 0 < w → x < 2 ^ w → magnitude w x ≤ top w
magnitude_fits w x pos xw =
    elim (cases_lt x (top w)) [
      | inl h ↦ let n : is_negative w x ≡ false = grind (arith, nat_tests) in subst (λ b. cond b (2 ^ w - x) x ≤ top w) (sym n) (omega arith)
      | inr h ↦ let n : is_negative w x ≡ true = grind (arith, nat_tests) in subst (λ b. cond b (2 ^ w - x) x ≤ top w) (sym n) (omega (arith, doubled_top w pos))
    ]

magnitude_some : (w x : ℕ) → x < 2 ^ w → 0 < x → 0 < magnitude w x
magnitude_some w x xw h = by_negative (is_negative w x)
  where
    by_negative : (n : Bool) → 0 < cond n (2 ^ w - x) x
    by_negative true = omega arith
    by_negative false = h

signs : (s t : Bool) → cond t (not s) s ≡ differ s t
signs true true = refl
signs true false = refl
signs false true = refl
signs false false = refl

div_gives : (w x y : ℕ) → 0 < w → x < 2 ^ w → y < 2 ^ w → 0 < y → Gives w (div w) x y (negated_if w (differ (is_negative w x) (is_negative w y)) (magnitude w x / magnitude w y))
div_gives w x y pos xw yw some =
    let mx = magnitude w x in let my = magnitude w y in
    let s : Bool = cond (is_negative w y) (not (is_negative w x)) (is_negative w x) in
    let l = loop_gives w mx my (flag s ∷ []) pos (omega (arith, magnitude_fits w x pos xw, doubled_top w pos, pow_pos (w - 1))) (magnitude_some w y yw some) (magnitude_fits w y pos yw) in
    let second = when (is_set (combine both (variable 1) (number (top w)))) (put 1 (combine minus (number 0) (variable 1)) then put 4 (combine minus (number 1) (variable 4))) in
    let back = when (is_set (variable 4)) (put 0 (combine minus (number 0) (variable 0))) in
    let one = dividend_sign w x y pos xw in
    let two = divisor_sign w mx y (is_negative w x) pos yw in
    let three : does w (divide w 0 1 2 3) (does w second (signed mx y (flag (is_negative w x)))) ≡ dividing (flag s ∷ []) l.0 = ap (does w (divide w 0 1 2 3)) two ∙ l.1 in
    let looped : does w (divide w 0 1 2 3) (does w second (does w (when (is_set (combine both (variable 0) (number (top w)))) (put 0 (combine minus (number 0) (variable 0)) then put 4 (number 1))) (signed x y 0))) ≡ dividing (flag s ∷ []) l.0 =
    ap (λ h. does w (divide w 0 1 2 3) (does w second h)) one ∙ three in
    record {
      ends = ((tt, tt), ((tt, tt), ((ap (λ h. tested w h (is_set (variable 3))) looped ∙ l.2.none, λ h. (tt, (tt, (tt, ((tt, tt), tt))))), tt)));
      value = ap (λ h. value w (does w back h) (variable 0)) looped ∙ (sign_back w s l.0 ∙ (ap (negated_if w s) l.2.quotient ∙ ap (λ b. negated_if w b (mx / my)) (signs (is_negative w x) (is_negative w y))));
    }

no_trap : (w x y v : ℕ) → word_div w x y ≡ Some v → word_div_traps w x y ≡ false
no_trap w x y v e = grind (arith, nat_tests, e)

divisor_some : (w x y : ℕ) → word_div_traps w x y ≡ false → 0 < y
divisor_some w x y e = grind (arith, nat_tests, e)

pub some_same : (x y : ℕ) → Some x ≡ Some y → x ≡ y
some_same x y e = ap (λ o. or_none o) e
  where
    or_none : Option ℕ → ℕ
    or_none None = 0
    or_none (Some v) = v

pub divides_signed : (w x y v : ℕ) → IsWordSize w → x < 2 ^ w → y < 2 ^ w → word_div w x y ≡ Some v → Gives w (div w) x y v
divides_signed w x y v z xw yw e =
    let n = no_trap w x y v e in
    let pos : 0 < w = by_size (λ w. 0 < w) (omega arith) (omega arith) w z in
    let q = some_same _ v (sym (div_signs w z x y xw yw n) ∙ e) in
    subst (Gives w (div w) x y) q (div_gives w x y pos xw yw (divisor_some w x y n))

-- ---- `__rem`: the sign is the dividend's

divisor_size : (w x y s : ℕ) → 0 < w → y < 2 ^ w
    → does w (when (is_set (combine both (variable 1) (number (top w)))) (put 1 (combine minus (number 0) (variable 1)))) (signed x y s) ≡ signed x (magnitude w y) s
divisor_size w x y s pos yw =
    ap (λ v. unless_zero v (signed x (word_sub w 0 y) s) (signed x y s)) (top_bit w y pos yw)
    ∙ (by_sign w (is_negative w y) (signed x (word_sub w 0 y) s) (signed x y s) ∙ both_ways (is_negative w y) refl)
  where
    both_ways : (n : Bool) → is_negative w y ≡ n → (if n then signed x (word_sub w 0 y) s else signed x y s) ≡ signed x (cond n (2 ^ w - y) y) s
    both_ways true e = ap (λ z. signed x z s) (negated w y pos yw e)
    both_ways false e = refl

remainder_back : (w : ℕ) (s : Bool) (t : Quad) → value w (does w (when (is_set (variable 4)) (put 2 (combine minus (number 0) (variable 2)))) (dividing (flag s ∷ []) t)) (variable 2) ≡ negated_if w s t.r
remainder_back w true t = zero_sub w t.r
remainder_back w false t = refl

rem_gives : (w x y : ℕ) → 0 < w → x < 2 ^ w → y < 2 ^ w → 0 < y → Gives w (rem w) x y (negated_if w (is_negative w x) (magnitude w x % magnitude w y))
rem_gives w x y pos xw yw some =
    let mx = magnitude w x in let my = magnitude w y in
    let s : Bool = is_negative w x in
    let l = loop_gives w mx my (flag s ∷ []) pos (omega (arith, magnitude_fits w x pos xw, doubled_top w pos, pow_pos (w - 1))) (magnitude_some w y yw some) (magnitude_fits w y pos yw) in
    let second = when (is_set (combine both (variable 1) (number (top w)))) (put 1 (combine minus (number 0) (variable 1))) in
    let back = when (is_set (variable 4)) (put 2 (combine minus (number 0) (variable 2))) in
    let one = dividend_sign w x y pos xw in
    let two = divisor_size w mx y (flag s) pos yw in
    let three : does w (divide w 0 1 2 3) (does w second (signed mx y (flag s))) ≡ dividing (flag s ∷ []) l.0 = ap (does w (divide w 0 1 2 3)) two ∙ l.1 in
    let looped : does w (divide w 0 1 2 3) (does w second (does w (when (is_set (combine both (variable 0) (number (top w)))) (put 0 (combine minus (number 0) (variable 0)) then put 4 (number 1))) (signed x y 0))) ≡ dividing (flag s ∷ []) l.0 =
    ap (λ h. does w (divide w 0 1 2 3) (does w second h)) one ∙ three in
    record {
      ends = ((tt, tt), (tt, ((ap (λ h. tested w h (is_set (variable 3))) looped ∙ l.2.none, λ h. (tt, (tt, (tt, ((tt, tt), tt))))), tt)));
      value = ap (λ h. value w (does w back h) (variable 2)) looped ∙ (remainder_back w s l.0 ∙ ap (negated_if w s) l.2.remainder);
    }

no_trap_rem : (w x y v : ℕ) → word_rem w x y ≡ Some v → word_div_traps w x y ≡ false
no_trap_rem w x y v e = grind (arith, nat_tests, e)

pub remains_signed : (w x y v : ℕ) → IsWordSize w → x < 2 ^ w → y < 2 ^ w → word_rem w x y ≡ Some v → Gives w (rem w) x y v
remains_signed w x y v z xw yw e =
    let n = no_trap_rem w x y v e in
    let pos : 0 < w = by_size (λ w. 0 < w) (omega arith) (omega arith) w z in
    let q = some_same _ v (sym (rem_signs w z x y xw yw n) ∙ e) in
    subst (Gives w (rem w) x y) q (rem_gives w x y pos xw yw (divisor_some w x y n))
