-- What the helpers give.
use Rattle.std.proofs.Common.{◌≡◌, ℕ, zero, suc, ◌+◌, ◌-◌, ◌*◌, ◌/◌, ◌%◌, ◌^◌, ◌<◌, ◌≤◌, List, [], ◌∷◌, Some, bit_and, bit_xor, refl, sym, ap, subst, ◌∙◌, arith}
use Rattle.std.proofs.Math.Nat.{div-add-mod, div-le_self}
use Rattle.std.proofs.lemmas.Nat.{pow_pos, pow_below, and_mask, or_lt}
use Rattle.std.proofs.lemmas.Bool.Decides.{nat_tests}
use Rattle.rtl_word.specs.Words.{word_sub, word_mul, word_shl, word_shru, IsWordSize}
use Rattle.rtl_word.proofs.Sums.{add_comm, add_zero}
use Rattle.rtl_word.proofs.Products.{mul_commutes, mul_one}
use Rattle.c_helpers.proofs.Steps.{xor_sub}
use Rattle.rtl_word.proofs.Below.{word_mul-below}
use Rattle.c_helpers.specs.Code.{Code, combine, plus, minus, both, number, variable, is_set, put, ◌then◌, when, Variables, value, tested, unless_zero, repeated, does, Ends, started}
use Rattle.c_helpers.specs.Helpers.{gather, double, mul, shl, shru, shift_right, xor}
use Rattle.c_helpers.specs.Law.{Gives}
use Rattle.c_helpers.proofs.Repeats.{viewed}
use Rattle.c_helpers.proofs.Gathering.{double_pow, Four, left, gathered, gather_turn, gathers, mod_small, sub_word, Before, Two, double_turn, count, doubles}

pub self_below : (w : ℕ) → w < 2 ^ w
self_below zero = omega arith
self_below (suc w) = omega (arith, self_below w, double_pow w, pow_pos w)

quotient_le : (a p : ℕ) → a / p ≤ a
quotient_le a p = div-le_self a p

-- ---- `__mul`: n is 1, m is 3, x is 0, r is 2

abbrev multiplying : Four → Variables
multiplying t = record { a = t.x; b = t.n; locals = t.r ∷ t.m ∷ [] }

abbrev gather_body : (n m x r : ℕ) → Code
gather_body n m x r =
    when (is_set (combine both (variable n) (variable m))) (put r (combine plus (variable r) (variable x)) then put n (combine minus (variable n) (variable m)))
    then put x (combine plus (variable x) (variable x)) then put m (combine plus (variable m) (variable m))

mul_turn_by : (w v : ℕ) (t : Four)
    → does w (put 0 (combine plus (variable 0) (variable 0)) then put 3 (combine plus (variable 3) (variable 3)))
    (unless_zero v (does w (put 2 (combine plus (variable 2) (variable 0)) then put 1 (combine minus (variable 1) (variable 3))) (multiplying t)) (multiplying t)) ≡ multiplying (gathered w v t)
mul_turn_by w zero t = refl
mul_turn_by w (suc v) t = refl

mul_turn : (w : ℕ) (t : Four) → does w (gather_body 1 3 0 2) (multiplying t) ≡ multiplying (gather_turn w t)
mul_turn w t = mul_turn_by w (bit_and t.n t.m) t

pub multiplies : (w x y : ℕ) → 0 < w → x < 2 ^ w → y < 2 ^ w → Gives w mul x y (word_mul w x y)
multiplies w x y pos xw yw =
    let t : Four = record { n = y; x = x; r = 0; m = 1 } in
    let view : does w mul.code (started mul x y) ≡ multiplying (repeated w left (gather_turn w) t) =
    viewed Four Variables multiplying (λ h. tested w h (is_set (variable 1))) (does w (gather_body 1 3 0 2)) left (gather_turn w) (λ u. refl) (mul_turn w) w t in
    let one : 2 ^ 0 * y ≡ y = omega arith in
    let b : Before w 0 y t = record { n = sym one; word = yw; m = sym (mod_small w 0 pos); r = pow_pos w } in
    let g = gathers w w 0 y t (omega arith) b in
    record {
      ends = (ap (λ h. tested w h (is_set (variable 1))) view ∙ g.none, λ h. ((tt, tt), (tt, tt)));
      value = ap (λ h. value w h mul.result) view ∙ (g.sum ∙ (add_comm w 0 (word_mul w x y) ∙ add_zero w (word_mul w x y) (word_mul-below w x y)));
    }

-- ---- `__shl`: x is 0, n is 1

abbrev shifting : Two → Variables
shifting t = record { a = t.x; b = t.n; locals = [] }

abbrev double_body : (x n : ℕ) → Code
double_body x n = put x (combine plus (variable x) (variable x)) then put n (combine minus (variable n) (number 1))

shl_value : (w x y v : ℕ) → word_shl w x y ≡ Some v → (y < w) × (x * 2 ^ y % 2 ^ w ≡ v)
shl_value w x y v e = (grind (arith, nat_tests, e), grind (arith, nat_tests, e))

pub shifts_left : (w x y v : ℕ) → x < 2 ^ w → word_shl w x y ≡ Some v → Gives w shl x y v
shifts_left w x y v xw e =
    let s = shl_value w x y v e in
    let yw : y < 2 ^ w = omega (arith, s.0, self_below w) in
    let t : Two = record { x = x; n = y } in
    let view : does w shl.code (started shl x y) ≡ shifting (repeated w count (double_turn w) t) =
    viewed Two Variables shifting (λ h. tested w h (is_set (variable 1))) (does w (double_body 0 1)) count (double_turn w) (λ u. refl) (λ u. refl) w t in
    let d = doubles w w y x (omega (arith, s.0)) xw yw in
    record { ends = (ap (λ h. tested w h (is_set (variable 1))) view ∙ d.none, λ h. (tt, tt)); value = ap (λ h. value w h shl.result) view ∙ (d.product ∙ s.1) }

-- ---- `__shru`: first m is 2, n is 1; then n is 0, m is 2, x is 4, r is 3

abbrev raising : ℕ → List ℕ → Two → Variables
raising a rest t = record { a = a; b = t.n; locals = t.x ∷ rest }

abbrev lowering : ℕ → List ℕ → Four → Variables
lowering b rest t = record { a = t.n; b = b; locals = t.m ∷ t.r ∷ t.x ∷ rest }

lower_turn_by : (w b v : ℕ) (rest : List ℕ) (t : Four)
    → does w (put 4 (combine plus (variable 4) (variable 4)) then put 2 (combine plus (variable 2) (variable 2)))
    (unless_zero v (does w (put 3 (combine plus (variable 3) (variable 4)) then put 0 (combine minus (variable 0) (variable 2))) (lowering b rest t)) (lowering b rest t)) ≡ lowering b rest (gathered w v t)
lower_turn_by w b zero rest t = refl
lower_turn_by w b (suc v) rest t = refl

-- what the shift to the right leaves in its variables
pub record Shifted (w a n : ℕ) (more : List ℕ) (h : Variables) : Type 0 where
  pub r : value w h (variable 3) ≡ a / 2 ^ n
  pub rest : h.locals ≡ value w h (variable 2) ∷ value w h (variable 3) ∷ value w h (variable 4) ∷ more
  pub ends : Ends w shift_right (record { a = a; b = n; locals = 1 ∷ 0 ∷ 1 ∷ more })

cleared : (w a n : ℕ) → a < 2 ^ w → n < w → word_sub w a (bit_and a (word_sub w (2 ^ n) 1)) ≡ 2 ^ n * (a / 2 ^ n)
cleared w a n aw le =
    let low : word_sub w (2 ^ n) 1 ≡ 2 ^ n - 1 = sub_word w (2 ^ n) 1 (pow_pos n) (pow_below n w le) in
    let cut : bit_and a (2 ^ n - 1) ≡ a % 2 ^ n = and_mask a n in
    let parts : 2 ^ n * (a / 2 ^ n) + a % 2 ^ n ≡ a = div-add-mod a (2 ^ n) in
    ap (λ m. word_sub w a (bit_and a m)) low ∙ (ap (word_sub w a) cut ∙ (sub_word w a (a % 2 ^ n) (omega arith) aw ∙ omega arith))

abbrev clear_at : List ℕ → ℕ → Variables
clear_at rest c = record { a = c; b = 0; locals = rest }

pub shift_rights : (w a n : ℕ) (rest : List ℕ) → 0 < w → a < 2 ^ w → n < w → Shifted w a n rest (does w shift_right (record { a = a; b = n; locals = 1 ∷ 0 ∷ 1 ∷ rest }))
shift_rights w a n rest pos aw le =
    let more : List ℕ = 0 ∷ 1 ∷ rest in
    let nw : n < 2 ^ w = omega (arith, le, self_below w) in
    let one_word : 1 < 2 ^ w = pow_below 0 w pos in
    let t : Two = record { x = 1; n = n } in
    let e1 = repeated w count (double_turn w) t in
    let v1 : does w (double 2 1) (raising a more t) ≡ raising a more e1 =
    viewed Two Variables (raising a more) (λ h. tested w h (is_set (variable 1))) (does w (double_body 2 1)) count (double_turn w) (λ u. refl) (λ u. refl) w t in
    let d = doubles w w n 1 (omega (arith, le)) one_word nw in
    let m1 : e1.x ≡ 2 ^ n = d.product ∙ (ap (λ p. p % 2 ^ w) (omega arith) ∙ mod_small w n le) in
    let k = a / 2 ^ n in
    let f : Four = record { n = 2 ^ n * k; x = 1; r = 0; m = 2 ^ n } in
    let clear = put 0 (combine minus (variable 0) (combine both (variable 0) (combine minus (variable 2) (number 1)))) in
    let v2 : does w clear (raising a more e1) ≡ lowering 0 rest f =
    ap (λ b. does w clear (record { a = a; b = b; locals = e1.x ∷ more })) d.none
    ∙ (ap (λ m. does w clear (record { a = a; b = 0; locals = m ∷ more })) m1
    ∙ ap (clear_at (2 ^ n ∷ more)) (cleared w a n aw le)) in
    let e3 = repeated w left (gather_turn w) f in
    let v3 : does w (gather 0 2 4 3) (lowering 0 rest f) ≡ lowering 0 rest e3 =
    viewed Four Variables (lowering 0 rest) (λ h. tested w h (is_set (variable 0))) (does w (gather_body 0 2 4 3)) left (gather_turn w) (λ u. refl) (λ u. lower_turn_by w 0 (bit_and u.n u.m) rest u) w f in
    let part : 2 ^ n * k ≤ a = omega (arith, div-add-mod a (2 ^ n)) in
    let b : Before w n k f = record { n = refl; word = omega arith; m = sym (mod_small w n le); r = pow_pos w } in
    let g = gathers w w n k f (omega arith) b in
    let whole : does w shift_right (raising a more t) ≡ lowering 0 rest e3 = ap (λ h. does w (gather 0 2 4 3) (does w clear h)) v1 ∙ (ap (does w (gather 0 2 4 3)) v2 ∙ v3) in
    let kw : k < 2 ^ w = omega (arith, quotient_le a (2 ^ n)) in
    let sum : e3.r ≡ k = g.sum ∙ (add_comm w 0 (word_mul w 1 k) ∙ (add_zero w (word_mul w 1 k) (word_mul-below w 1 k) ∙ (mul_commutes w 1 k ∙ mul_one w k kw))) in
    let ends1 : tested w (does w (double 2 1) (raising a more t)) (is_set (variable 1)) ≡ 0 = ap (λ h. tested w h (is_set (variable 1))) v1 ∙ d.none in
    let ends3 : tested w (does w shift_right (raising a more t)) (is_set (variable 0)) ≡ 0 = ap (λ h. tested w h (is_set (variable 0))) whole ∙ g.none in
    record {
      r = ap (λ h. value w h (variable 3)) whole ∙ sum;
      rest = subst (λ h. h.locals ≡ value w h (variable 2) ∷ value w h (variable 3) ∷ value w h (variable 4) ∷ rest) (sym whole) refl;
      ends = ((ends1, λ h. (tt, tt)), (tt, (ends3, λ h. ((tt, tt), (tt, tt)))));
    }

shru_value : (w x y v : ℕ) → word_shru w x y ≡ Some v → (y < w) × (x / 2 ^ y ≡ v)
shru_value w x y v e = (grind (arith, nat_tests, e), grind (arith, nat_tests, e))

pub shifts_right : (w x y v : ℕ) → 0 < w → x < 2 ^ w → word_shru w x y ≡ Some v → Gives w shru x y v
shifts_right w x y v pos xw e =
    let s = shru_value w x y v e in
    let d = shift_rights w x y [] pos xw s.0 in
    record { ends = d.ends; value = d.r ∙ s.1 }

-- ---- `__xor`

pub excludes : (w x y : ℕ) → IsWordSize w → x < 2 ^ w → y < 2 ^ w → Gives w xor x y (bit_xor x y)
excludes w x y z xw yw = record { ends = tt; value = sym (xor_sub w x y z (or_lt w x y xw yw)) }
