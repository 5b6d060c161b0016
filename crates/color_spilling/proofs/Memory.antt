-- Words in memory, and what a store leaves of them.
use Rattle.std.proofs.Common.{◌≡◌, ℕ, zero, suc, ◌+◌, ◌*◌, ◌-◌, ◌/◌, ◌%◌, ◌^◌, ◌<◌, ◌≤◌, ◌&&◌, Bool, true, false, cond, Option, Some, refl, sym, ap, ◌∙◌, subst, arith}
use Rattle.std.specs.Prelude.{nat_le, nat_lt}
use Rattle.std.proofs.lemmas.Bool.{ltb-true, leb-true, lt-ltb, le-leb, le-ltb, lt-leb}
use Rattle.std.proofs.lemmas.Nat.{pow-add, mod-mul-add}
use Rattle.std.proofs.Math.Nat.{div-div-eq-div-mul, mod-eq-sub-div-mul, div-mul-le_self, mod-lt}
use Rattle.rtl_effect.specs.Views.{both, word_at, all_reached}

pub false_true : {A : Type 0} → false ≡ true → A
false_true e = absurd (let k : false ≡ true = e in cc)

pub true_false : {A : Type 0} → true ≡ false → A
true_false e = absurd (let k : true ≡ false = e in cc)

pub and_of : (b c : Bool) → b ≡ true → c ≡ true → (b && c) ≡ true
and_of b c e f = subst (λ x. (x && c) ≡ true) (sym e) f

pub and_left : (b c : Bool) → (b && c) ≡ true → b ≡ true
and_left true c e = refl
and_left false c e = e

pub and_right : (b c : Bool) → (b && c) ≡ true → c ≡ true
and_right true c e = e
and_right false c e = false_true e

pub inside_of : (low high a : ℕ) → low ≤ a → a < high → (nat_le low a && nat_lt a high) ≡ true
inside_of low high a h k = and_of _ _ (le-leb low a h) (lt-ltb a high k)

pub inside_low : (low high a : ℕ) → (nat_le low a && nat_lt a high) ≡ true → low ≤ a
inside_low low high a e = leb-true low a (and_left _ _ e)

pub inside_high : (low high a : ℕ) → (nat_le low a && nat_lt a high) ≡ true → a < high
inside_high low high a e = ltb-true a high (and_right (nat_le low a) _ e)

pub outside_below : (low high a : ℕ) → a < low → (nat_le low a && nat_lt a high) ≡ false
outside_below low high a h = ap (λ x. x && nat_lt a high) (lt-leb low a h)

pub outside_above : (low high a : ℕ) → high ≤ a → (nat_le low a && nat_lt a high) ≡ false
outside_above low high a h = by (nat_le low a) (le-ltb a high h)
  where
    by : (b : Bool) → nat_lt a high ≡ false → (b && nat_lt a high) ≡ false
    by true e = e
    by false e = refl

pub word_same : (m k : ℕ → Option ℕ) (a n : ℕ) → ((b : ℕ) → a ≤ b → b < a + n → m b ≡ k b) → word_at m a n ≡ word_at k a n
word_same m k a zero h = refl
word_same m k a (suc n) h =
    let first : m a ≡ k a = h a (omega arith) (omega arith) in
    let rest : word_at m (a + 1) n ≡ word_at k (a + 1) n = word_same m k (a + 1) n (λ b p q. h b (omega (arith, p)) (omega (arith, q))) in
    λ i. both (first i) (rest i) (λ x y. x + 256 * y)

pub reached_all : (r : ℕ → Bool) (a n : ℕ) → ((b : ℕ) → a ≤ b → b < a + n → r b ≡ true) → all_reached r a n ≡ true
reached_all r a zero h = refl
reached_all r a (suc n) h =
    subst (λ x. cond x (all_reached r (a + 1) n) false ≡ true) (sym (h a (omega arith) (omega arith)))
    (reached_all r (a + 1) n (λ b p q. h b (omega (arith, p)) (omega (arith, q))))

pow_some : (n : ℕ) → 0 < 256 ^ n
pow_some zero = omega arith
pow_some (suc n) = let e : 256 ^ (1 + n) ≡ 256 ^ 1 * 256 ^ n = pow-add 256 1 n in omega (arith, pow_some n, e)

-- a stored word reads back
pub bytes_word : (x : ℕ) (m : ℕ → Option ℕ) (a n : ℕ) → ((k : ℕ) → k < n → m (a + k) ≡ Some (x / 256 ^ k % 256)) → word_at m a n ≡ Some (x % 256 ^ n)
bytes_word x m a zero h = ap Some (omega arith)
bytes_word x m a (suc n) h =
    let first : m a ≡ Some (x % 256) = (let z : a ≡ a + 0 = omega arith in subst (λ b. m b ≡ Some (x % 256)) (sym z) (h 0 (omega arith) ∙ ap Some (omega arith))) in
    let rest : word_at m (a + 1) n ≡ Some (x / 256 % 256 ^ n) = bytes_word (x / 256) m (a + 1) n (λ k l. step k (h (1 + k) (omega (arith, l)))) in
    (λ i. both (first i) (rest i) (λ p q. p + 256 * q)) ∙ ap Some (last x n)
  where
    step : (k : ℕ) → m (a + (1 + k)) ≡ Some (x / 256 ^ (1 + k) % 256) → m (a + 1 + k) ≡ Some (x / 256 / 256 ^ k % 256)
    step k e =
        let z : a + (1 + k) ≡ a + 1 + k = omega arith in
        let pow : 256 ^ (1 + k) ≡ 256 ^ 1 * 256 ^ k = pow-add 256 1 k in
        let one : 256 ^ 1 * 256 ^ k ≡ 256 * 256 ^ k = omega arith in
        let d : x / 256 / 256 ^ k ≡ x / (256 * 256 ^ k) = div-div-eq-div-mul x 256 (256 ^ k) in
        subst (λ b. m b ≡ Some (x / 256 / 256 ^ k % 256)) z (e ∙ ap (λ q. Some (x / q % 256)) (pow ∙ one) ∙ ap (λ q. Some (q % 256)) (sym d))

    last : (x n : ℕ) → x % 256 + 256 * (x / 256 % 256 ^ n) ≡ x % 256 ^ suc n
    last x n =
        let q = x / 256 in
        let low : 256 ^ (1 + n) ≡ 256 ^ 1 * 256 ^ n = pow-add 256 1 n in
        let is : q % 256 ^ n ≡ q - q / 256 ^ n * 256 ^ n = mod-eq-sub-div-mul q (256 ^ n) in
        let le : q / 256 ^ n * 256 ^ n ≤ q = div-mul-le_self q (256 ^ n) in
        let small : q % 256 ^ n < 256 ^ n = mod-lt q (pow_some n) in
        let big : 256 ^ suc n ≡ 256 * 256 ^ n = omega (arith, low) in
        let whole : x ≡ q / 256 ^ n * (256 * 256 ^ n) + (x % 256 + 256 * (q % 256 ^ n)) = omega (arith, is, le) in
        let cut : (q / 256 ^ n * (256 * 256 ^ n) + (x % 256 + 256 * (q % 256 ^ n))) % (256 * 256 ^ n) ≡ x % 256 + 256 * (q % 256 ^ n) = mod-mul-add (q / 256 ^ n) (256 * 256 ^ n) (x % 256 + 256 * (q % 256 ^ n)) (omega (arith, small)) in
        sym (ap (λ p. x % p) big ∙ ap (λ y. y % (256 * 256 ^ n)) whole ∙ cut)
