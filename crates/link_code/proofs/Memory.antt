-- Words in memory, and what a store leaves of them.
use Rattle.std.proofs.Common.{◌≡◌, ℕ, zero, suc, ◌+◌, ◌*◌, ◌-◌, ◌/◌, ◌%◌, ◌^◌, ◌<◌, ◌≤◌, ◌&&◌, ◌==◌, Bool, true, false, cond, Option, Some, None, Result, Ok, Err, refl, sym, ap, ◌∙◌, subst, arith, inl, inr}
use Rattle.std.specs.Prelude.{nat_le, nat_lt, ◌⊎◌}
use Rattle.std.proofs.lemmas.Bool.{ltb-true, leb-true, lt-ltb, le-leb, le-ltb, lt-leb}
use Rattle.std.proofs.lemmas.Nat.{pow-add, mod-mul-add}
use Rattle.std.proofs.Math.Nat.{div-div-eq-div-mul, mod-eq-sub-div-mul, div-mul-le_self, mod-lt}
use Rattle.rtl_effect.specs.Views.{Stop, Wild, Traps, View, bind, both, word_at, all_reached, width_of, touched, seen}
use Rattle.rtl_effect.specs.Effects.{Storing, Patch, patch_of, place_of}
use Rattle.rtl_value.specs.declared.state.Trap.TheVariants.{Address, Align}

pub false_true : {A : Type 0} → false ≡ true → A
false_true e = absurd (let k : false ≡ true = e in cc)

pub true_false : {A : Type 0} → true ≡ false → A
true_false e = absurd (let k : true ≡ false = e in cc)

pub and_of : (b c : Bool) → b ≡ true → c ≡ true → (b && c) ≡ true
and_of b c e f = subst (λ x. (x && c) ≡ true) (sym e) f

pub and_left : (b c : Bool) → (b && c) ≡ true → b ≡ true
and_left true c e = refl
and_left false c e = e

pub and_right : (b c : Bool) → (b && c) ≡ true → c ≡ true
and_right true c e = e
and_right false c e = false_true e

pub inside_of : (low high a : ℕ) → low ≤ a → a < high → (nat_le low a && nat_lt a high) ≡ true
inside_of low high a h k = and_of _ _ (le-leb low a h) (lt-ltb a high k)

pub inside_low : (low high a : ℕ) → (nat_le low a && nat_lt a high) ≡ true → low ≤ a
inside_low low high a e = leb-true low a (and_left _ _ e)

pub inside_high : (low high a : ℕ) → (nat_le low a && nat_lt a high) ≡ true → a < high
inside_high low high a e = ltb-true a high (and_right (nat_le low a) _ e)

pub outside_below : (low high a : ℕ) → a < low → (nat_le low a && nat_lt a high) ≡ false
outside_below low high a h = ap (λ x. x && nat_lt a high) (lt-leb low a h)

pub outside_above : (low high a : ℕ) → high ≤ a → (nat_le low a && nat_lt a high) ≡ false
outside_above low high a h = by (nat_le low a) (le-ltb a high h)
  where
    by : (b : Bool) → nat_lt a high ≡ false → (b && nat_lt a high) ≡ false
    by true e = e
    by false e = refl

pub word_same : (m k : ℕ → Option ℕ) (a n : ℕ) → ((b : ℕ) → a ≤ b → b < a + n → m b ≡ k b) → word_at m a n ≡ word_at k a n
word_same m k a zero h = refl
word_same m k a (suc n) h =
    let first : m a ≡ k a = h a (omega arith) (omega arith) in
    let rest : word_at m (a + 1) n ≡ word_at k (a + 1) n = word_same m k (a + 1) n (λ b p q. h b (omega (arith, p)) (omega (arith, q))) in
    λ i. both (first i) (rest i) (λ x y. x + 256 * y)

pub reached_all : (r : ℕ → Bool) (a n : ℕ) → ((b : ℕ) → a ≤ b → b < a + n → r b ≡ true) → all_reached r a n ≡ true
reached_all r a zero h = refl
reached_all r a (suc n) h =
    subst (λ x. cond x (all_reached r (a + 1) n) false ≡ true) (sym (h a (omega arith) (omega arith)))
    (reached_all r (a + 1) n (λ b p q. h b (omega (arith, p)) (omega (arith, q))))

pub reached_each : (r : ℕ → Bool) (a n : ℕ) → all_reached r a n ≡ true → (b : ℕ) → a ≤ b → b < a + n → r b ≡ true
reached_each r a zero e b p q = absurd (omega (arith, p, q))
reached_each r a (suc n) e b p q = split (grind (arith, p)) (reached_each r (a + 1) n (rest (r a) refl e))
  where
    rest : (x : Bool) → r a ≡ x → cond x (all_reached r (a + 1) n) false ≡ true → all_reached r (a + 1) n ≡ true
    rest true f g = g
    rest false f g = false_true g

    at_head : (x : Bool) → r a ≡ x → cond x (all_reached r (a + 1) n) false ≡ true → r a ≡ true
    at_head true f g = f
    at_head false f g = false_true g

    split : (a ≡ b) ⊎ (a + 1 ≤ b) → ((c : ℕ) → a + 1 ≤ c → c < a + 1 + n → r c ≡ true) → r b ≡ true
    split (inl s) k = subst (λ c. r c ≡ true) s (at_head (r a) refl e)
    split (inr s) k = k b s (omega (arith, q))

-- what is touched may be touched
touch_ok : (n : ℕ) (v : View) (x : Option ℕ) (a : ℕ) → touched n v x ≡ Ok a → all_reached v.reach a n ≡ true
touch_ok n v None a e = absurd (let k : Err Wild ≡ Ok a = e in cc)
touch_ok n v (Some y) a e = size (nat_le (y + n) v.size) e
  where
    reach : (b : Bool) → all_reached v.reach y n ≡ b → cond b (Ok y) (Err Wild) ≡ Ok a → all_reached v.reach a n ≡ true
    reach true f g = let s : y ≡ a = cc in subst (λ (c : ℕ). all_reached v.reach c n ≡ true) s f
    reach false f g = absurd (let k : Err Wild ≡ Ok a = g in cc)

    align : (b : Bool) → cond b (cond (all_reached v.reach y n) (Ok y) (Err Wild)) (Err (Traps Align)) ≡ Ok a → all_reached v.reach a n ≡ true
    align true g = reach (all_reached v.reach y n) refl g
    align false g = absurd (let k : Err (Traps Align) ≡ Ok a = g in cc)

    size : (b : Bool) → cond b (cond (y % n == 0) (cond (all_reached v.reach y n) (Ok y) (Err Wild)) (Err (Traps Align))) (Err (Traps Address)) ≡ Ok a → all_reached v.reach a n ≡ true
    size true g = align _ g
    size false g = absurd (let k : Err (Traps Address) ≡ Ok a = g in cc)

pub bind_ok : {A B : Type 0} (u : Result A Stop) (f : A → Result B Stop) (y : B) → bind u f ≡ Ok y → (x : A) × (u ≡ Ok x) × (f x ≡ Ok y)
bind_ok (Ok x) f y e = (x, refl, e)
bind_ok (Err s) f y e = absurd (let k : Err s ≡ Ok y = e in cc)

-- each byte that a transfer stores may be touched
pub patch_reached : (w : ℕ) (v : View) (o : Option Storing) (p : Patch) → patch_of w o v ≡ Ok (Some p) → (b : ℕ) → p.at ≤ b → b < p.at + p.count → v.reach b ≡ true
patch_reached w v None p e b l h = absurd (let k : Ok None ≡ Ok (Some p) = e in cc)
patch_reached w v (Some s) p e b l h =
    let first = bind_ok (seen w s.value v) _ (Some p) e in
    let second = bind_ok (place_of w s.width s.place v) (λ a. Ok (Some (record { at = a; count = width_of w s.width; value = first.0 }))) (Some p) first.2 in
    let third = bind_ok (seen w s.place v) (touched (width_of w s.width) v) second.0 second.1 in
    let is : record { at = second.0; count = width_of w s.width; value = first.0 } ≡ p = cc in
    let at_is : second.0 ≡ p.at = ap (λ q. q.at) is in
    let count_is : width_of w s.width ≡ p.count = ap (λ q. q.count) is in
    reached_each v.reach second.0 (width_of w s.width) (touch_ok (width_of w s.width) v third.0 second.0 third.2) b (omega (arith, l, at_is)) (omega (arith, h, at_is, count_is))

pow_some : (n : ℕ) → 0 < 256 ^ n
pow_some zero = omega arith
pow_some (suc n) = let e : 256 ^ (1 + n) ≡ 256 ^ 1 * 256 ^ n = pow-add 256 1 n in omega (arith, pow_some n, e)

-- a stored word reads back
pub bytes_word : (x : ℕ) (m : ℕ → Option ℕ) (a n : ℕ) → ((k : ℕ) → k < n → m (a + k) ≡ Some (x / 256 ^ k % 256)) → word_at m a n ≡ Some (x % 256 ^ n)
bytes_word x m a zero h = ap Some (omega arith)
bytes_word x m a (suc n) h =
    let first : m a ≡ Some (x % 256) = (let z : a ≡ a + 0 = omega arith in subst (λ b. m b ≡ Some (x % 256)) (sym z) (h 0 (omega arith) ∙ ap Some (omega arith))) in
    let rest : word_at m (a + 1) n ≡ Some (x / 256 % 256 ^ n) = bytes_word (x / 256) m (a + 1) n (λ k l. step k (h (1 + k) (omega (arith, l)))) in
    (λ i. both (first i) (rest i) (λ p q. p + 256 * q)) ∙ ap Some (last x n)
  where
    step : (k : ℕ) → m (a + (1 + k)) ≡ Some (x / 256 ^ (1 + k) % 256) → m (a + 1 + k) ≡ Some (x / 256 / 256 ^ k % 256)
    step k e =
        let z : a + (1 + k) ≡ a + 1 + k = omega arith in
        let pow : 256 ^ (1 + k) ≡ 256 ^ 1 * 256 ^ k = pow-add 256 1 k in
        let one : 256 ^ 1 * 256 ^ k ≡ 256 * 256 ^ k = omega arith in
        let d : x / 256 / 256 ^ k ≡ x / (256 * 256 ^ k) = div-div-eq-div-mul x 256 (256 ^ k) in
        subst (λ b. m b ≡ Some (x / 256 / 256 ^ k % 256)) z (e ∙ ap (λ q. Some (x / q % 256)) (pow ∙ one) ∙ ap (λ q. Some (q % 256)) (sym d))

    last : (x n : ℕ) → x % 256 + 256 * (x / 256 % 256 ^ n) ≡ x % 256 ^ suc n
    last x n =
        let q = x / 256 in
        let low : 256 ^ (1 + n) ≡ 256 ^ 1 * 256 ^ n = pow-add 256 1 n in
        let is : q % 256 ^ n ≡ q - q / 256 ^ n * 256 ^ n = mod-eq-sub-div-mul q (256 ^ n) in
        let le : q / 256 ^ n * 256 ^ n ≤ q = div-mul-le_self q (256 ^ n) in
        let small : q % 256 ^ n < 256 ^ n = mod-lt q (pow_some n) in
        let big : 256 ^ suc n ≡ 256 * 256 ^ n = omega (arith, low) in
        let whole : x ≡ q / 256 ^ n * (256 * 256 ^ n) + (x % 256 + 256 * (q % 256 ^ n)) = omega (arith, is, le) in
        let cut : (q / 256 ^ n * (256 * 256 ^ n) + (x % 256 + 256 * (q % 256 ^ n))) % (256 * 256 ^ n) ≡ x % 256 + 256 * (q % 256 ^ n) = mod-mul-add (q / 256 ^ n) (256 * 256 ^ n) (x % 256 + 256 * (q % 256 ^ n)) (omega (arith, small)) in
        sym (ap (λ p. x % p) big ∙ ap (λ y. y % (256 * 256 ^ n)) whole ∙ cut)
