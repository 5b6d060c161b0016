-- The bytes that a store leaves.
use Rattle.std.proofs.Common.{◌≡◌, ◌≢◌, ℕ, zero, suc, ◌+◌, ◌-◌, ◌*◌, ◌/◌, ◌%◌, ◌^◌, ◌<◌, ◌≤◌, ◌⊎◌, inl, inr, Bool, true, false, cond, List, [], ◌∷◌, length, get_or, set, slice_index, Option, Some, None, Result, Ok, Err, arith, refl, sym, ap, ◌∙◌, nat_lt, length-set, get_or-set_same, get_or-set_other}
use Rattle.std.proofs.Math.Nat.{div-div-eq-div-mul, mul_comm, pow-suc}
use Rattle.std.specs.Prelude.{nat_le, ◌&&◌}
use Rattle.std.proofs.lemmas.Bool.Decides.{nat_tests}
use Rattle.rtl_effect.specs.Views.{View}
use Rattle.rtl_effect.specs.Effects.{Patch, patched, byte_of}
use Rattle.machine_turn.specs.Turn.{stored}
use Rattle.rtl_value.specs.declared.state.State.{State}
use Rattle.machine_effect.specs.Standing.{Shows}

pub stored_length : (n : ℕ) (m : List ℕ) (a x : ℕ) → length (stored m a n x) ≡ length m
stored_length zero m a x = refl
stored_length (suc n) m a x = stored_length n (set m a (x % 256)) (a + 1) (x / 256) ∙ length-set m a (x % 256)

outside : (n : ℕ) (m : List ℕ) (a x b : ℕ) → (b < a) ⊎ (a + n ≤ b) → get_or (stored m a n x) b 0 ≡ get_or m b 0
outside zero m a x b h = refl
outside (suc n) m a x b (inl l) =
    let next : b < a + 1 = omega arith in
    let differs : b ≢ a = omega arith in
    outside n (set m a (x % 256)) (a + 1) (x / 256) b (inl next) ∙ get_or-set_other m a b (x % 256) 0 differs
outside (suc n) m a x b (inr l) =
    let next : a + 1 + n ≤ b = omega arith in
    let differs : b ≢ a = omega arith in
    outside n (set m a (x % 256)) (a + 1) (x / 256) b (inr next) ∙ get_or-set_other m a b (x % 256) 0 differs

low_byte : (x : ℕ) → x % 256 ≡ x / 256 ^ 0 % 256
low_byte x = let whole : x / 1 ≡ x = omega arith in ap (λ n. n % 256) (sym whole)

next_byte : (x k : ℕ) → x / 256 / 256 ^ k % 256 ≡ x / 256 ^ (suc k) % 256
next_byte x k = ap (λ n. n % 256) (div-div-eq-div-mul x 256 (256 ^ k) ∙ ap (λ d. x / d) (mul_comm 256 (256 ^ k) ∙ sym (pow-suc 256 k)))

inside : (n : ℕ) (m : List ℕ) (a x k : ℕ) → k < n → a + n ≤ length m → get_or (stored m a n x) (a + k) 0 ≡ x / 256 ^ k % 256
inside zero m a x k l h = let none : ⊥ = omega arith in absurd none
inside (suc n) m a x zero l h =
    let here : a < length m = omega arith in
    let same : a + 0 ≡ a = omega arith in
    let below : a < a + 1 = omega arith in
    ap (λ b. get_or (stored m a (suc n) x) b 0) same ∙ outside n (set m a (x % 256)) (a + 1) (x / 256) a (inl below)
    ∙ get_or-set_same m a (x % 256) 0 here ∙ low_byte x
inside (suc n) m a x (suc k) l h =
    let k_below : k < n = omega arith in
    let room : a + 1 + n ≤ length (set m a (x % 256)) = rw (length-set m a (x % 256)) (omega arith) in
    let same : a + suc k ≡ a + 1 + k = omega arith in
    ap (λ b. get_or (stored m a (suc n) x) b 0) same ∙ inside n (set m a (x % 256)) (a + 1) (x / 256) k k_below room ∙ next_byte x k

some_equal : (x y : ℕ) → x ≡ y → Some x ≡ Some y
some_equal x y e = ap (λ n. Some n) e

module _ (w : ℕ) (s : State) (v : View) (h : Shows w s v) where
  patch_cases : (n a x b : ℕ) (t : Bool) → (nat_le a b && nat_lt b (a + n)) ≡ t → a + n ≤ length s.memory → b < length s.memory
      → cond t (byte_of (Some x) (b - a)) (v.bytes b) ≡ Some (get_or (stored s.memory a n x) b 0)
  patch_cases n a x b true e r l =
      let from : a ≤ b = grind (arith, nat_tests, e) in
      let below : b < a + n = grind (arith, nat_tests, e) in
      let k_below : b - a < n = omega arith in
      let there : a + (b - a) ≡ b = omega arith in
      some_equal _ _ (sym (inside n s.memory a x (b - a) k_below r) ∙ ap (λ k. get_or (stored s.memory a n x) k 0) there)
  patch_cases n a x b false e r l =
      let away : (b < a) ⊎ (a + n ≤ b) = grind (arith, nat_tests, e) in
      h.bytes b l ∙ some_equal _ _ (sym (outside n s.memory a x b away))

  pub patch_shown : (n a x b : ℕ) → a + n ≤ length s.memory → b < length s.memory
      → patched (Some (record { at = a; count = n; value = Some x })) v.bytes b ≡ Some (slice_index (stored s.memory a n x) b)
  patch_shown n a x b r l = patch_cases n a x b (nat_le a b && nat_lt b (a + n)) refl r l
