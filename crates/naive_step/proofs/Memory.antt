-- Bytes and words of memory after a store, and what may be touched.
use Rattle.std.proofs.Common.{◌≡◌, ◌≢◌, ℕ, zero, suc, ◌+◌, ◌*◌, ◌-◌, ◌%◌, ◌/◌, ◌^◌, ◌≤◌, ◌<◌, ◌⊎◌, inl, inr, Option, Some, None, Ok, refl, sym, ap, ◌∙◌, arith, true, false}
use Rattle.std.specs.Prelude.{Bool, nat_le, nat_lt, ◌==◌, ◌&&◌, if◌then◌else◌}
use Rattle.std.proofs.lemmas.Bool.Decides.{nat_tests}
use Rattle.rtl_effect.specs.Views.{View, both, word_at, all_reached, touched}
use Rattle.rtl_effect.specs.Effects.{Patch, patched, byte_of}

le_true : (a b : ℕ) → a ≤ b → nat_le a b ≡ true
le_true a b h = grind (arith, nat_tests, h)

lt_true : (a b : ℕ) → a < b → nat_lt a b ≡ true
lt_true a b h = grind (arith, nat_tests, h)

le_false : (a b : ℕ) → b < a → nat_le a b ≡ false
le_false a b h = grind (arith, nat_tests, h)

lt_false : (a b : ℕ) → b ≤ a → nat_lt a b ≡ false
lt_false a b h = grind (arith, nat_tests, h)

is_zero : (a : ℕ) → a ≡ 0 → (a == 0) ≡ true
is_zero a h = grind (arith, nat_tests, h)

-- ---- what may be touched

all_reached_by : (r : ℕ → Bool) (a n : ℕ) → ((b : ℕ) → a ≤ b → b < a + n → r b ≡ true) → all_reached r a n ≡ true
all_reached_by r a zero h = refl
all_reached_by r a (suc n) h =
    ap (λ x. if x then all_reached r (a + 1) n else false) (h a (omega arith) (omega arith))
    ∙ all_reached_by r (a + 1) n (λ b low high. h b (omega (arith, low)) (omega (arith, high)))

pub may_be_touched : (n a : ℕ) (v : View) → a + n ≤ v.size → a % n ≡ 0 → ((b : ℕ) → a ≤ b → b < a + n → v.reach b ≡ true) → touched n v (Some a) ≡ Ok a
may_be_touched n a v inside aligned reach = rw (le_true (a + n) v.size inside, is_zero (a % n) aligned, all_reached_by v.reach a n reach) refl

-- ---- words

-- the same bytes are the same word
pub word_same : (m m' : ℕ → Option ℕ) (a n : ℕ) → ((b : ℕ) → a ≤ b → b < a + n → m' b ≡ m b) → word_at m' a n ≡ word_at m a n
word_same m m' a zero h = refl
word_same m m' a (suc n) h =
    ap (λ x. both x (word_at m' (a + 1) n) (λ x y. x + 256 * y)) (h a (omega arith) (omega arith))
    ∙ ap (λ y. both (m a) y (λ x y. x + 256 * y)) (word_same m m' (a + 1) n (λ b low high. h b (omega (arith, low)) (omega (arith, high))))

module _ (at count x : ℕ) (m m' : ℕ → Option ℕ) (h : (b : ℕ) → m' b ≡ patched (Some (record { at = at; count = count; value = Some x })) m b) where
  below : (b : ℕ) → b < at → m' b ≡ m b
  below b lt = h b ∙ off
    where
      off : patched (Some (record { at = at; count = count; value = Some x })) m b ≡ m b
      off = rw (le_false at b lt) refl

  above : (b : ℕ) → at + count ≤ b → m' b ≡ m b
  above b le = h b ∙ off
    where
      off : patched (Some (record { at = at; count = count; value = Some x })) m b ≡ m b
      off = rw (le_true at b (omega (arith, le)), lt_false b (at + count) le) refl

  -- outside of what was stored all is as it was
  pub byte_apart : (b : ℕ) → (b < at) ⊎ (at + count ≤ b) → m' b ≡ m b
  byte_apart b (inl lt) = below b lt
  byte_apart b (inr le) = above b le

  pub word_apart : (a n : ℕ) → (a + n ≤ at) ⊎ (at + count ≤ a) → word_at m' a n ≡ word_at m a n
  word_apart a n (inl le) = word_same m m' a n (λ b low high. below b (omega (arith, le, high)))
  word_apart a n (inr le) = word_same m m' a n (λ b low high. above b (omega (arith, le, low)))

  -- the byte at a distance from where was stored
  pub byte_back : (j : ℕ) → j < count → m' (at + j) ≡ Some (x / 256 ^ j % 256)
  byte_back j lt = h (at + j) ∙ (here ∙ ap (λ i. Some (x / 256 ^ i % 256)) back)
    where
      here : patched (Some (record { at = at; count = count; value = Some x })) m (at + j) ≡ byte_of (Some x) (at + j - at)
      here = rw (le_true at (at + j) (omega arith), lt_true (at + j) (at + count) (omega (arith, lt))) refl

      back : at + j - at ≡ j
      back = omega arith

module _ (at x : ℕ) (m m' : ℕ → Option ℕ) where
  pub back_1 : ((b : ℕ) → m' b ≡ patched (Some (record { at = at; count = 1; value = Some x })) m b) → word_at m' at 1 ≡ Some (x % 256)
  back_1 h = ap (λ y. both y (Some 0) (λ x y. x + 256 * y)) (first ∙ byte_back at 1 x m m' h 0 (omega arith)) ∙ ap Some (omega arith)
    where
      first : m' at ≡ m' (at + 0)
      first = ap m' (let z : at ≡ at + 0 = omega arith in z)

  pub back_2 : ((b : ℕ) → m' b ≡ patched (Some (record { at = at; count = 2; value = Some x })) m b) → word_at m' at 2 ≡ Some (x % 65536)
  back_2 h = rw (first, second) (ap Some (omega arith))
    where
      first : m' at ≡ Some (x / 256 ^ 0 % 256)
      first = ap m' (let z : at ≡ at + 0 = omega arith in z) ∙ byte_back at 2 x m m' h 0 (omega arith)

      second : m' (at + 1) ≡ Some (x / 256 ^ 1 % 256)
      second = byte_back at 2 x m m' h 1 (omega arith)

  pub back_4 : ((b : ℕ) → m' b ≡ patched (Some (record { at = at; count = 4; value = Some x })) m b) → word_at m' at 4 ≡ Some (x % 4294967296)
  back_4 h = rw (first, second, third, fourth) (ap Some (omega arith))
    where
      first : m' at ≡ Some (x / 256 ^ 0 % 256)
      first = ap m' (let z : at ≡ at + 0 = omega arith in z) ∙ byte_back at 4 x m m' h 0 (omega arith)

      second : m' (at + 1) ≡ Some (x / 256 ^ 1 % 256)
      second = byte_back at 4 x m m' h 1 (omega arith)

      third : m' (at + 1 + 1) ≡ Some (x / 256 ^ 2 % 256)
      third = ap m' (let z : at + 1 + 1 ≡ at + 2 = omega arith in z) ∙ byte_back at 4 x m m' h 2 (omega arith)

      fourth : m' (at + 1 + 1 + 1) ≡ Some (x / 256 ^ 3 % 256)
      fourth = ap m' (let z : at + 1 + 1 + 1 ≡ at + 3 = omega arith in z) ∙ byte_back at 4 x m m' h 3 (omega arith)
