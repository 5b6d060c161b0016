-- The division, a bit of the quotient at a turn.
use Rattle.std.proofs.Common.{◌≡◌, ℕ, zero, suc, ◌+◌, ◌-◌, ◌*◌, ◌/◌, ◌%◌, ◌^◌, ◌<◌, ◌≤◌, List, ◌∷◌, Bool, if◌then◌else◌, nat_le, bit_and, inl, inr, refl, sym, ap, subst, ◌∙◌, arith}
use Rattle.std.specs.Int.{bit_at}
use Rattle.std.proofs.Math.Nat.{mul_comm, mul_assoc, mul-add, mod-eq_of_lt, div-add-mod, div-le_self, div-lt_iff_lt-mul, mod_self}
use Rattle.std.proofs.lemmas.Bool.{cases_lt}
use Rattle.std.proofs.lemmas.Bool.Decides.{nat_tests}
use Rattle.std.proofs.lemmas.Nat.{pow_pos, pow-add, mul-add-lt, div-mul-add, mod-mul-add, mod_below}
use Rattle.std.proofs.lemmas.Nat.Bits.{and_pow}
use Rattle.rtl_word.specs.Words.{word_add, word_sub}
use Rattle.c_helpers.proofs.Steps.{quotient_bit_0, quotient_bit_1}
use Rattle.c_helpers.specs.Code.{Code, combine, plus, minus, both, number, variable, is_set, at_least, put, ◌then◌, when, Variables, unless_zero, repeated, does}
use Rattle.c_helpers.specs.Helpers.{top}
use Rattle.c_helpers.proofs.Repeats.{goes_on}
use Rattle.c_helpers.proofs.Gathering.{double_pow, sub_word, mod_small}

pub record Quad : Type 0 where
  pub a : ℕ
  pub b : ℕ
  pub r : ℕ
  pub m : ℕ

-- the remainder with the next bit, by that bit
abbrev pub brought : ℕ → ℕ → Quad → ℕ
brought w v t = unless_zero v (word_add w (word_add w t.r t.r) 1) (word_add w t.r t.r)

abbrev pub divided : ℕ → ℕ → ℕ → Quad → Quad
divided w v u t = record {
  a = unless_zero u (word_add w (word_add w t.a t.a) 1) (word_add w t.a t.a);
  b = t.b;
  r = unless_zero u (word_sub w (brought w v t) t.b) (brought w v t);
  m = word_add w t.m t.m;
}

abbrev pub goes_in : ℕ → ℕ → Quad → ℕ
goes_in w v t = if nat_le t.b (brought w v t) then 1 else 0

abbrev pub divide_turn : ℕ → Quad → Quad
divide_turn w t = divided w (bit_and t.a (top w)) (goes_in w (bit_and t.a (top w)) t) t

abbrev pub mask : Quad → ℕ
mask t = t.m

-- ---- the code's turn is this turn

abbrev pub dividing : List ℕ → Quad → Variables
dividing rest t = record { a = t.a; b = t.b; locals = t.r ∷ t.m ∷ rest }

abbrev late : Code
late = when (at_least (variable 2) (variable 1)) (put 2 (combine minus (variable 2) (variable 1)) then put 0 (combine plus (variable 0) (number 1))) then put 3 (combine plus (variable 3) (variable 3))

abbrev pub divide_body : ℕ → Code
divide_body w =
    put 2 (combine plus (variable 2) (variable 2))
    then when (is_set (combine both (variable 0) (number (top w)))) (put 2 (combine plus (variable 2) (number 1)))
    then put 0 (combine plus (variable 0) (variable 0)) then late

first_half : (w v : ℕ) (rest : List ℕ) (a b r m : ℕ)
    → unless_zero v (does w (put 2 (combine plus (variable 2) (number 1))) (dividing rest (record { a = a; b = b; r = r; m = m }))) (dividing rest (record { a = a; b = b; r = r; m = m }))
    ≡ dividing rest (record { a = a; b = b; r = unless_zero v (word_add w r 1) r; m = m })
first_half w zero rest a b r m = refl
first_half w (suc v) rest a b r m = refl

second_half : (w u : ℕ) (rest : List ℕ) (t : Quad)
    → does w (put 3 (combine plus (variable 3) (variable 3))) (unless_zero u (does w (put 2 (combine minus (variable 2) (variable 1)) then put 0 (combine plus (variable 0) (number 1))) (dividing rest t)) (dividing rest t))
    ≡ dividing rest (record { a = unless_zero u (word_add w t.a 1) t.a; b = t.b; r = unless_zero u (word_sub w t.r t.b) t.r; m = word_add w t.m t.m })
second_half w zero rest t = refl
second_half w (suc u) rest t = refl

pub divide_turns : (w : ℕ) (rest : List ℕ) (t : Quad) → does w (divide_body w) (dividing rest t) ≡ dividing rest (divide_turn w t)
divide_turns w rest t =
    let v = bit_and t.a (top w) in
    ap (does w (put 0 (combine plus (variable 0) (variable 0)) then late)) (first_half w v rest t.a t.b (word_add w t.r t.r) t.m)
    ∙ second_half w (goes_in w v t) rest (record { a = word_add w t.a t.a; b = t.b; r = brought w v t; m = t.m })

-- ---- what a turn does

-- p is the dividend's first i bits, and c its other j bits
pub record Halfway (w i j p c b : ℕ) (t : Quad) : Type 0 where
  pub bits : i + j ≡ w
  pub first : p < 2 ^ i
  pub other : c < 2 ^ j
  pub dividend : t.a ≡ c * 2 ^ i + p / b
  pub divisor : t.b ≡ b
  pub remainder : t.r ≡ p % b
  pub counter : t.m ≡ 2 ^ i % 2 ^ w

top_is : (w i j : ℕ) → i + suc j ≡ w → (top w ≡ 2 ^ (i + j)) × (2 ^ w ≡ 2 ^ (i + j) + 2 ^ (i + j))
top_is w i j e =
    let k : w - 1 ≡ i + j = omega arith in
    let l : suc (i + j) ≡ w = omega arith in
    (ap (λ n. 2 ^ n) k, ap (λ n. 2 ^ n) (sym l) ∙ double_pow (i + j))

-- the top bit of a dividend
pub bit_of : (k d low : ℕ) → d < 2 → low < 2 ^ k → bit_and (d * 2 ^ k + low) (2 ^ k) ≡ d * 2 ^ k
bit_of k d low dl ll =
    let e : bit_at (d * 2 ^ k + low) k ≡ d % 2 = ap (λ n. n % 2) (div-mul-add d (2 ^ k) low ll) in
    let f : d % 2 ≡ d = mod-eq_of_lt dl in
    and_pow (d * 2 ^ k + low) k ∙ ap (λ n. n * 2 ^ k) (e ∙ f)

one_more : (w d T r : ℕ) → d < 2 → 0 < T → r + d < 2 ^ w → unless_zero (d * T) (word_add w r 1) r ≡ r + d
one_more w zero T r h t l = let z : 0 * T ≡ 0 = omega arith in ap (λ n. unless_zero n (word_add w r 1) r) z ∙ omega arith
one_more w (suc zero) T r h t l = by_one (1 * T) (omega arith)
  where
    by_one : (n : ℕ) → 0 < n → unless_zero n (word_add w r 1) r ≡ r + 1
    by_one zero z = absurd (omega (arith, z))
    by_one (suc n) z = mod-eq_of_lt l
one_more w (suc (suc d)) T r h t l = absurd (omega (arith, h))

-- a dividend's parts
record Parts (i j p c b : ℕ) (a : ℕ) : Type 0 where
  d : ℕ
  rest : ℕ
  bit : d < 2
  small : rest < 2 ^ j
  parts : c ≡ d * 2 ^ j + rest
  low : rest * 2 ^ i + p / b < 2 ^ (i + j)
  whole : a ≡ d * 2 ^ (i + j) + (rest * 2 ^ i + p / b)

parted : (i j p c b a : ℕ) → p < 2 ^ i → c < 2 ^ suc j → a ≡ c * 2 ^ i + p / b → Parts i j p c b a
parted i j p c b a first other e =
    let P = 2 ^ i in let Q = 2 ^ j in
    let d = c / Q in let rest = c % Q in
    let q = p / b in
    let s : Q * d + rest ≡ c = div-add-mod c Q in
    let t : Q * d ≡ d * Q = mul_comm Q d in
    let small : rest < Q = mod_below c Q (pow_pos j) in
    let two : d < 2 = quotient_below c Q (pow_pos j) (omega (arith, double_pow j)) in
    let low : rest * P + q < P * Q = mul-add-lt rest P q Q small (omega (arith, div-le_self p b)) in
    let pq : 2 ^ (i + j) ≡ P * Q = pow-add 2 i j in
    let dist : (d * Q + rest) * P ≡ d * (P * Q) + rest * P =
    mul_comm (d * Q + rest) P ∙ (mul-add P (d * Q) rest ∙ (ap (λ n. n + P * rest) (sym (mul_assoc P d Q) ∙ (ap (λ n. n * Q) (mul_comm P d) ∙ mul_assoc d P Q)) ∙ ap (λ n. d * (P * Q) + n) (mul_comm P rest))) in
    let c_is : c ≡ d * Q + rest = omega arith in
    let far : d * 2 ^ (i + j) ≡ d * (P * Q) = ap (λ n. d * n) pq in
    let cp : c * P ≡ (d * Q + rest) * P = ap (λ n. n * P) c_is in
    record { d = d; rest = rest; bit = two; small = small; parts = c_is; low = omega arith; whole = omega arith }
  where
    quotient_below : (c Q : ℕ) → 0 < Q → c < Q + Q → c / Q < 2
    quotient_below c Q h l = (div-lt_iff_lt-mul {k = Q} {x = c} {y = 2} h).1 (omega (arith, l))

record Turned (w i j p c b : ℕ) (t : Quad) : Type 0 where
  next : ℕ
  rest : ℕ
  halfway : Halfway w (suc i) j next rest b t
  same : next * 2 ^ j + rest ≡ p * 2 ^ suc j + c

sum_times : (x y k : ℕ) → (x + y) * k ≡ x * k + y * k
sum_times x y k = mul_comm (x + y) k ∙ (mul-add k x y ∙ (ap (λ n. n + k * y) (mul_comm k x) ∙ ap (λ n. x * k + n) (mul_comm k y)))

as_read : (i j p c d rest : ℕ) → c ≡ d * 2 ^ j + rest → (p + p + d) * 2 ^ j + rest ≡ p * 2 ^ suc j + c
as_read i j p c d rest e =
    let a = sum_times (p + p) d (2 ^ j) in let b = sum_times p p (2 ^ j) in
    let q : p * 2 ^ suc j ≡ p * 2 ^ j + p * 2 ^ j = ap (λ n. p * n) (double_pow j) ∙ mul-add p (2 ^ j) (2 ^ j) in
    omega arith

abbrev pub as_bit : Bool → ℕ
as_bit b = if b then 1 else 0

is_below : (x y : ℕ) → x < y → as_bit (nat_le y x) ≡ 0
is_below x y h = grind (arith, nat_tests)

is_not_below : (x y : ℕ) → y ≤ x → as_bit (nat_le y x) ≡ 1
is_not_below x y h = grind (arith, nat_tests)

module _ (w i j p c b : ℕ) (t : Quad) (h : Halfway w i (suc j) p c b t) (pos : 0 < b) (fits : b ≤ top w) where
  abbrev f : Parts i j p c b t.a
  f = parted i j p c b t.a h.first h.other h.dividend

  abbrev T : ℕ
  T = 2 ^ (i + j)

  abbrev low : ℕ
  low = f.rest * 2 ^ i + p / b

  abbrev r : ℕ
  r = p % b

  tops : (top w ≡ T) × (2 ^ w ≡ T + T)
  tops = top_is w i j h.bits

  r_below : r < b
  r_below = mod_below p b pos

  b_below : b ≤ T
  b_below = omega (arith, fits, tops.0)

  v_is : bit_and t.a (top w) ≡ f.d * T
  v_is = ap (λ n. bit_and n (top w)) f.whole ∙ (ap (bit_and (f.d * T + low)) tops.0 ∙ bit_of (i + j) f.d low f.bit f.low)

  small_sum : r + r + f.d < 2 ^ w
  small_sum = omega (arith, r_below, b_below, tops.1, f.bit)

  doubled_r : word_add w t.r t.r ≡ r + r
  doubled_r = ap (λ x. word_add w x x) h.remainder ∙ mod-eq_of_lt (omega (arith, small_sum))

  brought_is : brought w (bit_and t.a (top w)) t ≡ r + r + f.d
  brought_is =
      ap (λ v. unless_zero v (word_add w (word_add w t.r t.r) 1) (word_add w t.r t.r)) v_is
      ∙ (ap (λ x. unless_zero (f.d * T) (word_add w x 1) x) doubled_r ∙ one_more w f.d T (r + r) f.bit (pow_pos (i + j)) small_sum)

  doubled_a : word_add w t.a t.a ≡ low + low
  doubled_a =
      let twice : f.d * 2 ^ w ≡ f.d * T + f.d * T = ap (λ n. f.d * n) tops.1 ∙ mul-add f.d T T in
      let e : t.a + t.a ≡ f.d * 2 ^ w + (low + low) = omega (arith, f.whole, twice) in
      ap (λ n. n % 2 ^ w) e ∙ mod-mul-add f.d (2 ^ w) (low + low) (omega (arith, f.low, tops.1))

  counter_is : word_add w t.m t.m ≡ 2 ^ suc i % 2 ^ w
  counter_is =
      let m : t.m ≡ 2 ^ i = h.counter ∙ mod_small w i (omega (arith, h.bits)) in
      ap (λ m. word_add w m m) m ∙ ap (λ a. a % 2 ^ w) (sym (double_pow i))

  goes_in_is : (goes_in w (bit_and t.a (top w)) t) ≡ as_bit (nat_le b (r + r + f.d))
  goes_in_is = ap (λ x. as_bit (nat_le x (brought w (bit_and t.a (top w)) t))) h.divisor ∙ ap (λ x. as_bit (nat_le b x)) brought_is

  lows : low + low ≡ f.rest * 2 ^ suc i + (p / b + p / b)
  lows = let e : f.rest * 2 ^ suc i ≡ f.rest * 2 ^ i + f.rest * 2 ^ i = ap (λ n. f.rest * n) (double_pow i) ∙ mul-add f.rest (2 ^ i) (2 ^ i) in omega (arith, e)

  abbrev after : ℕ → Quad
  after u = divided w (bit_and t.a (top w)) u t

  zero_bit : r + r + f.d < b → Turned w i j p c b (divide_turn w t)
  zero_bit lt =
      let q = quotient_bit_0 p b f.d lt in
      let here : divide_turn w t ≡ after 0 = ap after (goes_in_is ∙ is_below (r + r + f.d) b lt) in
      subst (Turned w i j p c b) (sym here)
      (record {
        next = p + p + f.d;
        rest = f.rest;
        halfway = record {
          bits = omega (arith, h.bits);
          first = omega (arith, h.first, f.bit, double_pow i);
          other = f.small;
          dividend = doubled_a ∙ (lows ∙ ap (λ n. f.rest * 2 ^ suc i + n) (sym q.0));
          divisor = h.divisor;
          remainder = brought_is ∙ sym q.1;
          counter = counter_is;
        };
        same = as_read i j p c f.d f.rest f.parts;
      })

  one_bit : b ≤ r + r + f.d → Turned w i j p c b (divide_turn w t)
  one_bit ge =
      let q = quotient_bit_1 p b f.d ge r_below f.bit in
      let here : divide_turn w t ≡ after 1 = ap after (goes_in_is ∙ is_not_below (r + r + f.d) b ge) in
      let a_is : word_add w (word_add w t.a t.a) 1 ≡ low + low + 1 = ap (λ n. word_add w n 1) doubled_a ∙ mod-eq_of_lt (omega (arith, f.low, tops.1)) in
      let r_is : word_sub w (brought w (bit_and t.a (top w)) t) t.b ≡ r + r + f.d - b =
      ap (λ n. word_sub w n t.b) brought_is ∙ (ap (word_sub w (r + r + f.d)) h.divisor ∙ sub_word w (r + r + f.d) b ge small_sum) in
      let sum : low + low + 1 ≡ f.rest * 2 ^ suc i + (p / b + p / b + 1) = omega (arith, lows) in
      subst (Turned w i j p c b) (sym here)
      (record {
        next = p + p + f.d;
        rest = f.rest;
        halfway = record {
          bits = omega (arith, h.bits);
          first = omega (arith, h.first, f.bit, double_pow i);
          other = f.small;
          dividend = a_is ∙ (sum ∙ ap (λ n. f.rest * 2 ^ suc i + n) (sym q.0));
          divisor = h.divisor;
          remainder = r_is ∙ sym q.1;
          counter = counter_is;
        };
        same = as_read i j p c f.d f.rest f.parts;
      })

  turned : Turned w i j p c b (divide_turn w t)
  turned = elim (cases_lt (r + r + f.d) b) [ inl lt ↦ zero_bit lt | inr ge ↦ one_bit ge ]

-- the quotient, the remainder, and a counter that has run out
pub record Divided (n b : ℕ) (t : Quad) : Type 0 where
  pub none : t.m ≡ 0
  pub quotient : t.a ≡ n / b
  pub remainder : t.r ≡ n % b

pub divides : (w j i p c b : ℕ) (t : Quad) → Halfway w i j p c b t → 0 < b → b ≤ top w → Divided (p * 2 ^ j + c) b (repeated j mask (divide_turn w) t)
divides w zero i p c b t h pos fits =
    let k : i ≡ w = omega (arith, h.bits) in
    let z : c ≡ 0 = omega (arith, h.other) in
    let n : p * 2 ^ 0 + c ≡ p = omega (arith, z) in
    let same : p * 1 + 0 ≡ p = omega arith in
    record {
      none = h.counter ∙ (ap (λ k. 2 ^ k % 2 ^ w) k ∙ mod_self (2 ^ w));
      quotient = h.dividend ∙ (ap (λ c. c * 2 ^ i + p / b) z ∙ (omega arith ∙ ap (λ n. n / b) (sym n)));
      remainder = h.remainder ∙ ap (λ n. n % b) (sym n);
    }
divides w (suc j) i p c b t h pos fits =
    let u = turned w i j p c b t h pos fits in
    let m : t.m ≡ 2 ^ i = h.counter ∙ mod_small w i (omega (arith, h.bits)) in
    let some : 2 ^ i ≡ suc (2 ^ i - 1) = omega (arith, pow_pos i) in
    let d = divides w j (suc i) u.next u.rest b (divide_turn w t) u.halfway pos fits in
    subst (Divided (p * 2 ^ suc j + c) b) (sym (goes_on j (2 ^ i - 1) mask (divide_turn w) t (m ∙ some)))
    (subst (λ n. Divided n b (repeated j mask (divide_turn w) (divide_turn w t))) u.same d)
