-- Gathering a word for each bit of another, and doubling.
use Rattle.std.proofs.Common.{◌≡◌, ℕ, zero, suc, ◌+◌, ◌-◌, ◌*◌, ◌/◌, ◌%◌, ◌^◌, ◌<◌, ◌≤◌, bit_and, inl, inr, refl, sym, ap, subst, ◌∙◌, arith}
use Rattle.std.specs.Int.{bit_at}
use Rattle.std.proofs.Math.Nat.{mul_comm, mul-add, mul-zero, mod-eq_of_lt}
use Rattle.std.proofs.Math.Pow.{pow_mono}
use Rattle.std.proofs.lemmas.Bool.{cases_lt}
use Rattle.std.proofs.lemmas.Nat.{pow_pos, pow_below, pow-add, mul-le, div-mul-add, mod-mul-add, mul-mod_first}
use Rattle.std.proofs.lemmas.Nat.Bits.{and_pow}
use Rattle.rtl_word.specs.Words.{word_add, word_sub, word_mul}
use Rattle.rtl_word.proofs.Below.{word_add-below, word_sub-below}
use Rattle.rtl_word.proofs.Sums.{add_comm, add_assoc, add_zero}
use Rattle.rtl_word.proofs.Products.{mul_even, mul_odd}
use Rattle.c_helpers.proofs.Steps.{mul_none}
use Rattle.c_helpers.specs.Code.{unless_zero, repeated}
use Rattle.c_helpers.proofs.Repeats.{stays_put, goes_on}

pub double_pow : (i : ℕ) → 2 ^ suc i ≡ 2 ^ i + 2 ^ i
double_pow i = let e : suc i ≡ i + 1 = omega arith in let p : 2 ^ (i + 1) ≡ 2 ^ i * 2 ^ 1 = pow-add 2 i 1 in ap (λ j. 2 ^ j) e ∙ (p ∙ omega arith)

pub sub_word : (w a b : ℕ) → b ≤ a → a < 2 ^ w → word_sub w a b ≡ a - b
sub_word w a b h l =
    let e : a + (2 ^ w - b) ≡ 1 * 2 ^ w + (a - b) = omega arith in
    ap (λ n. n % 2 ^ w) e ∙ mod-mul-add 1 (2 ^ w) (a - b) (omega arith)

pub record Four : Type 0 where
  pub n : ℕ
  pub x : ℕ
  pub r : ℕ
  pub m : ℕ

abbrev pub gathered : ℕ → ℕ → Four → Four
gathered w v t = record { n = unless_zero v (word_sub w t.n t.m) t.n; x = word_add w t.x t.x; r = unless_zero v (word_add w t.r t.x) t.r; m = word_add w t.m t.m }

abbrev pub gather_turn : ℕ → Four → Four
gather_turn w t = gathered w (bit_and t.n t.m) t

abbrev pub left : Four → ℕ
left t = t.n

-- nothing is left, and for each of k the word x was added to r
pub record Gathered (w k x r : ℕ) (t : Four) : Type 0 where
  pub none : t.n ≡ 0
  pub sum : t.r ≡ word_add w r (word_mul w x k)

odd_sum : (w r x k : ℕ) → word_add w (word_add w r x) (word_mul w (word_add w x x) k) ≡ word_add w r (word_mul w x (k + k + 1))
odd_sum w r x k =
    let y = word_mul w (word_add w x x) k in
    add_assoc w r x y ∙ ap (word_add w r) (add_comm w x y ∙ sym (mul_odd w x k))

gone : (i k : ℕ) → 2 ^ i * k ≡ 0 → k ≡ 0
gone i k e = let h = mul-le 1 k (2 ^ i) k (pow_pos i) (omega arith) in omega arith

-- the bit of a multiple of a power of two
lowest_bit : (i k : ℕ) → bit_at (2 ^ i * k) i ≡ k % 2
lowest_bit i k =
    let e : 2 ^ i * k ≡ k * 2 ^ i + 0 = mul_comm (2 ^ i) k ∙ omega arith in
    ap (λ n. n / 2 ^ i % 2) e ∙ ap (λ n. n % 2) (div-mul-add k (2 ^ i) 0 (pow_pos i))

halves : (i k : ℕ) → 2 ^ suc i * k ≡ 2 ^ i * (k + k)
halves i k = ap (λ p. p * k) (double_pow i) ∙ (mul_comm (2 ^ i + 2 ^ i) k ∙ (mul-add k (2 ^ i) (2 ^ i) ∙ (ap (λ n. n + n) (mul_comm k (2 ^ i)) ∙ sym (mul-add (2 ^ i) k k))))

has_some : (i k v : ℕ) → 2 ^ i * k ≡ suc v → 1 ≤ k
has_some i zero v q = absurd (let z = mul-zero (2 ^ i) in omega arith)
has_some i (suc k) v q = omega arith

small : (w i k v : ℕ) → 2 ^ i * k < 2 ^ w → 2 ^ i * k ≡ suc v → i < w
small w i k v h e =
    elim (cases_lt i w) [
      | inl p ↦ p
      | inr p ↦ absurd (let a : 2 ^ w ≤ 2 ^ i = pow_mono p in let b = mul-le (2 ^ i) 1 (2 ^ i) k (omega arith) (has_some i k v e) in omega arith)
    ]

pub mod_small : (w i : ℕ) → i < w → 2 ^ i % 2 ^ w ≡ 2 ^ i
mod_small w i h = mod-eq_of_lt (pow_below i w h)

-- a turn, by the bit that it takes
turn_even : (w i k : ℕ) (t : Four) → t.n ≡ 2 ^ i * (k + k) → t.m ≡ 2 ^ i → gather_turn w t ≡ gathered w 0 t
turn_even w i k t e f =
    let z : (k + k) % 2 ≡ 0 = omega arith in
    let b : bit_and t.n t.m ≡ 0 =
    ap (λ n. bit_and n t.m) e ∙ (ap (bit_and (2 ^ i * (k + k))) f ∙ (and_pow (2 ^ i * (k + k)) i ∙ (ap (λ d. d * 2 ^ i) (lowest_bit i (k + k) ∙ z) ∙ omega arith))) in
    ap (λ v. gathered w v t) b

turn_odd : (w i k : ℕ) (t : Four) → t.n ≡ 2 ^ i * (k + k + 1) → t.m ≡ 2 ^ i → gather_turn w t ≡ gathered w (2 ^ i) t
turn_odd w i k t e f =
    let z : (k + k + 1) % 2 ≡ 1 = omega arith in
    let b : bit_and t.n t.m ≡ 2 ^ i =
    ap (λ n. bit_and n t.m) e ∙ (ap (bit_and (2 ^ i * (k + k + 1))) f ∙ (and_pow (2 ^ i * (k + k + 1)) i ∙ (ap (λ d. d * 2 ^ i) (lowest_bit i (k + k + 1) ∙ z) ∙ omega arith))) in
    ap (λ v. gathered w v t) b

taken : (w v : ℕ) (t : Four) → 0 < v → gathered w v t ≡ record { n = word_sub w t.n t.m; x = word_add w t.x t.x; r = word_add w t.r t.x; m = word_add w t.m t.m }
taken w zero t h = absurd (omega (arith, h))
taken w (suc v) t h = refl

pub record Before (w i k : ℕ) (t : Four) : Type 0 where
  pub n : t.n ≡ 2 ^ i * k
  pub word : t.n < 2 ^ w
  pub m : t.m ≡ 2 ^ i % 2 ^ w
  pub r : t.r < 2 ^ w

ended : (w j i k : ℕ) (t : Four) → Before w i k t → t.n ≡ 0 → Gathered w k t.x t.r (repeated j left (gather_turn w) t)
ended w j i k t b z =
    let g : k ≡ 0 = gone i k (sym b.n ∙ z) in
    let s : t.r ≡ word_add w t.r (word_mul w t.x k) =
    sym (ap (λ k. word_add w t.r (word_mul w t.x k)) g ∙ (ap (word_add w t.r) (mul_none w t.x) ∙ add_zero w t.r b.r)) in
    subst (Gathered w k t.x t.r) (sym (stays_put j left (gather_turn w) t z)) (record { none = z; sum = s })

over : (w i k : ℕ) → w ≤ i → 2 ^ i * k < 2 ^ w → 2 ^ i * k ≡ 0
over w i zero le h = mul-zero (2 ^ i)
over w i (suc k) le h = absurd (let a : 2 ^ w ≤ 2 ^ i = pow_mono le in let b = mul-le (2 ^ i) 1 (2 ^ i) (suc k) (omega arith) (omega arith) in omega arith)

data Parity (k : ℕ) : Type 0 where
  even : (h : ℕ) → k ≡ h + h → Parity k
  odd : (h : ℕ) → k ≡ h + h + 1 → Parity k

parity : (k : ℕ) → Parity k
parity k = by_rest (k % 2) refl
  where
    by_rest : (d : ℕ) → k % 2 ≡ d → Parity k
    by_rest zero e = even (k / 2) (omega arith)
    by_rest (suc zero) e = odd (k / 2) (omega arith)
    by_rest (suc (suc d)) e = absurd (omega arith)

mutual_step : (w j i k v : ℕ) (t : Four) → t.n ≡ suc v → Before w i k t → Parity k
    → ((h : ℕ) (u : Four) → Before w (suc i) h u → Gathered w h u.x u.r (repeated j left (gather_turn w) u))
    → Gathered w k t.x t.r (repeated (suc j) left (gather_turn w) t)
mutual_step w j i k v t e b (even h p) next =
    let lt = small w i k v (subst (λ n. n < 2 ^ w) b.n b.word) (sym b.n ∙ e) in
    let m : t.m ≡ 2 ^ i = b.m ∙ mod_small w i lt in
    let n : t.n ≡ 2 ^ i * (h + h) = b.n ∙ ap (λ k. 2 ^ i * k) p in
    let u = gathered w 0 t in
    let after : Before w (suc i) h u = record { n = n ∙ sym (halves i h); word = b.word; m = ap (λ m. word_add w m m) m ∙ ap (λ a. a % 2 ^ w) (sym (double_pow i)); r = b.r } in
    let g = next h u after in
    let same : repeated (suc j) left (gather_turn w) t ≡ repeated j left (gather_turn w) u = goes_on j v left (gather_turn w) t e ∙ ap (repeated j left (gather_turn w)) (turn_even w i h t n m) in
    subst (Gathered w k t.x t.r) (sym same)
    (record { none = g.none; sum = g.sum ∙ (ap (word_add w t.r) (sym (mul_even w t.x h)) ∙ ap (λ k. word_add w t.r (word_mul w t.x k)) (sym p)) })
mutual_step w j i k v t e b (odd h p) next =
    let lt = small w i k v (subst (λ n. n < 2 ^ w) b.n b.word) (sym b.n ∙ e) in
    let m : t.m ≡ 2 ^ i = b.m ∙ mod_small w i lt in
    let n : t.n ≡ 2 ^ i * (h + h + 1) = b.n ∙ ap (λ k. 2 ^ i * k) p in
    let apart : 2 ^ i * (h + h + 1) ≡ 2 ^ i * (h + h) + 2 ^ i = mul-add (2 ^ i) (h + h) 1 ∙ omega arith in
    let u : Four = record { n = word_sub w t.n t.m; x = word_add w t.x t.x; r = word_add w t.r t.x; m = word_add w t.m t.m } in
    let less : t.m ≤ t.n = omega arith in
    let taken_off : u.n ≡ 2 ^ i * (h + h) = sub_word w t.n t.m less b.word ∙ omega arith in
    let after : Before w (suc i) h u = record {
      n = taken_off ∙ sym (halves i h);
      word = word_sub-below w t.n t.m;
      m = ap (λ m. word_add w m m) m ∙ ap (λ a. a % 2 ^ w) (sym (double_pow i));
      r = word_add-below w t.r t.x;
    } in
    let g = next h u after in
    let same : repeated (suc j) left (gather_turn w) t ≡ repeated j left (gather_turn w) u =
    goes_on j v left (gather_turn w) t e ∙ ap (repeated j left (gather_turn w)) (turn_odd w i h t n m ∙ taken w (2 ^ i) t (pow_pos i)) in
    subst (Gathered w k t.x t.r) (sym same)
    (record { none = g.none; sum = g.sum ∙ (odd_sum w t.r t.x h ∙ ap (λ k. word_add w t.r (word_mul w t.x k)) (sym p)) })

by_left : (w j i k v : ℕ) (t : Four) → t.n ≡ v → Before w i k t
    → ((h : ℕ) (u : Four) → Before w (suc i) h u → Gathered w h u.x u.r (repeated j left (gather_turn w) u))
    → Gathered w k t.x t.r (repeated (suc j) left (gather_turn w) t)
by_left w j i k zero t e b next = ended w (suc j) i k t b e
by_left w j i k (suc v) t e b next = mutual_step w j i k v t e b (parity k) next

pub gathers : (w j i k : ℕ) (t : Four) → w ≤ i + j → Before w i k t → Gathered w k t.x t.r (repeated j left (gather_turn w) t)
gathers w zero i k t le b = ended w 0 i k t b (b.n ∙ over w i k (omega (arith, le)) (subst (λ n. n < 2 ^ w) b.n b.word))
gathers w (suc j) i k t le b = by_left w j i k t.n t refl b (λ h u. gathers w j (suc i) h u (omega (arith, le)))

-- doubling, as often as a word says
pub record Two : Type 0 where
  pub x : ℕ
  pub n : ℕ

abbrev pub double_turn : ℕ → Two → Two
double_turn w t = record { x = word_add w t.x t.x; n = word_sub w t.n 1 }

abbrev pub count : Two → ℕ
count t = t.n

pub record Doubled (w : ℕ) (x n : ℕ) (t : Two) : Type 0 where
  pub none : t.n ≡ 0
  pub product : t.x ≡ x * 2 ^ n % 2 ^ w

twice_pow : (w x n : ℕ) → word_add w x x * 2 ^ n % 2 ^ w ≡ x * 2 ^ suc n % 2 ^ w
twice_pow w x n =
    mul-mod_first (x + x) (2 ^ n) (2 ^ w)
    ∙ ap (λ a. a % 2 ^ w) (mul_comm (x + x) (2 ^ n) ∙ (mul-add (2 ^ n) x x ∙ (ap (λ a. a + a) (mul_comm (2 ^ n) x) ∙ (sym (mul-add x (2 ^ n) (2 ^ n)) ∙ ap (λ p. x * p) (sym (double_pow n))))))

pub doubles : (w j n x : ℕ) → n ≤ j → x < 2 ^ w → n < 2 ^ w → Doubled w x n (repeated j count (double_turn w) (record { x = x; n = n }))
doubles w j zero x le xw nw =
    let t : Two = record { x = x; n = 0 } in
    let one : x * 2 ^ 0 ≡ x = omega arith in
    subst (Doubled w x 0) (sym (stays_put j count (double_turn w) t refl)) (record { none = refl; product = sym (ap (λ a. a % 2 ^ w) one ∙ mod-eq_of_lt xw) })
doubles w zero (suc n) x le xw nw = absurd (omega (arith, le))
doubles w (suc j) (suc n) x le xw nw =
    let less : word_sub w (suc n) 1 ≡ n = sub_word w (suc n) 1 (omega arith) nw ∙ omega arith in
    let d = doubles w j n (word_add w x x) (omega (arith, le)) (word_add-below w x x) (omega (arith, nw)) in
    let here : repeated j count (double_turn w) (record { x = word_add w x x; n = n }) ≡ repeated j count (double_turn w) (record { x = word_add w x x; n = word_sub w (suc n) 1 }) =
    ap (λ k. repeated j count (double_turn w) (record { x = word_add w x x; n = k })) (sym less) in
    subst (Doubled w x (suc n)) here (record { none = d.none; product = d.product ∙ twice_pow w x n })
