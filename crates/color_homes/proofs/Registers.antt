-- Scratch registers and colours of an accepted description: they are general, and no two are one.
use Rattle.std.proofs.Common.{◌≡◌, ◌≢◌, ℕ, ◌+◌, max, ◌^◌, ◌<◌, ◌≤◌, nat_lt, Bool, true, false, if◌then◌else◌, List, [], ◌∷◌, map, length, All, AllPairs, refl, sym, ap, subst, ◌∙◌, arith}
use Rattle.std.specs.Prelude.{◌==◌, bit_or, count_by}
use Rattle.std.specs.Int.{bit_at}
use Rattle.std.proofs.lemmas.Bool.{eqb-true}
use Rattle.std.proofs.lemmas.Bool.Decides.{nat_tests}
use Rattle.std.proofs.lemmas.List.{length-take}
use Rattle.std.proofs.lemmas.List.Sums.{sum_by-cons}
use Rattle.std.proofs.lemmas.List.Elements.{All-head, All-tail}
use Rattle.std.proofs.lemmas.Nat.Bits.{bit_at_or, bit_at-lt, bit_at-pow_same}
use Rattle.rtl_tree.proofs.Pairs.{AllPairs-first, AllPairs-rest}
use Rattle.md_rows.specs.declared.description.Register.{Register}
use Rattle.md_rows.specs.declared.description.Role.{Role}
use Rattle.md_rows.specs.declared.description.Role.TheVariants.{General, Result, Stack, Link, Other}
use Rattle.md_rows.specs.declared.description.RawDescription.{RawDescription}
use Rattle.md_rows.specs.declared.row.Row.{Row}
use Rattle.md_rows.specs.Instances.{general_set}
use Rattle.md_text.specs.Rules.{is_general}
use Rattle.md_covers.specs.Covers.{general_bit, general_bits}
use Rattle.md_said.specs.Limits.{SaidIsLimited}
use Rattle.md_check.specs.Accepted.{FewRegisters, is_register_hole, most_registers, general_count, normalised, normalised_row}
use Rattle.md_check.specs.Checking.{IsChecked}
use Rattle.temp_machine.specs.Tidy.{is_among}
use Rattle.temp_laws.proofs.Targets.{BitsAreSum}
use Rattle.color_registers.specs.Registers.{general_numbers, scratch_of, colors_of}
use Rattle.color_homes.specs.Loading.{IsRegister}
use Rattle.color_homes.proofs.Lists.{false_true, by_bool, or_cases, AreApart, take_among, drop_among, take_apart, parts_apart}

abbrev Differ : List Register → Type 0
Differ rs = AllPairs (λ r s. r.number ≢ s.number) rs

abbrev with_number : Role → ℕ → List ℕ → List ℕ
with_number role n ns = if is_general role then n ∷ ns else ns

-- a general register has a bit
bit_of : (role : Role) (n k : ℕ) (ns : List ℕ) (set : ℕ) → n < 64 → is_among k (with_number role n ns) ≡ true → (is_among k ns ≡ true → bit_at set k ≡ 1)
    → bit_at (bit_or (general_bit role n) set) k ≡ 1
bit_of General n k ns set small e rest =
    or_cases (n == k) (is_among k ns) e
    (λ f. (let same = eqb-true n k f in
    let t : nat_lt n 64 ≡ true = grind (arith, nat_tests, small) in
    let here : bit_at (general_bit General n) k ≡ 1 = ap (λ (b : Bool). bit_at (if b then 2 ^ n else 0) k) t ∙ (ap (bit_at (2 ^ n)) (sym same) ∙ bit_at-pow_same n) in
    let both = bit_at_or (general_bit General n) set k in
    let low = bit_at-lt set k in
    omega (arith, here, both, low)))
    (λ f. beside (rest f))
  where
    beside : bit_at set k ≡ 1 → bit_at (bit_or (general_bit General n) set) k ≡ 1
    beside f = let both = bit_at_or (general_bit General n) set k in let low = bit_at-lt (general_bit General n) k in omega (arith, f, both, low)
bit_of Result n k ns set small e rest =
    let f = rest e in let both = bit_at_or (general_bit Result n) set k in let low = bit_at-lt (general_bit Result n) k in omega (arith, f, both, low)
bit_of Stack n k ns set small e rest =
    let f = rest e in let both = bit_at_or (general_bit Stack n) set k in let low = bit_at-lt (general_bit Stack n) k in omega (arith, f, both, low)
bit_of Link n k ns set small e rest =
    let f = rest e in let both = bit_at_or (general_bit Link n) set k in let low = bit_at-lt (general_bit Link n) k in omega (arith, f, both, low)
bit_of Other n k ns set small e rest =
    let f = rest e in let both = bit_at_or (general_bit Other n) set k in let low = bit_at-lt (general_bit Other n) k in omega (arith, f, both, low)

bits_of : (rs : List Register) (k : ℕ) → All (λ r. r.number < 64) rs → is_among k (general_numbers rs) ≡ true → bit_at (general_bits rs) k ≡ 1
bits_of [] k small e = false_true e
bits_of (r ∷ rs) k small e =
    bit_of r.role r.number k (general_numbers rs) (general_bits rs) (All-head (λ r. r.number < 64) r rs small) e
    (λ f. bits_of rs k (All-tail (λ r. r.number < 64) r rs small) f)

-- it is the number of a register
number_of : (P : ℕ → Type 0) (rs : List Register) (k : ℕ) → All (λ r. P r.number) rs → is_among k (general_numbers rs) ≡ true → P k
number_of P [] k all e = false_true e
number_of P (r ∷ rs) k all e = by r.role (number_of P rs k (All-tail (λ r. P r.number) r rs all)) e
  where
    by : (role : Role) → (is_among k (general_numbers rs) ≡ true → P k) → is_among k (with_number role r.number (general_numbers rs)) ≡ true → P k
    by General next f =
        or_cases (r.number == k) (is_among k (general_numbers rs)) f (λ g. subst P (eqb-true r.number k g) (All-head (λ r. P r.number) r rs all)) next
    by Result next f = next f
    by Stack next f = next f
    by Link next f = next f
    by Other next f = next f

numbers_apart : (rs : List Register) → Differ rs → AreApart (general_numbers rs)
numbers_apart [] h = tt
numbers_apart (r ∷ rs) h = by r.role (numbers_apart rs (AllPairs-rest (λ r s. r.number ≢ s.number) r rs h))
  where
    fresh : is_among r.number (general_numbers rs) ≡ false
    fresh =
        by_bool (is_among r.number (general_numbers rs))
        (λ e. absurd (number_of (λ n. r.number ≢ n) rs r.number (AllPairs-first (λ r s. r.number ≢ s.number) r rs h) e refl)) (λ e. e)

    by : (role : Role) → AreApart (general_numbers rs) → AreApart (with_number role r.number (general_numbers rs))
    by General rest = (fresh, rest)
    by Result rest = rest
    by Stack rest = rest
    by Link rest = rest
    by Other rest = rest

numbers_count : (rs : List Register) → length (general_numbers rs) ≡ general_count rs
numbers_count [] = refl
numbers_count (r ∷ rs) = by r.role (numbers_count rs) ∙ sym (sum_by-cons (λ (r : Register). if is_general r.role then 1 else 0) r rs)
  where
    by : (role : Role) → length (general_numbers rs) ≡ general_count rs
        → length (with_number role r.number (general_numbers rs)) ≡ (if is_general role then 1 else 0) + general_count rs
    by General e = omega (arith, e)
    by Result e = omega (arith, e)
    by Stack e = omega (arith, e)
    by Link e = omega (arith, e)
    by Other e = omega (arith, e)

same_most : (w : ℕ) (rows : List Row) → most_registers (map (normalised_row w) rows) ≡ most_registers rows
same_most w [] = refl
same_most w (r ∷ rows) = ap (λ (n : ℕ). max (count_by is_register_hole r.holes) n) (same_most w rows)

-- what is known of the registers of a description
pub record AreSound (d : RawDescription) : Type 0 where
  pub sum : general_bits d.registers ≡ general_set d.registers
  pub apart : AreApart (general_numbers d.registers)
  pub register : (k : ℕ) → is_among k (general_numbers d.registers) ≡ true → IsRegister d k
  pub enough : length (scratch_of d) ≡ most_registers d.rows

sound_of : (e : RawDescription) → All (λ r. r.number < 64) e.registers → Differ e.registers → general_bits e.registers ≡ general_set e.registers
    → (general_count e.registers < most_registers e.rows + 1 → ⊥) → AreSound (normalised e)
sound_of e small differ sum enough = record {
  sum = sum;
  apart = numbers_apart e.registers differ;
  register = λ k h. (
    number_of (λ n. n < 64) e.registers k small h,
    ap (λ (n : ℕ). n == 1) (ap (λ (set : ℕ). bit_at set k) (sym sum) ∙ bits_of e.registers k small h),
  );
  enough =
      let same = same_most e.word e.rows in
      let count = numbers_count e.registers in
      let cut = length-take (most_registers (normalised e).rows) (general_numbers e.registers) in
      let some : most_registers e.rows ≤ general_count e.registers = least enough in
      omega (arith, same, count, cut, some);
}
  where
    least : (general_count e.registers < most_registers e.rows + 1 → ⊥) → most_registers e.rows ≤ general_count e.registers
    least h = by (nat_lt (general_count e.registers) (most_registers e.rows + 1)) refl
      where
        by : (b : Bool) → nat_lt (general_count e.registers) (most_registers e.rows + 1) ≡ b → most_registers e.rows ≤ general_count e.registers
        by true q = absurd (h (grind (arith, nat_tests, q)))
        by false q = grind (arith, nat_tests, q)

pub registers_sound : (w : ℕ) (d : RawDescription) → SaidIsLimited → BitsAreSum → IsChecked w d → AreSound d
registers_sound w d limited sums c =
    let l = limited c.text c.said c.accepted.says in
    subst AreSound (sym c.normal)
    (sound_of c.said l.numbers l.apart (sums c.said.registers l.numbers l.apart)
    (λ few. c.accepted.whole FewRegisters c.said.last 0 (record { few = few; last = refl; none = refl })))

module _ (d : RawDescription) (s : AreSound d) where
  pub scratch_register : (k : ℕ) → is_among k (scratch_of d) ≡ true → IsRegister d k
  scratch_register k e = s.register k (take_among k (most_registers d.rows) (general_numbers d.registers) e)

  pub color_register : (k : ℕ) → is_among k (colors_of d) ≡ true → IsRegister d k
  color_register k e = s.register k (drop_among k (most_registers d.rows) (general_numbers d.registers) e)

  pub scratch_apart : AreApart (scratch_of d)
  scratch_apart = take_apart (most_registers d.rows) (general_numbers d.registers) s.apart

  pub scratch_no_color : (j k : ℕ) → is_among j (scratch_of d) ≡ true → is_among k (colors_of d) ≡ true → j ≢ k
  scratch_no_color j k e f q =
      parts_apart j (most_registers d.rows) (general_numbers d.registers) s.apart e (subst (λ (n : ℕ). is_among n (colors_of d) ≡ true) (sym q) f)
