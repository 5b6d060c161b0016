-- Colours are general registers.
use Rattle.std.proofs.Common.{◌≡◌, ℕ, zero, suc, ◌<◌, ◌||◌, ◌==◌, Bool, true, false, List, [], ◌∷◌, drop, max, sym, subst, ap, ◌∙◌, refl, arith}
use Rattle.std.specs.Prelude.{nat_lt, if◌then◌else◌, bit_or, All}
use Rattle.std.specs.Int.{bit_at}
use Rattle.std.proofs.lemmas.Bool.{eqb-true, eq-eqb}
use Rattle.std.proofs.lemmas.Bool.Decides.{nat_tests}
use Rattle.std.proofs.lemmas.Nat.Bits.{bit_at-lt, bit_at_or, bit_at-pow_same}
use Rattle.std.proofs.lemmas.List.Elements.{All-head, All-tail}
use Rattle.md_rows.specs.declared.description.Register.{Register}
use Rattle.md_rows.specs.declared.description.Role.{Role}
use Rattle.md_rows.specs.declared.description.Role.TheVariants.{General, Result, Stack, Link, Other}
use Rattle.md_rows.specs.declared.description.RawDescription.{RawDescription}
use Rattle.md_rows.specs.Fits.{is_in}
use Rattle.md_rows.specs.Instances.{general_set}
use Rattle.md_text.specs.Rules.{is_general}
use Rattle.md_covers.specs.Covers.{general_bit, general_bits}
use Rattle.md_said.specs.Limits.{SaidIsLimited}
use Rattle.md_check.specs.Accepted.{most_registers, normalised}
use Rattle.md_check.specs.Checking.{IsChecked}
use Rattle.temp_machine.specs.Tidy.{is_among}
use Rattle.temp_laws.proofs.Targets.{BitsAreSum}
use Rattle.color_holding.proofs.Members.{false_true, or_cases}
use Rattle.color_registers.specs.Registers.{general_numbers, colors_of}
use Rattle.color_units.specs.Units.{ColorsAreGeneral}

-- what is behind the first items is among all
behind : (c n : ℕ) (xs : List ℕ) → is_among c (drop n xs) ≡ true → is_among c xs ≡ true
behind c zero xs e = e
behind c (suc n) [] e = e
behind c (suc n) (x ∷ xs) e = by (x == c) (behind c n xs e)
  where
    by : (b : Bool) → is_among c xs ≡ true → (b || is_among c xs) ≡ true
    by true h = refl
    by false h = h

abbrev Small : List Register → Type 0
Small rs = All (λ r. r.number < 64) rs

-- a bit of one or of the other
bit_left : (a b n : ℕ) → bit_at a n ≡ 1 → bit_at (bit_or a b) n ≡ 1
bit_left a b n e = let l = bit_at-lt b n in bit_at_or a b n ∙ (ap (λ x. max x (bit_at b n)) e ∙ at_most (bit_at b n) l)
  where
    at_most : (k : ℕ) → k < 2 → max 1 k ≡ 1
    at_most k l = omega (arith, l)

bit_right : (a b n : ℕ) → bit_at b n ≡ 1 → bit_at (bit_or a b) n ≡ 1
bit_right a b n e = let l = bit_at-lt a n in bit_at_or a b n ∙ (ap (λ x. max (bit_at a n) x) e ∙ at_most (bit_at a n) l)
  where
    at_most : (k : ℕ) → k < 2 → max k 1 ≡ 1
    at_most k l = omega (arith, l)

own_bit : (role : Role) (n : ℕ) → n < 64 → is_general role ≡ true → bit_at (general_bit role n) n ≡ 1
own_bit General n l e = let t : nat_lt n 64 ≡ true = grind (arith, nat_tests, l) in rw t (bit_at-pow_same n)
own_bit Result n l e = false_true e
own_bit Stack n l e = false_true e
own_bit Link n l e = false_true e
own_bit Other n l e = false_true e

has_bit : (c : ℕ) (rs : List Register) → Small rs → is_among c (general_numbers rs) ≡ true → bit_at (general_bits rs) c ≡ 1
has_bit c [] small e = false_true e
has_bit c (r ∷ rs) small e = by (is_general r.role) refl (has_bit c rs (All-tail (λ r. r.number < 64) r rs small)) e
  where
    first : is_general r.role ≡ true → r.number ≡ c → bit_at (general_bits (r ∷ rs)) c ≡ 1
    first g s =
        bit_left (general_bit r.role r.number) (general_bits rs) c
        (subst (λ n. bit_at (general_bit r.role r.number) n ≡ 1) s (own_bit r.role r.number (All-head (λ r. r.number < 64) r rs small) g))

    by : (b : Bool) → is_general r.role ≡ b → (is_among c (general_numbers rs) ≡ true → bit_at (general_bits rs) c ≡ 1)
        → is_among c (if b then r.number ∷ general_numbers rs else general_numbers rs) ≡ true → bit_at (general_bits (r ∷ rs)) c ≡ 1
    by true g ih k = or_cases (r.number == c) (is_among c (general_numbers rs)) k (λ f. first g (eqb-true r.number c f))
        (λ f. bit_right (general_bit r.role r.number) (general_bits rs) c (ih f))
    by false g ih k = bit_right (general_bit r.role r.number) (general_bits rs) c (ih k)

abbrev AreGeneralIn : RawDescription → Type 0
AreGeneralIn d = (c : ℕ) → is_among c (colors_of d) ≡ true → is_in (general_set d.registers) c ≡ true

general_in : (w : ℕ) (d : RawDescription) → SaidIsLimited → BitsAreSum → (h : IsChecked w d) → AreGeneralIn (normalised h.said)
general_in w d limited sums h c e =
    let l = limited h.text h.said h.accepted.says in
    let rs = h.said.registers in
    eq-eqb (bit_at (general_set rs) c) 1
    (ap (λ g. bit_at g c) (sym (sums rs l.numbers l.apart)) ∙ has_bit c rs l.numbers (behind c (most_registers (normalised h.said).rows) (general_numbers rs) e))

pub colors_are_general : SaidIsLimited → BitsAreSum → ColorsAreGeneral
colors_are_general limited sums w d frame kept r seats h coloring k c e =
    subst AreGeneralIn (sym h.normal) (general_in w d limited sums h) c (coloring.among k c e)
