-- The bits of the general registers, gathered from the first on.
use Rattle.std.proofs.Common.{◌≡◌, ℕ, suc, ◌+◌, ◌<◌, List, ◌∷◌, drop, length, get_or, bit_or, sym, ap, arith, ◌∙◌, drop-cons}
use Rattle.std.proofs.lemmas.Nat.Bits.{bit_at-zero, bit_at_or, same_from_bits}
use Rattle.rtl_word.proofs.Bitwise.{or_assoc}
use Rattle.md_rows.specs.declared.description.Register.{Register}
use Rattle.md_covers.specs.Covers.{general_bit, general_bits}

pub or_nothing : (n : ℕ) → bit_or n 0 ≡ n
or_nothing n = same_from_bits (bit_or n 0) n (λ i.
    (simp (bit_at_or, bit_at-zero) (omega arith)))

pub bits_step : (rs : List Register) (i : ℕ) (x : Register) (bits : ℕ) → i < length rs
    → bit_or (bit_or bits (general_bit (get_or rs i x).role (get_or rs i x).number)) (general_bits (drop (i + 1) rs))
    ≡ bit_or bits (general_bits (drop i rs))
bits_step rs i x bits l =
    let d : drop i rs ≡ get_or rs i x ∷ drop (suc i) rs = drop-cons rs i x l in
    let j : suc i ≡ i + 1 = omega arith in
    let e : general_bits (drop i rs) ≡ bit_or (general_bit (get_or rs i x).role (get_or rs i x).number) (general_bits (drop (i + 1) rs)) =
    ap general_bits d ∙ ap (λ n. bit_or (general_bit (get_or rs i x).role (get_or rs i x).number) (general_bits (drop n rs))) j in
    or_assoc bits (general_bit (get_or rs i x).role (get_or rs i x).number) (general_bits (drop (i + 1) rs)) ∙ ap (bit_or bits) (sym e)

pub bits_next : (rs : List Register) (i : ℕ) (r : Register) (bits : ℕ) → i < length rs → r ≡ get_or rs i r
    → bit_or (bit_or bits (general_bit r.role r.number)) (general_bits (drop (i + 1) rs)) ≡ bit_or bits (general_bits (drop i rs))
bits_next rs i r bits l e =
    let s = bits_step rs i r bits l in
    ap (λ x. bit_or (bit_or bits (general_bit x.role x.number)) (general_bits (drop (i + 1) rs))) e ∙ s
