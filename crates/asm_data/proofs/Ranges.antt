-- The numbers of directives that are in their place.
use Rattle.std.proofs.Common.{◌≡◌, ℕ, ◌-◌, ◌/◌, ◌^◌, ◌<◌, ◌≤◌, ℤ, pos, negsuc, true, List, inl, inr, sym, subst, arith}
use Rattle.std.specs.Prelude.{nat_lt}
use Rattle.std.proofs.lemmas.Bool.{ltb-true}
use Rattle.rtl_word.specs.Words.{IsWordSize}
use Rattle.asm_token.specs.Tokens.{Token}
use Rattle.asm_program.specs.declared.places.Part.TheVariants.{InData}
use Rattle.asm_program.specs.Places.{magnitude}
use Rattle.asm_program.specs.Rules.{is_between, is_in_place}
use Rattle.asm_program.specs.Programs.{residue}
use Rattle.asm_labels.specs.declared.saying.Said.{Said as Held}
use Rattle.asm_labels.specs.declared.saying.Said.TheVariants as held
use Rattle.asm_labels.specs.Seen.{seen}
use Rattle.asm_data.specs.Data.{HasNumber}

below : (m n : ℕ) → nat_lt m n ≡ true → m < n
below m n e = ltb-true m n e

-- not above the greater limit
within : (low high most : ℕ) (z : ℤ) → low ≤ most → high ≤ most → is_between low high z ≡ true → magnitude z ≤ most
within low high most (pos n) h k e = let b = below n high e in omega (arith, b)
within low high most (negsuc n) h k e = let b = below n low e in omega (arith, b)

has_byte : (z : ℤ) → is_between 128 256 z ≡ true → residue 256 z < 256
has_byte (pos n) e = below n 256 e
has_byte (negsuc n) e = let b = below n 128 e in omega (arith, b)

word_within : (w : ℕ) (z : ℤ) → IsWordSize w → is_between (2 ^ (w - 1)) (2 ^ w) z ≡ true → magnitude z ≤ 256 ^ (w / 8)
word_within w z (inl h) e =
    subst (λ (v : ℕ). magnitude z ≤ 256 ^ (v / 8)) (sym h)
    (within 32768 65536 65536 z (omega arith) (omega arith) (subst (λ (v : ℕ). is_between (2 ^ (v - 1)) (2 ^ v) z ≡ true) h e))
word_within w z (inr h) e =
    subst (λ (v : ℕ). magnitude z ≤ 256 ^ (v / 8)) (sym h)
    (within 2147483648 4294967296 4294967296 z (omega arith) (omega arith) (subst (λ (v : ℕ). is_between (2 ^ (v - 1)) (2 ^ v) z ≡ true) h e))

pub in_range : (w : ℕ) (h : Held) (ts : List Token) → IsWordSize w → is_in_place w InData (seen h ts) ≡ true → HasNumber (w / 8) h
in_range w (held.Word z) ts s e = word_within w z s e
in_range w (held.Byte z) ts s e = record { size = within 128 256 256 z (omega arith) (omega arith) e; byte = has_byte z e }
in_range w (held.Space z) ts s e = let b = within 0 16777217 16777217 z (omega arith) (omega arith) e in omega (arith, b)
in_range w held.Nothing ts s e = tt
in_range w _ ts s e = tt
