-- The classes of bytes are apart.
use Rattle.std.proofs.Common.{◌≡◌, ℕ, ◌<◌, true, false, eqb, arith}
use Rattle.std.proofs.lemmas.Bool.{and_parts, leb-true, or_left, or_right, or_parts}
use Rattle.std.proofs.lemmas.Bool.Decides.{nat_tests}
use Rattle.std.specs.Char.{is_ascii_digit}
use Rattle.asm_token.specs.Tokens.{is_name_start, is_name_byte, is_mark}
use Rattle.std.specs.Int.{IsInRange}
use Rattle.asm_token.specs.Length.{is_nonzero_digit}

pub start_is_name : (b : ℕ) → is_name_start b ≡ true → is_name_byte b ≡ true
start_is_name b h = or_left _ _ h

pub digit_is_name : (b : ℕ) → is_ascii_digit b ≡ true → is_name_byte b ≡ true
digit_is_name b h = or_right _ _ h

pub digit_no_start : (b : ℕ) → is_ascii_digit b ≡ true → is_name_start b ≡ false
digit_no_start b h = grind (arith, nat_tests)

pub mark_no_start : (b : ℕ) → is_mark b ≡ true → is_name_start b ≡ false
mark_no_start b h = grind (arith, nat_tests)

pub digit_no_mark : (b : ℕ) → is_ascii_digit b ≡ true → is_mark b ≡ false
digit_no_mark b h = grind (arith, nat_tests)

pub mark_no_name : (b : ℕ) → is_mark b ≡ true → is_name_byte b ≡ false
mark_no_name b h = grind (arith, nat_tests)

pub nonzero_no_zero : (b : ℕ) → is_nonzero_digit b ≡ true → eqb b 48 ≡ false
nonzero_no_zero b h = grind (arith, nat_tests)

pub digit_no_minus : (b : ℕ) → is_ascii_digit b ≡ true → eqb b 45 ≡ false
digit_no_minus b h = grind (arith, nat_tests)

pub nonzero_is_digit : (b : ℕ) → is_nonzero_digit b ≡ true → is_ascii_digit b ≡ true
nonzero_is_digit b h = (and_parts _ _ h).0

pub digit_above : (b : ℕ) → is_ascii_digit b ≡ true → 48 < b → is_nonzero_digit b ≡ true
digit_above b h l = grind (arith, nat_tests)

pub no_name_no_digit : (b : ℕ) → is_name_byte b ≡ false → is_ascii_digit b ≡ false
no_name_no_digit b h = (or_parts (is_name_start b) (is_ascii_digit b) h).1

pub digit_range : (b : ℕ) → is_ascii_digit b ≡ true → IsInRange 48 57 b
digit_range b h = (omega (arith, leb-true 48 b (and_parts _ _ h).0), omega (arith, leb-true b 57 (and_parts _ _ h).1))
