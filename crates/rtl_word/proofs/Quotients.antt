-- Quotients and remainders of signed words.
use Rattle.std.proofs.Common.{◌≡◌, ℕ, ◌^◌, ◌<◌, Some, arith, ap}
use Rattle.std.proofs.lemmas.Bool.Decides.{nat_tests}
use Rattle.std.proofs.lemmas.Int.{ints}
use Rattle.rtl_word.specs.Laws.{DividesByMagnitudes, RemainsByMagnitudes}
use Rattle.rtl_word.specs.Words.{IsWordSize, word_div, word_divu, word_of_signed, word_signed}
use Rattle.rtl_word.proofs.Below.{by_size}

pub div_one : (w a : ℕ) → IsWordSize w → a < 2 ^ w → word_div w a 1 ≡ Some a
div_one w a z = by_size (λ n. a < 2 ^ n → word_div n a 1 ≡ Some a) (λ h. grind (arith, nat_tests, ints)) (λ h. grind (arith, nat_tests, ints)) w z

pub divu_one : (a : ℕ) → word_divu a 1 ≡ Some a
divu_one a = ap Some (omega arith)

-- the signed reading gives the word back
pub of_signed : (w a : ℕ) → IsWordSize w → a < 2 ^ w → word_of_signed w (word_signed w a) ≡ a
of_signed w a z = by_size (λ n. a < 2 ^ n → word_of_signed n (word_signed n a) ≡ a) (λ h. grind (arith, nat_tests, ints)) (λ h. grind (arith, nat_tests, ints)) w z

div_signs_16 : DividesByMagnitudes 16
div_signs_16 a b h k e = grind (arith, nat_tests, ints)

rem_signs_16 : RemainsByMagnitudes 16
rem_signs_16 a b h k e = grind (arith, nat_tests, ints)

div_signs_32 : DividesByMagnitudes 32
div_signs_32 a b h k e = grind (arith, nat_tests, ints)

rem_signs_32 : RemainsByMagnitudes 32
rem_signs_32 a b h k e = grind (arith, nat_tests, ints)

pub div_signs : (w : ℕ) → IsWordSize w → DividesByMagnitudes w
div_signs = by_size DividesByMagnitudes div_signs_16 div_signs_32

pub rem_signs : (w : ℕ) → IsWordSize w → RemainsByMagnitudes w
rem_signs = by_size RemainsByMagnitudes rem_signs_16 rem_signs_32
