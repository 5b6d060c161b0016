-- Shifts.
use Rattle.std.proofs.Common.{◌≡◌, ℕ, ◌^◌, ◌<◌, Some, arith, ap}
use Rattle.std.proofs.lemmas.Bool.Decides.{nat_tests}
use Rattle.std.proofs.lemmas.Int.{ints}
use Rattle.rtl_word.specs.Words.{IsWordSize, word_mul, word_shl, word_shr, word_shru}
use Rattle.rtl_word.proofs.Below.{by_size}

pub shl_none : (w a : ℕ) → IsWordSize w → a < 2 ^ w → word_shl w a 0 ≡ Some a
shl_none w a z = by_size (λ n. a < 2 ^ n → word_shl n a 0 ≡ Some a) (λ h. ap Some (omega arith)) (λ h. ap Some (omega arith)) w z

pub shru_none : (w a : ℕ) → IsWordSize w → word_shru w a 0 ≡ Some a
shru_none w a z = by_size (λ n. word_shru n a 0 ≡ Some a) (ap Some (omega arith)) (ap Some (omega arith)) w z

pub shr_none : (w a : ℕ) → IsWordSize w → a < 2 ^ w → word_shr w a 0 ≡ Some a
shr_none w a z =
    by_size (λ n. a < 2 ^ n → word_shr n a 0 ≡ Some a) (λ h. ap Some (grind (arith, nat_tests, ints))) (λ h. ap Some (grind (arith, nat_tests, ints))) w z

-- a shift to the left is a product with a power of two
pub shl_mul : (w a b : ℕ) → b < w → word_shl w a b ≡ Some (word_mul w a (2 ^ b))
shl_mul w a b h = grind (arith, nat_tests)
