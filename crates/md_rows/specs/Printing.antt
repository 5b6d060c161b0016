-- Which number a number hole prints for a value.
use Rattle.std.specs.Prelude.{◌≡◌, ℕ, ◌-◌, ◌^◌, ◌<◌, Bool, IsTrue, Some, ℤ, pos, negsuc, int_le}
use Rattle.std.specs.Int.{int_gap}
use Rattle.rtl_word.specs.Words.{IsWordSize}
use Rattle.md_rows.specs.Fits.{within, value_of_number, printed}

-- a range of numbers that a hole may have: some, no more than there are words, and none that is no reading of a word
pub record IsLegalRange (w : ℕ) (low high : ℤ) : Type 0 where
  pub some : IsTrue (int_le low high)
  pub few : int_gap low high < 2 ^ w
  pub least : IsTrue (int_le (negsuc (2 ^ (w - 1) - 1)) low)
  pub most : IsTrue (int_le high (pos (2 ^ w - 1)))

-- p is in the range, and its value is v
pub record IsNumberOf (w : ℕ) (low high : ℤ) (inverted : Bool) (v : ℕ) (p : ℤ) : Type 0 where
  pub in_range : IsTrue (within low high p)
  pub value : value_of_number w inverted p ≡ v

-- over a legal range the number that is printed for a word is just that of the range whose value is the word
abbrev pub PrintsNumberOf : Type 0
PrintsNumberOf =
    (w : ℕ) (low high : ℤ) (inverted : Bool) (v : ℕ) (p : ℤ) → IsWordSize w → IsLegalRange w low high → v < 2 ^ w
    → (printed w low high inverted v ≡ Some p → IsNumberOf w low high inverted v p)
    × (IsNumberOf w low high inverted v p → printed w low high inverted v ≡ Some p)
