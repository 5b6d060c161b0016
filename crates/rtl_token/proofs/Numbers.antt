-- Reading digits.
use Rattle.std.proofs.Common.{◌≡◌, ℕ, ◌+◌, ◌-◌, ◌*◌, ◌^◌, ◌<◌, List, length, get_or, take, true, arith}
use Rattle.std.proofs.lemmas.Int.Digits.{digits_value_more}
use Rattle.std.proofs.lemmas.Str.{digit_value_digit}
use Rattle.std.proofs.lemmas.Bool.{and_parts, leb-true}
use Rattle.std.specs.Char.{is_ascii_digit, digit_value}
use Rattle.std.specs.Int.{IsInRange}
use Rattle.std.specs.Prelude.{min}
use Rattle.std.specs.Str.Parse.{digits_value}

pub digit_range : (b : ℕ) → is_ascii_digit b ≡ true → IsInRange 48 57 b
digit_range b h = (omega (arith, leb-true 48 b (and_parts _ _ h).0), omega (arith, leb-true b 57 (and_parts _ _ h).1))

-- one more digit of a number that counts no higher than a limit
pub one_digit : (text : List ℕ) (n v : ℕ) → v ≡ min (digits_value 10 (take n text)) (2 ^ 33) → n < length text → is_ascii_digit (get_or text n 0) ≡ true → min (v * 10 + (get_or text n 0 - 48)) (2 ^ 33) ≡ min (digits_value 10 (take (n + 1) text)) (2 ^ 33)
one_digit text n v e l digit =
    let range : IsInRange 48 57 (get_or text n 0) = digit_range (get_or text n 0) digit in
    let worth : digit_value (get_or text n 0) + 48 ≡ get_or text n 0 = digit_value_digit (get_or text n 0) range in
    let more : digits_value 10 (take (n + 1) text) ≡ digits_value 10 (take n text) * 10 + digit_value (get_or text n 0) = digits_value_more 10 text n l in
    omega (arith, range.0, range.1)
