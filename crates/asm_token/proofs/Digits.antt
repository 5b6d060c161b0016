-- Reading the leading digits of a text.
use Rattle.std.proofs.Common.{◌≡◌, ℕ, ◌+◌, ◌-◌, ◌*◌, ◌^◌, ◌<◌, ◌≤◌, true, List, length, get_or, take, drop, arith, add-one}
use Rattle.std.proofs.Math.Nat.{pow-suc}
use Rattle.std.proofs.lemmas.Int.Digits.{digits_value_more}
use Rattle.std.proofs.lemmas.List.Sums.{prefix_len-drop_yes}
use Rattle.std.proofs.lemmas.Str.{digit_value_digit}
use Rattle.std.specs.Char.{is_ascii_digit, digit_value}
use Rattle.std.specs.Int.{IsInRange}
use Rattle.std.specs.List.{prefix_len}
use Rattle.std.specs.Str.Parse.{digits_value}
use Rattle.asm_token.proofs.Bytes.{digit_range}

-- the first n bytes are digits, ten at most, and spell v
pub record DigitsTo (text : List ℕ) (n v : ℕ) : Type 0 where
  pub few : n ≤ 10
  pub within : n ≤ length text
  pub counted : n + prefix_len is_ascii_digit (drop n text) ≡ prefix_len is_ascii_digit text
  pub value : v ≡ digits_value 10 (take n text)
  pub below : v < 10 ^ n

power_step : (n v d : ℕ) → v < 10 ^ n → d < 10 → v * 10 + d < 10 ^ (n + 1)
power_step n v d l k = rw (add-one, pow-suc) (omega arith)

pub one_digit : (text : List ℕ) (n v : ℕ) → DigitsTo text n v → n < 10 → n < length text → is_ascii_digit (get_or text n 0) ≡ true → DigitsTo text (n + 1) (v * 10 + (get_or text n 0 - 48))
one_digit text n v h few l digit =
    let range : IsInRange 48 57 (get_or text n 0) = digit_range (get_or text n 0) digit in
    let low : 48 ≤ get_or text n 0 = range.0 in
    let high : get_or text n 0 ≤ 57 = range.1 in
    let worth : digit_value (get_or text n 0) + 48 ≡ get_or text n 0 = digit_value_digit (get_or text n 0) range in
    let more : digits_value 10 (take (n + 1) text) ≡ digits_value 10 (take n text) * 10 + digit_value (get_or text n 0) = digits_value_more 10 text n l in
    let count : prefix_len is_ascii_digit (drop n text) ≡ 1 + prefix_len is_ascii_digit (drop (n + 1) text) = prefix_len-drop_yes is_ascii_digit text n 0 l digit in
    let value : v ≡ digits_value 10 (take n text) = h.value in
    let counted : n + prefix_len is_ascii_digit (drop n text) ≡ prefix_len is_ascii_digit text = h.counted in
    record { few = omega arith; within = omega arith; counted = omega arith; value = omega arith; below = power_step n v (get_or text n 0 - 48) h.below (omega arith) }
