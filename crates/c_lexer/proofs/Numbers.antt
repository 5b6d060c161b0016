-- The value of digits, one digit more at a time.
use Rattle.std.proofs.Common.{◌≡◌, ℕ, ◌+◌, ◌*◌, ◌<◌, ◌≤◌, ◌⊎◌, refl, min, List, length, take, get_or, sym, ◌∙◌, ap, arith, inl, inr}
use Rattle.std.proofs.lemmas.List.Sums.{fold_more}
use Rattle.std.proofs.Math.Nat.{mul-le-mul_left}
use Rattle.std.proofs.lemmas.Bool.{cases_lt}
use Rattle.c_lexer.specs.Constants.{digit_of, value_of, number_of}

-- what was capped before a digit is capped behind it as what wasn't
capped : (v b d : ℕ) → 0 < b → min (v * b + d) 4294967296 ≡ min (min v 4294967296 * b + d) 4294967296
capped v b d h =
    let at_least : v * 1 ≤ v * b = mul-le-mul_left v (omega arith) in
    let cases : (v < 4294967296) ⊎ (4294967296 ≤ v) = cases_lt v 4294967296 in
    elim cases [
      | inl small ↦ let same : min v 4294967296 ≡ v = omega arith in rw same refl
      | inr large ↦ let same : min v 4294967296 ≡ 4294967296 = omega arith in rw same (omega arith)
    ]

pub number_more : (base : ℕ) (digits : List ℕ) (i : ℕ) → 0 < base → i < length digits →
    number_of base (take (i + 1) digits) ≡ min (number_of base (take i digits) * base + digit_of (get_or digits i 0)) 4294967296
number_more base digits i h k =
    let more : value_of base (take (i + 1) digits) ≡ value_of base (take i digits) * base + digit_of (get_or digits i 0)
    = fold_more (λ v b. v * base + digit_of b) 0 digits i 0 k in
    ap (λ v. min v 4294967296) more ∙ capped (value_of base (take i digits)) base (digit_of (get_or digits i 0)) h
