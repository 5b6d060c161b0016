-- The word for which a number hole prints a number, and the number that a text is.
use Rattle.std.proofs.Common.{◌≡◌, ◌⊎◌, inl, inr, ℕ, zero, suc, ◌+◌, ◌-◌, ◌^◌, ◌<◌, ◌≤◌, ℤ, pos, negsuc, Bool, true, false, List, [], ◌∷◌, ◌++◌, length, drop, Option, Some, None, refl, sym, ap, subst, ◌∙◌, arith, length-append}
use Rattle.std.specs.Prelude.{decimal, int_lt, unsigned_abs, MatchOption}
use Rattle.asm_token.specs.Tokens.{Token, Number as NumberToken, LongestToken, BeginsNoToken, spelling}
use Rattle.asm_token.proofs.Steps.{same_token}
use Rattle.md_rows.specs.Fits.{printed, turned, below_zero}
use Rattle.asm_row.specs.Found.{IsCandidate, IsWordOf, IsDecimal, IsNumberToken}
use Rattle.asm_row.proofs.HoleValues.{Choice, choice, turned_below, same_pos, same_neg, not_both_signs}

module _ (w : ℕ) (low high : ℤ) (inverted : Bool) (z : ℤ) where
  from_choice : (v : ℕ) → v < 2 ^ w → Choice w low high inverted v z → IsCandidate w z (turned w inverted v)
  from_choice v h (inl a) = (turned_below w inverted v h, inl a.1)
  from_choice v h (inr a) = (turned_below w inverted v h, inr a.1)

  pub candidate_of : (v : ℕ) → IsWordOf w low high inverted z v → IsCandidate w z (turned w inverted v)
  candidate_of v h = from_choice v h.0 (choice w low high inverted v z h.1)

  either_once : (t u : ℕ) → t < 2 ^ w → u < 2 ^ w → (pos t ≡ z) ⊎ (below_zero w t ≡ z) → (pos u ≡ z) ⊎ (below_zero w u ≡ z) → t ≡ u
  either_once t u h k (inl a) (inl b) = same_pos t u (a ∙ sym b)
  either_once t u h k (inl a) (inr b) = absurd (not_both_signs t (2 ^ w - suc u) (a ∙ sym b))
  either_once t u h k (inr a) (inl b) = absurd (not_both_signs u (2 ^ w - suc t) (b ∙ sym a))
  either_once t u h k (inr a) (inr b) = let e = same_neg (2 ^ w - suc t) (2 ^ w - suc u) (a ∙ sym b) in omega (arith, e, h, k)

  pub candidate_once : (t u : ℕ) → IsCandidate w z t → IsCandidate w z u → t ≡ u
  candidate_once t u a b = either_once t u a.0 b.0 a.1 b.1

  turned_twice : (b : Bool) (v : ℕ) → v < 2 ^ w → turned w b (turned w b v) ≡ v
  turned_twice true v h = omega (arith, h)
  turned_twice false v h = refl

  pub no_word : ((t : ℕ) → IsCandidate w z t → ⊥) → (v : ℕ) → IsWordOf w low high inverted z v → ⊥
  no_word none v h = none (turned w inverted v) (candidate_of v h)

  pub no_other_word : (t : ℕ) → IsCandidate w z t → (printed w low high inverted (turned w inverted t) ≡ Some z → ⊥) → (v : ℕ)
      → IsWordOf w low high inverted z v → ⊥
  no_other_word t c none v h =
      let e : turned w inverted v ≡ t = candidate_once (turned w inverted v) t (candidate_of v h) c in
      let f : v ≡ turned w inverted t = sym (turned_twice inverted v h.0) ∙ ap (turned w inverted) e in
      none (ap (printed w low high inverted) (sym f) ∙ h.1)

-- a text that is the decimals of a number begins with the token of that number, and ends with it

pub record Whole (text : List ℕ) (t : Token) (n b : ℕ) : Type 0 where
  pub token : t ≡ NumberToken (pos b)
  pub all : n ≡ length text

pub whole : (text : List ℕ) (t : Token) (n b : ℕ) → LongestToken text t n → IsDecimal text b → Whole text t n b
whole text t n b l d =
    let u : Token = NumberToken (pos b) in
    let more : drop n text ≡ drop n text = refl in
    let here : spelling t ++ drop n text ≡ spelling u ++ [] = sym l.spelled ∙ d.1 ∙ sym (nothing (decimal b)) in
    let most : length (spelling u) ≤ length (spelling t) = l.longest.at_least u [] (let k = d.0 in omega (arith, k)) here in
    let size : length text ≡ length (spelling u) = ap length d.1 in
    let sum : length text ≡ length (spelling t) + length (drop n text) = ap length l.spelled ∙ length-append (spelling t) (drop n text) in
    let none : length (drop n text) ≡ 0 = omega (arith, most, size, sum) in
    let same : spelling t ≡ spelling u = sym (nothing (spelling t)) ∙ ap (λ (xs : List ℕ). spelling t ++ xs) (sym (empty (drop n text) none)) ∙ sym l.spelled ∙ d.1 in
    record {
      token = same_token t u l.is_token (let k = d.0 in omega (arith, k)) same;
      all = omega (arith, l.bytes, sum, none);
    } where
      nothing : (xs : List ℕ) → xs ++ [] ≡ xs
      nothing [] = refl
      nothing (x ∷ xs) = ap (λ (ys : List ℕ). x ∷ ys) (nothing xs)

      empty : (xs : List ℕ) → length xs ≡ 0 → xs ≡ []
      empty [] e = refl
      empty (x ∷ xs) e = absurd (let k : suc (length xs) ≡ 0 = e in omega (arith, k))

dec_token : (text : List ℕ) (b : ℕ) → BeginsNoToken text → IsDecimal text b → ⊥
dec_token text b h d = h (NumberToken (pos b)) [] (let k = d.0 in omega (arith, k)) (d.1 ∙ sym (nothing (decimal b))) where
  nothing : (xs : List ℕ) → xs ++ [] ≡ xs
  nothing [] = refl
  nothing (x ∷ xs) = ap (λ (ys : List ℕ). x ∷ ys) (nothing xs)

pub no_decimal : (text : List ℕ) → BeginsNoToken text → (b : ℕ) → IsDecimal text b → ⊥
no_decimal text h b d = dec_token text b h d

pub other_length : (text : List ℕ) (t : Token) (n : ℕ) → LongestToken text t n → (n ≡ length text → ⊥) → (b : ℕ) → IsDecimal text b → ⊥
other_length text t n l never b d = never (whole text t n b l d).all

pub decimal_from : (text : List ℕ) (n b : ℕ) → LongestToken text (NumberToken (pos b)) n → n ≡ length text → b < 2 ^ 32 → IsDecimal text b
decimal_from text n b l e h =
    let gone : drop n text ≡ [] = all_gone n text (omega (arith, e)) in
    (h, l.spelled ∙ ap (λ (xs : List ℕ). decimal b ++ xs) gone ∙ nothing (decimal b)) where
      nothing : (xs : List ℕ) → xs ++ [] ≡ xs
      nothing [] = refl
      nothing (x ∷ xs) = ap (λ (ys : List ℕ). x ∷ ys) (nothing xs)

      all_gone : (m : ℕ) (xs : List ℕ) → length xs ≤ m → drop m xs ≡ []
      all_gone zero [] k = refl
      all_gone (suc m) [] k = refl
      all_gone zero (x ∷ xs) k = absurd (let q : suc (length xs) ≤ 0 = k in omega (arith, q))
      all_gone (suc m) (x ∷ xs) k = all_gone m xs (let q : suc (length xs) ≤ suc m = k in omega (arith, q))

pub number_match : (text : List ℕ) (t : Token) (n : ℕ) (r : Option ℕ) → LongestToken text t n → n ≡ length text
    → MatchOption r ((b : ℕ) → IsNumberToken t b → ⊥) (λ b. IsNumberToken t b) → MatchOption r ((b : ℕ) → IsDecimal text b → ⊥) (λ b. IsDecimal text b)
number_match text t n None l e m = λ b d. m b (d.0, (whole text t n b l d).token)
number_match text t n (Some b) l e m = decimal_from text n b (subst (λ (u : Token). LongestToken text u n) m.1 l) e m.0

-- a number from 0 on

pub above : (w : ℕ) (z : ℤ) (size : ℕ) (r : Option ℕ) → size ≡ unsigned_abs z → int_lt z (pos 0) ≡ false
    → MatchOption r ((t : ℕ) → IsCandidate w (pos size) t → ⊥) (λ t. IsCandidate w (pos size) t)
    → MatchOption r ((t : ℕ) → IsCandidate w z t → ⊥) (λ t. IsCandidate w z t)
above w (pos n) size r e f m =
    subst (λ (k : ℕ). MatchOption r ((t : ℕ) → IsCandidate w (pos k) t → ⊥) (λ t. IsCandidate w (pos k) t)) e m
above w (negsuc n) size r e f m = absurd (let q : true ≡ false = f in cc)

pub word_match : (w : ℕ) (low high : ℤ) (inverted : Bool) (z : ℤ) (t word : ℕ) (r : Option ℕ) → IsCandidate w z t → word ≡ turned w inverted t
    → MatchOption r (printed w low high inverted word ≡ Some z → ⊥) (λ v. (v ≡ word) × (printed w low high inverted word ≡ Some z))
    → MatchOption r ((v : ℕ) → IsWordOf w low high inverted z v → ⊥) (λ v. IsWordOf w low high inverted z v)
word_match w low high inverted z t word None c e m =
    no_other_word w low high inverted z t c (λ p. m (ap (printed w low high inverted) e ∙ p))
word_match w low high inverted z t word (Some v) c e m =
    subst (IsWordOf w low high inverted z) (sym m.0) (subst (λ (x : ℕ). x < 2 ^ w) (sym e) (turned_below w inverted t c.0), m.1)
