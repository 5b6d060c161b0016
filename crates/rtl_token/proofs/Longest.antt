-- The longest token with which a text begins.
use Rattle.std.proofs.Common.{◌≡◌, ℕ, ◌+◌, ◌<◌, ◌≤◌, suc, zero, Bool, true, false, eqb, List, [], ◌∷◌, ◌++◌, length, take, drop, refl, sym, ap, ◌∙◌, arith, inl, inr}
use Rattle.std.proofs.lemmas.Bool.{cases_Bool, and_parts, ne_eqb, eqb-true}
use Rattle.std.proofs.lemmas.Bool.Decides.{nat_tests}
use Rattle.std.proofs.lemmas.List.{length-take-le, take-append-drop}
use Rattle.std.proofs.lemmas.List.Elements.{All-nil, All-cons}
use Rattle.std.specs.Char.{is_ascii_digit}
use Rattle.std.specs.List.{AllPass, prefix_len}
use Rattle.std.specs.Prelude.{codes}
use Rattle.asm_token.specs.Tokens.{IsName, is_name_start, is_name_byte}
use Rattle.asm_token.proofs.Bytes.{start_is_name}
use Rattle.asm_token.proofs.Lengths.{prefix_at_least}
use Rattle.rtl_spelling.specs.declared.signs.Sign.{Sign}
use Rattle.rtl_spelling.specs.declared.signs.Sign.TheVariants as sign
use Rattle.rtl_spelling.specs.Tokens.{Token, Word, Number, Mark, is_nonzero_digit, IsMagnitude, IsNumber, sign_bytes, spelling, IsToken, Longest}
use Rattle.rtl_token.specs.Length.{word_length, magnitude_length, negative_length, number_length, is_mark, minus_length, mark_length, token_length, LongestToken}

nonzero_is_digit : (b : ℕ) → is_nonzero_digit b ≡ true → is_ascii_digit b ≡ true
nonzero_is_digit b h = (and_parts _ _ h).0

-- each token is at most as long as the longest of its kind

word_is : (b : ℕ) (bs : List ℕ) → is_name_start b ≡ true → word_length (b ∷ bs) ≡ prefix_len is_name_byte (b ∷ bs)
word_is b bs h = rw h

word_at_most : (bs more : List ℕ) → IsName bs → length bs ≤ word_length (bs ++ more)
word_at_most [] more h = absurd h
word_at_most (b ∷ bs) more h =
    let all : AllPass is_name_byte (b ∷ bs) = All-cons (λ y. is_name_byte y ≡ true) b bs (start_is_name b h.0) h.1 in
    rw (word_is b (bs ++ more) h.0) (prefix_at_least is_name_byte (b ∷ bs) more all)

magnitude_is : (b : ℕ) (bs : List ℕ) → is_nonzero_digit b ≡ true → magnitude_length (b ∷ bs) ≡ prefix_len is_ascii_digit (b ∷ bs)
magnitude_is b bs h = rw h

magnitude_at_most : (bs more : List ℕ) → IsMagnitude bs → length bs ≤ magnitude_length (bs ++ more)
magnitude_at_most [] more h = absurd h
magnitude_at_most (b ∷ bs) more h =
    let all : AllPass is_ascii_digit (b ∷ bs) = All-cons (λ y. is_ascii_digit y ≡ true) b bs (nonzero_is_digit b h.0) h.1 in
    rw (magnitude_is b (bs ++ more) h.0) (prefix_at_least is_ascii_digit (b ∷ bs) more all)

some_magnitude : (bs : List ℕ) → IsMagnitude bs → 0 < length bs
some_magnitude [] h = absurd h
some_magnitude (b ∷ bs) h = omega arith

nonzero_no_zero : (b : ℕ) → is_nonzero_digit b ≡ true → eqb b 48 ≡ false
nonzero_no_zero b h = grind (arith, nat_tests)

nonzero_no_minus : (b : ℕ) → is_nonzero_digit b ≡ true → eqb b 45 ≡ false
nonzero_no_minus b h = grind (arith, nat_tests)

positive_is : (b : ℕ) (bs : List ℕ) → is_nonzero_digit b ≡ true → number_length (b ∷ bs) ≡ magnitude_length (b ∷ bs)
positive_is b bs h =
    let z : eqb b 48 ≡ false = nonzero_no_zero b h in
    let m : eqb b 45 ≡ false = nonzero_no_minus b h in
    rw z (rw m)

positive_at_most : (bs more : List ℕ) → IsMagnitude bs → length bs ≤ number_length (bs ++ more)
positive_at_most [] more h = absurd h
positive_at_most (b ∷ bs) more h = rw (positive_is b (bs ++ more) h.0) (magnitude_at_most (b ∷ bs) more h)

negative_more : (n : ℕ) → 0 < n → negative_length n ≡ n + 1
negative_more n l = let e : eqb n 0 ≡ false = ne_eqb n 0 (λ z. omega arith) in rw e

number_at_most : (bs more : List ℕ) → IsNumber bs → length bs ≤ number_length (bs ++ more)
number_at_most bs more (inl e) = rw e (omega arith)
number_at_most bs more (inr (inl h)) = positive_at_most bs more h
number_at_most bs more (inr (inr (ds, e, h))) =
    let some : 0 < length ds = some_magnitude ds h in
    let most : length ds ≤ magnitude_length (ds ++ more) = magnitude_at_most ds more h in
    let count : negative_length (magnitude_length (ds ++ more)) ≡ magnitude_length (ds ++ more) + 1 = negative_more (magnitude_length (ds ++ more)) (omega arith) in
    rw e (rw count (omega arith))

minus_some : (bs : List ℕ) → 1 ≤ minus_length bs
minus_some [] = omega arith
minus_some (b ∷ bs) = elim (cases_Bool (eqb b 62)) [ inl e ↦ rw e (omega arith) | inr e ↦ rw e (omega arith) ]

sign_at_most : (s : Sign) (more : List ℕ) → length (sign_bytes s) ≤ mark_length (sign_bytes s ++ more)
sign_at_most sign.Space more = omega arith
sign_at_most sign.LeftBracket more = omega arith
sign_at_most sign.RightBracket more = omega arith
sign_at_most sign.LeftParen more = omega arith
sign_at_most sign.RightParen more = omega arith
sign_at_most sign.Semicolon more = omega arith
sign_at_most sign.Equals more = omega arith
sign_at_most sign.Plus more = omega arith
sign_at_most sign.Minus more = minus_some more
sign_at_most sign.Star more = omega arith
sign_at_most sign.Ampersand more = omega arith
sign_at_most sign.Bar more = omega arith
sign_at_most sign.Caret more = omega arith
sign_at_most sign.Question more = omega arith
sign_at_most sign.Less more = omega arith
sign_at_most sign.Greater more = omega arith
sign_at_most sign.Arrow more = omega arith
sign_at_most sign.End more = omega arith

-- a token at the front is at most that long
pub token_at_most : (t : Token) (more : List ℕ) → IsToken t → length (spelling t) ≤ token_length (spelling t ++ more)
token_at_most (Word bs) more h = omega (arith, word_at_most bs more h)
token_at_most (Number bs) more h = omega (arith, number_at_most bs more h)
token_at_most (Mark s) more h = omega (arith, sign_at_most s more)

some_sign : (s : Sign) → IsToken (Mark s) → 0 < length (sign_bytes s)
some_sign sign.Space h = omega arith
some_sign sign.LeftBracket h = omega arith
some_sign sign.RightBracket h = omega arith
some_sign sign.LeftParen h = omega arith
some_sign sign.RightParen h = omega arith
some_sign sign.Semicolon h = omega arith
some_sign sign.Equals h = omega arith
some_sign sign.Plus h = omega arith
some_sign sign.Minus h = omega arith
some_sign sign.Star h = omega arith
some_sign sign.Ampersand h = omega arith
some_sign sign.Bar h = omega arith
some_sign sign.Caret h = omega arith
some_sign sign.Question h = omega arith
some_sign sign.Less h = omega arith
some_sign sign.Greater h = omega arith
some_sign sign.Arrow h = omega arith
some_sign sign.End h = absurd h

some_number : (bs : List ℕ) → IsNumber bs → 0 < length bs
some_number bs (inl e) = rw e (omega arith)
some_number bs (inr (inl h)) = some_magnitude bs h
some_number bs (inr (inr (ds, e, h))) = rw e (omega arith)

some_word : (bs : List ℕ) → IsName bs → 0 < length bs
some_word [] h = absurd h
some_word (b ∷ bs) h = omega arith

-- each token has bytes
pub some_bytes : (t : Token) → IsToken t → 0 < length (spelling t)
some_bytes (Word bs) h = some_word bs h
some_bytes (Number bs) h = some_number bs h
some_bytes (Mark s) h = some_sign s h

-- a token of the greatest length is the longest
pub longest_at : (t : Token) (rest : List ℕ) → token_length (spelling t ++ rest) ≤ length (spelling t) → Longest t rest
longest_at t rest l = record {
  at_least = λ u more h e.
      let most : length (spelling u) ≤ token_length (spelling t ++ rest) = rw e (token_at_most u more h) in
      omega arith;
}

longest_token : (text : List ℕ) (t : Token) (n : ℕ) → IsToken t → text ≡ spelling t ++ drop n text → length (spelling t) ≡ n → token_length text ≤ n → LongestToken text t n
longest_token text t n h e l m = record {
  is_token = h;
  spelled = e;
  bytes = l;
  longest = longest_at t (drop n text) (let same : token_length (spelling t ++ drop n text) ≡ token_length text = ap token_length (sym e) in omega arith);
}

-- the kinds are apart by the first byte

passes_more : (p : ℕ → Bool) (b : ℕ) (bs : List ℕ) (n : ℕ) → p b ≡ true → AllPass p (take n bs) → AllPass p (take (1 + n) (b ∷ bs))
passes_more p b bs n e h = let next : 1 + n ≡ suc n = omega arith in rw next (All-cons (λ y. p y ≡ true) b (take n bs) e h)

passes_before : (p : ℕ → Bool) (bs : List ℕ) → AllPass p (take (prefix_len p bs) bs)
passes_before p [] = All-nil (λ y. p y ≡ true)
passes_before p (b ∷ bs) = elim (cases_Bool (p b)) [
  | inl e ↦ rw e (passes_more p b bs (prefix_len p bs) e (passes_before p bs))
  | inr e ↦ rw e (All-nil (λ y. p y ≡ true))
]

start_no_number : (b : ℕ) → is_name_start b ≡ true → (eqb b 48 ≡ false) × (eqb b 45 ≡ false) × (is_ascii_digit b ≡ false) × (is_mark b ≡ false)
start_no_number b h = (grind (arith, nat_tests), grind (arith, nat_tests), grind (arith, nat_tests), grind (arith, nat_tests))

start_alone : (b : ℕ) (bs : List ℕ) → is_name_start b ≡ true → (number_length (b ∷ bs) ≡ 0) × (mark_length (b ∷ bs) ≡ 0)
start_alone b bs h =
    let k = start_no_number b h in
    let zero_no : eqb b 48 ≡ false = k.0 in
    let minus_no : eqb b 45 ≡ false = k.1 in
    let digit_no : is_ascii_digit b ≡ false = k.2 in
    let mark_no : is_mark b ≡ false = k.3 in
    (rw digit_no (rw zero_no (rw minus_no)), rw minus_no (rw mark_no))

name_taken : (b : ℕ) (bs : List ℕ) (n : ℕ) → is_name_start b ≡ true → n ≡ prefix_len is_name_byte bs → IsName (take (1 + n) (b ∷ bs))
name_taken b bs n h e = let next : 1 + n ≡ suc n = omega arith in rw (next, e) (h, passes_before is_name_byte bs)

pub word_found : (text : List ℕ) (n : ℕ) → n ≡ word_length text → 0 < n → n ≤ length text → LongestToken text (Word (take n text)) n
word_found [] n e l m = absurd (omega arith)
word_found (b ∷ bs) n e l m = elim (cases_Bool (is_name_start b)) [
  | inl h ↦
      let start : is_name_byte b ≡ true = start_is_name b h in
      let k : prefix_len is_name_byte (b ∷ bs) ≡ 1 + prefix_len is_name_byte bs = rw start in
      let count : n ≡ 1 + prefix_len is_name_byte bs = e ∙ word_is b bs h ∙ k in
      let alone = start_alone b bs h in
      let token : IsName (take n (b ∷ bs)) = rw count (name_taken b bs (prefix_len is_name_byte bs) h refl) in
      longest_token (b ∷ bs) (Word (take n (b ∷ bs))) n token (sym (take-append-drop n (b ∷ bs))) (length-take-le n (b ∷ bs) m) (omega (arith, alone.0, alone.1))
  | inr h ↦ absurd (let z : word_length (b ∷ bs) ≡ 0 = rw h in omega arith)
]

minus_few : (bs : List ℕ) → minus_length bs ≤ 2
minus_few [] = omega arith
minus_few (b ∷ bs) = elim (cases_Bool (eqb b 62)) [ inl e ↦ rw e (omega arith) | inr e ↦ rw e (omega arith) ]

magnitude_taken : (bs : List ℕ) (n : ℕ) → n ≡ magnitude_length bs → 0 < n → IsMagnitude (take n bs)
magnitude_taken [] n e l = absurd (omega arith)
magnitude_taken (b ∷ bs) n e l = elim (cases_Bool (is_nonzero_digit b)) [
  | inl h ↦
      let digit : is_ascii_digit b ≡ true = nonzero_is_digit b h in
      let k : prefix_len is_ascii_digit (b ∷ bs) ≡ 1 + prefix_len is_ascii_digit bs = rw digit (omega arith) in
      let count : n ≡ 1 + prefix_len is_ascii_digit bs = e ∙ magnitude_is b bs h ∙ k in
      let next : n ≡ suc (prefix_len is_ascii_digit bs) = omega arith in
      rw next (h, passes_before is_ascii_digit bs)
  | inr h ↦ absurd (let z : magnitude_length (b ∷ bs) ≡ 0 = rw h in omega arith)
]

nonzero_no_mark : (b : ℕ) → is_nonzero_digit b ≡ true → is_mark b ≡ false
nonzero_no_mark b h = grind (arith, nat_tests)

nonzero_first : (b : ℕ) (bs : List ℕ) → 0 < magnitude_length (b ∷ bs) → is_nonzero_digit b ≡ true
nonzero_first b bs l = elim (cases_Bool (is_nonzero_digit b)) [
  | inl e ↦ e
  | inr e ↦ absurd (let z : magnitude_length (b ∷ bs) ≡ 0 = rw e in omega arith)
]

number_token : (text : List ℕ) (n : ℕ) → IsNumber (take n text) → n ≡ number_length text → n ≤ length text → word_length text ≡ 0 → mark_length text ≤ n → LongestToken text (Number (take n text)) n
number_token text n h e l w m = longest_token text (Number (take n text)) n h (sym (take-append-drop n text)) (length-take-le n text l) (omega arith)

zero_found : (b : ℕ) (bs : List ℕ) (n : ℕ) → eqb b 48 ≡ true → n ≡ number_length (b ∷ bs) → n ≤ length (b ∷ bs) → word_length (b ∷ bs) ≡ 0 → LongestToken (b ∷ bs) (Number (take n (b ∷ bs))) n
zero_found b bs n h e l w =
    let is : b ≡ 48 = eqb-true b 48 h in
    let none : mark_length (b ∷ bs) ≡ 0 = ap (λ d. mark_length (d ∷ bs)) is in
    let count : n ≡ 1 = e ∙ ap (λ d. number_length (d ∷ bs)) is in
    let front : take n (b ∷ bs) ≡ b ∷ [] = ap (λ k. take k (b ∷ bs)) count in
    let spelled : take n (b ∷ bs) ≡ codes "0" = front ∙ ap (λ d. d ∷ []) is in
    number_token (b ∷ bs) n (inl spelled) e l w (omega arith)

negative_found : (b : ℕ) (bs : List ℕ) (n : ℕ) → eqb b 45 ≡ true → n ≡ number_length (b ∷ bs) → 0 < n → n ≤ length (b ∷ bs) → word_length (b ∷ bs) ≡ 0 → LongestToken (b ∷ bs) (Number (take n (b ∷ bs))) n
negative_found b bs n h e some l w =
    let is : b ≡ 45 = eqb-true b 45 h in
    let m : ℕ = magnitude_length bs in
    let negative : n ≡ negative_length m = e ∙ ap (λ d. number_length (d ∷ bs)) is in
    let marks : mark_length (b ∷ bs) ≡ minus_length bs = ap (λ d. mark_length (d ∷ bs)) is in
    let digits : 0 < m = some_of m n negative some in
    let count : n ≡ suc m = omega (arith, negative_more m digits) in
    let front : take n (b ∷ bs) ≡ b ∷ take m bs = ap (λ k. take k (b ∷ bs)) count in
    let spelled : take n (b ∷ bs) ≡ 45 ∷ take m bs = front ∙ ap (λ d. d ∷ take m bs) is in
    number_token (b ∷ bs) n (inr (inr (take m bs, spelled, magnitude_taken bs m refl digits))) e l w (omega (arith, minus_few bs))
  where
    some_of : (m n : ℕ) → n ≡ negative_length m → 0 < n → 0 < m
    some_of zero n e l = absurd (omega arith)
    some_of (suc m) n e l = omega arith

positive_found : (b : ℕ) (bs : List ℕ) (n : ℕ) → eqb b 48 ≡ false → eqb b 45 ≡ false → n ≡ number_length (b ∷ bs) → 0 < n → n ≤ length (b ∷ bs) → word_length (b ∷ bs) ≡ 0 → LongestToken (b ∷ bs) (Number (take n (b ∷ bs))) n
positive_found b bs n z h e some l w =
    let same : number_length (b ∷ bs) ≡ magnitude_length (b ∷ bs) = rw z (rw h) in
    let count : n ≡ magnitude_length (b ∷ bs) = e ∙ same in
    let first : is_nonzero_digit b ≡ true = nonzero_first b bs (omega arith) in
    let mark_no : is_mark b ≡ false = nonzero_no_mark b first in
    let none : mark_length (b ∷ bs) ≡ 0 = rw h (rw mark_no) in
    number_token (b ∷ bs) n (inr (inl (magnitude_taken (b ∷ bs) n count some))) e l w (omega arith)

pub number_found : (text : List ℕ) (n : ℕ) → n ≡ number_length text → 0 < n → n ≤ length text → word_length text ≡ 0 → LongestToken text (Number (take n text)) n
number_found [] n e some l w = absurd (omega arith)
number_found (b ∷ bs) n e some l w = elim (cases_Bool (eqb b 48)) [
  | inl h ↦ zero_found b bs n h e l w
  | inr z ↦ elim (cases_Bool (eqb b 45)) [ inl h ↦ negative_found b bs n h e some l w | inr h ↦ positive_found b bs n z h e some l w ]
]

mark_is_token : (s : Sign) → 0 < length (sign_bytes s) → IsToken (Mark s)
mark_is_token sign.End l = absurd (omega arith)
mark_is_token s l = tt

pub mark_found : (text : List ℕ) (s : Sign) (n : ℕ) → text ≡ sign_bytes s ++ drop n text → length (sign_bytes s) ≡ n → mark_length text ≡ n → 0 < n → word_length text ≡ 0 → number_length text ≡ 0 → LongestToken text (Mark s) n
mark_found text s n e l m some w k = longest_token text (Mark s) n (mark_is_token s (omega arith)) e l (omega arith)
