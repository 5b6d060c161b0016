-- Which bytes tokens, names and numbers don't have.
use Rattle.std.proofs.Common.{◌≡◌, ℕ, ◌^◌, ◌<◌, suc, ℤ, pos, negsuc, Bool, true, false, not, ◌||◌, ◌&&◌, eqb, List, [], ◌∷◌, ◌++◌, refl, sym, ap, ◌∙◌, arith, rules}
use Rattle.std.proofs.lemmas.Bool.{and_parts, or_left, or_right}
use Rattle.std.proofs.lemmas.List.Folds.{list_all-append}
use Rattle.std.proofs.lemmas.List.Sums.{list_all-from_AllPass}
use Rattle.std.proofs.lemmas.Fmt.{digits_decimal}
use Rattle.std.specs.Char.{is_ascii_digit}
use Rattle.std.specs.Fmt.{decimal, signed_decimal}
use Rattle.std.specs.List.{list_all}
use Rattle.std.specs.Str.{all_ascii_digits}
use Rattle.asm_token.specs.Tokens.{Token, Name, Number, Mark, is_name_start, is_name_byte, is_mark, IsToken, IsName, spelling}
use Rattle.asm_token.proofs.Lengths.{own}
use Rattle.md_text.specs.Lines.{lacks}

pub and_true : (a b : Bool) → a ≡ true → b ≡ true → (a && b) ≡ true
and_true a b p q = rw p (rw q refl)

pub lacks_both : (b : ℕ) (xs ys : List ℕ) → lacks b xs ≡ true → lacks b ys ≡ true → lacks b (xs ++ ys) ≡ true
lacks_both b xs ys p q = list_all-append (λ c. not (eqb c b)) xs ys ∙ and_true (lacks b xs) (lacks b ys) p q

-- a byte that fails a test is none of those that pass
pub fails_other : (p : ℕ → Bool) (b c : ℕ) → p b ≡ false → p c ≡ true → not (eqb c b) ≡ true
fails_other p b c f t = other (eqb c b) (λ e. clash (sym t ∙ ap p (eq e) ∙ f))
  where
    eq : eqb c b ≡ true → c ≡ b
    eq e = grind (arith, rules)

    clash : true ≡ false → ⊥
    clash q = cc

    other : (r : Bool) → (r ≡ true → ⊥) → not r ≡ true
    other true n = absurd (n refl)
    other false n = refl

lacks_passing : (p : ℕ → Bool) (b : ℕ) (xs : List ℕ) → p b ≡ false → list_all p xs ≡ true → lacks b xs ≡ true
lacks_passing p b [] f h = refl
lacks_passing p b (c ∷ xs) f h =
    let both = and_parts (p c) (list_all p xs) h in
    and_true (not (eqb c b)) (lacks b xs) (fails_other p b c f both.0) (lacks_passing p b xs f both.1)

passes_weaker : (p q : ℕ → Bool) → ((c : ℕ) → p c ≡ true → q c ≡ true) → (xs : List ℕ) → list_all p xs ≡ true → list_all q xs ≡ true
passes_weaker p q w [] h = refl
passes_weaker p q w (c ∷ xs) h =
    let both = and_parts (p c) (list_all p xs) h in
    and_true (q c) (list_all q xs) (w c both.0) (passes_weaker p q w xs both.1)

digits_pass : (ds : List ℕ) → all_ascii_digits ds ≡ true → list_all is_ascii_digit ds ≡ true
digits_pass [] h = refl
digits_pass (d ∷ ds) h =
    let both = and_parts (is_ascii_digit d) (all_ascii_digits ds) h in
    and_true (is_ascii_digit d) (list_all is_ascii_digit ds) both.0 (digits_pass ds both.1)

-- the bytes of numbers
abbrev pub is_number_byte : ℕ → Bool
is_number_byte c = is_ascii_digit c || eqb c 45

pub number_lacks : (b : ℕ) (z : ℤ) → is_number_byte b ≡ false → IsToken (Number z) → lacks b (signed_decimal z) ≡ true
number_lacks b z f h = lacks_passing is_number_byte b (signed_decimal z) f (passes z h)
  where
    of_digits : (n : ℕ) → n < 2 ^ 64 → list_all is_number_byte (decimal n) ≡ true
    of_digits n l =
        passes_weaker is_ascii_digit is_number_byte (λ c h. or_left (is_ascii_digit c) (eqb c 45) h) (decimal n)
        (digits_pass (decimal n) (digits_decimal own n l))

    passes : (z : ℤ) → IsToken (Number z) → list_all is_number_byte (signed_decimal z) ≡ true
    passes (pos n) h = of_digits n (omega (arith, h))
    passes (negsuc n) h = of_digits (suc n) (omega (arith, h))

-- the bytes of tokens
abbrev pub is_token_byte : ℕ → Bool
is_token_byte c = is_name_byte c || (is_mark c || eqb c 45)

name_byte : (c : ℕ) → is_name_byte c ≡ true → is_token_byte c ≡ true
name_byte c h = or_left (is_name_byte c) (is_mark c || eqb c 45) h

digit_byte : (c : ℕ) → is_ascii_digit c ≡ true → is_token_byte c ≡ true
digit_byte c h = name_byte c (or_right (is_name_start c) (is_ascii_digit c) h)

decimal_passes : (n : ℕ) → n < 2 ^ 64 → list_all is_token_byte (decimal n) ≡ true
decimal_passes n l = passes_weaker is_ascii_digit is_token_byte digit_byte (decimal n) (digits_pass (decimal n) (digits_decimal own n l))

name_passes : (bs : List ℕ) → IsName bs → list_all is_name_byte bs ≡ true
name_passes [] h = absurd h
name_passes (b ∷ bs) h =
    and_true (is_name_byte b) (list_all is_name_byte bs) (or_left (is_name_start b) (is_ascii_digit b) h.0) (list_all-from_AllPass is_name_byte bs h.1)

token_passes : (t : Token) → IsToken t → list_all is_token_byte (spelling t) ≡ true
token_passes (Name bs) h = passes_weaker is_name_byte is_token_byte name_byte bs (name_passes bs h)
token_passes (Number (pos n)) h = decimal_passes n (omega (arith, h))
token_passes (Number (negsuc n)) h = decimal_passes (suc n) (omega (arith, h))
token_passes (Mark b) h = and_true (is_token_byte b) true (or_right (is_name_byte b) (is_mark b || eqb b 45) (or_left (is_mark b) (eqb b 45) h)) refl

pub token_lacks : (b : ℕ) (t : Token) → is_token_byte b ≡ false → IsToken t → lacks b (spelling t) ≡ true
token_lacks b t f h = lacks_passing is_token_byte b (spelling t) f (token_passes t h)

pub name_lacks : (b : ℕ) (name : List ℕ) → is_name_byte b ≡ false → IsName name → lacks b name ≡ true
name_lacks b name f h = lacks_passing is_name_byte b name f (name_passes name h)
