-- How many bytes the longest token has with which a text begins.
use Rattle.std.proofs.Common.{◌≡◌, ℕ, ◌+◌, ◌^◌, ◌<◌, ◌≤◌, suc, zero, pos, negsuc, Bool, true, false, cond, eqb, List, [], ◌∷◌, ◌++◌, length, get_or, refl, sym, ap, ◌∙◌, arith}
use Rattle.std.proofs.lemmas.Bool.{and_parts, ne_eqb}
use Rattle.std.proofs.lemmas.List.Elements.{All-head, All-tail, All-cons, All-nil}
use Rattle.std.proofs.lemmas.Str.Parse.{IsNumeralModel, numerals_by_value, tells_all_ascii_digits}
use Rattle.std.proofs.lemmas.Fmt.{decimal_digit, digits_decimal, first_decimal, length-decimal-le, decimal_nonempty}
use Rattle.std.specs.Char.{is_ascii_digit}
use Rattle.std.specs.Fmt.{decimal}
use Rattle.std.specs.List.{AllPass, prefix_len}
use Rattle.std.specs.Str.{all_ascii_digits}
use Rattle.std.specs.Str.Parse.{digits_value}
use Rattle.asm_token.specs.Tokens.{Token, Name, Number, Mark, is_name_start, is_name_byte, is_mark, IsToken, spelling}
use Rattle.asm_token.specs.Length.{is_nonzero_digit, digit_count, magnitude_length, negative_length, token_length}
use Rattle.asm_token.proofs.Bytes.{start_is_name, digit_no_start, mark_no_start, digit_no_mark, nonzero_no_zero, digit_no_minus, nonzero_is_digit, digit_above, no_name_no_digit}

pub prefix_at_least : (p : ℕ → Bool) (xs ys : List ℕ) → AllPass p xs → length xs ≤ prefix_len p (xs ++ ys)
prefix_at_least p [] ys h = omega arith
prefix_at_least p (x ∷ xs) ys h =
    let e : p x ≡ true = All-head (λ y. p y ≡ true) x xs h in
    let more : length xs ≤ prefix_len p (xs ++ ys) = prefix_at_least p xs ys (All-tail (λ y. p y ≡ true) x xs h) in
    rw e (omega arith)

-- the text ends, or its first byte fails the test
abbrev pub Stops : (ℕ → Bool) → List ℕ → Type 0
Stops p [] = Unit {0}
Stops p (x ∷ xs) = p x ≡ false

pub prefix_at_stop : (p : ℕ → Bool) (ys : List ℕ) → Stops p ys → prefix_len p ys ≡ 0
prefix_at_stop p [] h = refl
prefix_at_stop p (y ∷ ys) h = rw h

pub prefix_exactly : (p : ℕ → Bool) (xs ys : List ℕ) → AllPass p xs → Stops p ys → prefix_len p (xs ++ ys) ≡ length xs
prefix_exactly p [] ys h s = prefix_at_stop p ys s
prefix_exactly p (x ∷ xs) ys h s =
    let e : p x ≡ true = All-head (λ y. p y ≡ true) x xs h in
    let more : prefix_len p (xs ++ ys) ≡ length xs = prefix_exactly p xs ys (All-tail (λ y. p y ≡ true) x xs h) s in
    rw e (omega arith)

digits_pass : (ds : List ℕ) → all_ascii_digits ds ≡ true → AllPass is_ascii_digit ds
digits_pass [] h = All-nil (λ y. is_ascii_digit y ≡ true)
digits_pass (d ∷ ds) h =
    let both = and_parts (is_ascii_digit d) (all_ascii_digits ds) h in
    All-cons (λ y. is_ascii_digit y ≡ true) d ds both.0 (digits_pass ds both.1)

pub own : IsNumeralModel (λ ds. all_ascii_digits ds ≡ true) (digits_value 10)
own = numerals_by_value (λ ds. all_ascii_digits ds ≡ true) tells_all_ascii_digits

-- the digits of a number from 1 to 10 ^ 10 - 1
pub record Numeral (ds : List ℕ) : Type 0 where
  pub first : ℕ
  pub others : List ℕ
  pub is : ds ≡ first ∷ others
  pub nonzero : is_nonzero_digit first ≡ true
  pub digits : AllPass is_ascii_digit ds
  pub few : length ds ≤ 10

numeral_from : (ds : List ℕ) → AllPass is_ascii_digit ds → 0 < length ds → 48 < get_or ds 0 0 → length ds ≤ 10 → Numeral ds
numeral_from [] p l f n = absurd (omega arith)
numeral_from (d ∷ ds) p l f n = record { first = d; others = ds; is = refl; nonzero = digit_above d (All-head (λ y. is_ascii_digit y ≡ true) d ds p) f; digits = p; few = n }

pub decimal_numeral : (n : ℕ) → 0 < n → n < 10 ^ 10 → Numeral (decimal n)
decimal_numeral n l h =
    let fits : n < 2 ^ 64 = omega arith in
    numeral_from (decimal n) (digits_pass (decimal n) (digits_decimal own n fits)) (decimal_nonempty n fits) (first_decimal n l fits) (length-decimal-le 10 n (omega arith) h fits)

-- a text that begins with such digits

magnitude_is : (d : ℕ) (ds : List ℕ) → is_nonzero_digit d ≡ true → magnitude_length (d ∷ ds) ≡ digit_count (d ∷ ds)
magnitude_is d ds h = rw h

pub number_is : (d : ℕ) (ds : List ℕ) → is_nonzero_digit d ≡ true → token_length (d ∷ ds) ≡ digit_count (d ∷ ds)
number_is d ds h =
    let digit : is_ascii_digit d ≡ true = nonzero_is_digit d h in
    let a : is_name_start d ≡ false = digit_no_start d digit in
    let b : is_mark d ≡ false = digit_no_mark d digit in
    let c : eqb d 48 ≡ false = nonzero_no_zero d h in
    let e : eqb d 45 ≡ false = digit_no_minus d digit in
    rw a (rw b (rw c (rw e (rw digit))))

pub numeral_magnitude : (ds more : List ℕ) → Numeral ds → magnitude_length (ds ++ more) ≡ digit_count (ds ++ more)
numeral_magnitude ds more n = rw n.is (magnitude_is n.first (n.others ++ more) n.nonzero)

pub numeral_token : (ds more : List ℕ) → Numeral ds → token_length (ds ++ more) ≡ digit_count (ds ++ more)
numeral_token ds more n = rw n.is (number_is n.first (n.others ++ more) n.nonzero)

pub numeral_length : (ds : List ℕ) → Numeral ds → 0 < length ds
numeral_length ds n = rw n.is (omega arith)

numeral_at_least : (ds more : List ℕ) → Numeral ds → length ds ≤ digit_count (ds ++ more)
numeral_at_least ds more n = omega (arith, n.few, prefix_at_least is_ascii_digit ds more n.digits)

numeral_exactly : (ds more : List ℕ) → Numeral ds → Stops is_ascii_digit more → digit_count (ds ++ more) ≡ length ds
numeral_exactly ds more n s = omega (arith, n.few, prefix_exactly is_ascii_digit ds more n.digits s)

name_is : (b : ℕ) (bs : List ℕ) → is_name_start b ≡ true → token_length (b ∷ bs) ≡ prefix_len is_name_byte (b ∷ bs)
name_is b bs h = rw h

mark_is : (b : ℕ) (bs : List ℕ) → is_mark b ≡ true → token_length (b ∷ bs) ≡ 1
mark_is b bs h = let a : is_name_start b ≡ false = mark_no_start b h in rw a (rw h)

pub negative_more : (n : ℕ) → 0 < n → negative_length n ≡ n + 1
negative_more n l = let e : eqb n 0 ≡ false = ne_eqb n 0 (λ z. omega arith) in rw e

name_passes : (b : ℕ) (bs : List ℕ) → is_name_start b ≡ true → AllPass is_name_byte bs → AllPass is_name_byte (b ∷ bs)
name_passes b bs h p = All-cons (λ y. is_name_byte y ≡ true) b bs (start_is_name b h) p

-- each token has bytes
pub token_nonempty : (t : Token) → IsToken t → 0 < length (spelling t)
token_nonempty (Name []) h = absurd h
token_nonempty (Name (b ∷ bs)) h = omega arith
token_nonempty (Number (pos n)) h = decimal_nonempty n (omega (arith, h))
token_nonempty (Number (negsuc n)) h = omega arith
token_nonempty (Mark b) h = omega arith

-- a token at the front is at most that long
pub token_at_most : (t : Token) (more : List ℕ) → IsToken t → length (spelling t) ≤ token_length (spelling t ++ more)
token_at_most (Name []) more h = absurd h
token_at_most (Name (b ∷ bs)) more h =
    rw (name_is b (bs ++ more) h.0) (prefix_at_least is_name_byte (b ∷ bs) more (name_passes b bs h.0 h.1))
token_at_most (Number (pos zero)) more h = rw (decimal_digit 0 (omega arith)) (omega arith)
token_at_most (Number (pos (suc n))) more h =
    let ds : Numeral (decimal (suc n)) = decimal_numeral (suc n) (omega arith) h in
    rw (numeral_token (decimal (suc n)) more ds) (numeral_at_least (decimal (suc n)) more ds)
token_at_most (Number (negsuc n)) more h =
    let ds : Numeral (decimal (suc n)) = decimal_numeral (suc n) (omega arith) h in
    let some : 0 < length (decimal (suc n)) = numeral_length (decimal (suc n)) ds in
    let least : length (decimal (suc n)) ≤ digit_count (decimal (suc n) ++ more) = numeral_at_least (decimal (suc n)) more ds in
    rw (numeral_magnitude (decimal (suc n)) more ds) (rw (negative_more (digit_count (decimal (suc n) ++ more)) (omega arith)) (omega arith))
token_at_most (Mark b) more h = rw (mark_is b more h) (omega arith)

-- what follows does not prolong the token
abbrev pub Stands : Token → List ℕ → Type 0
Stands (Name bs) more = Stops is_name_byte more
Stands (Number z) more = Stops is_name_byte more
Stands (Mark b) more = Unit {0}

no_digit : (more : List ℕ) → Stops is_name_byte more → Stops is_ascii_digit more
no_digit [] s = tt
no_digit (b ∷ bs) s = no_name_no_digit b s

pub token_exactly : (t : Token) (more : List ℕ) → IsToken t → Stands t more → token_length (spelling t ++ more) ≡ length (spelling t)
token_exactly (Name []) more h s = absurd h
token_exactly (Name (b ∷ bs)) more h s =
    rw (name_is b (bs ++ more) h.0) (prefix_exactly is_name_byte (b ∷ bs) more (name_passes b bs h.0 h.1) s)
token_exactly (Number (pos zero)) more h s = rw (decimal_digit 0 (omega arith))
token_exactly (Number (pos (suc n))) more h s =
    let ds : Numeral (decimal (suc n)) = decimal_numeral (suc n) (omega arith) h in
    rw (numeral_token (decimal (suc n)) more ds) (numeral_exactly (decimal (suc n)) more ds (no_digit more s))
token_exactly (Number (negsuc n)) more h s =
    let ds : Numeral (decimal (suc n)) = decimal_numeral (suc n) (omega arith) h in
    let some : 0 < length (decimal (suc n)) = numeral_length (decimal (suc n)) ds in
    rw (numeral_magnitude (decimal (suc n)) more ds) (rw (numeral_exactly (decimal (suc n)) more ds (no_digit more s)) (rw (negative_more (length (decimal (suc n))) some) (omega arith)))
token_exactly (Mark b) more h s = mark_is b more h

-- the kind of a token by its first byte
abbrev kind_at : ℕ → ℕ
kind_at b = cond (is_name_start b) 0 (cond (is_mark b) 1 2)

abbrev pub kind : Token → ℕ
kind (Name bs) = 0
kind (Mark b) = 1
kind (Number z) = 2

name_kind : (b : ℕ) → is_name_start b ≡ true → kind_at b ≡ 0
name_kind b h = rw h

mark_kind : (b : ℕ) → is_mark b ≡ true → kind_at b ≡ 1
mark_kind b h = let a : is_name_start b ≡ false = mark_no_start b h in rw a (rw h)

digit_kind : (b : ℕ) → is_nonzero_digit b ≡ true → kind_at b ≡ 2
digit_kind b h =
    let digit : is_ascii_digit b ≡ true = nonzero_is_digit b h in
    let a : is_name_start b ≡ false = digit_no_start b digit in
    let c : is_mark b ≡ false = digit_no_mark b digit in
    rw a (rw c)

kind_is : (t : Token) → IsToken t → kind_at (get_or (spelling t) 0 0) ≡ kind t
kind_is (Name []) h = absurd h
kind_is (Name (b ∷ bs)) h = name_kind b h.0
kind_is (Number (pos zero)) h = rw (decimal_digit 0 (omega arith))
kind_is (Number (pos (suc n))) h =
    let ds : Numeral (decimal (suc n)) = decimal_numeral (suc n) (omega arith) h in
    rw ds.is (digit_kind ds.first ds.nonzero)
kind_is (Number (negsuc n)) h = refl
kind_is (Mark b) h = mark_kind b h

-- two tokens with one spelling are of one kind
pub same_kind : (t u : Token) → IsToken t → IsToken u → spelling t ≡ spelling u → kind t ≡ kind u
same_kind t u h k e = sym (kind_is t h) ∙ ap (λ bs. kind_at (get_or bs 0 0)) e ∙ kind_is u k
