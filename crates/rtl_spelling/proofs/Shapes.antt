-- What a token can be, by its bytes.
use Rattle.std.proofs.Common.{◌≡◌, ℕ, ◌<◌, Bool, true, false, ◌&&◌, eqb, cond, List, [], ◌∷◌, ◌++◌, length, refl, sym, ap, subst, ◌∙◌, arith, inl, inr}
use Rattle.std.specs.Prelude.{◌⊎◌, codes}
use Rattle.std.specs.Char.{is_ascii_digit}
use Rattle.std.specs.List.{AllPass}
use Rattle.std.specs.Str.{bytes_eq}
use Rattle.std.proofs.lemmas.Bool.{and_parts, cases_lt}
use Rattle.std.proofs.lemmas.List.{length-append}
use Rattle.std.proofs.lemmas.List.Elements.{All-head, All-tail}
use Rattle.asm_token.specs.Tokens.{IsName, is_name_start, is_name_byte}
use Rattle.asm_token.proofs.Bytes.{start_is_name, digit_is_name, digit_no_start}
use Rattle.rtl_spelling.specs.declared.signs.Sign.{Sign}
use Rattle.rtl_spelling.specs.declared.signs.Sign.TheVariants as sign
use Rattle.rtl_spelling.specs.Tokens.{Token, Word, Number, Mark, is_nonzero_digit, IsMagnitude, IsNumber, sign_bytes, spelling, IsToken, Longest}

nonzero_is_digit : (b : ℕ) → is_nonzero_digit b ≡ true → is_ascii_digit b ≡ true
nonzero_is_digit b h = (and_parts (is_ascii_digit b) _ h).0

-- the token that has these bytes
abbrev sign_from : List ℕ → Sign
sign_from bs =
    cond (bytes_eq bs (codes " ")) sign.Space (cond (bytes_eq bs (codes "[")) sign.LeftBracket (cond (bytes_eq bs (codes "]")) sign.RightBracket
    (cond (bytes_eq bs (codes "(")) sign.LeftParen (cond (bytes_eq bs (codes ")")) sign.RightParen (cond (bytes_eq bs (codes ";")) sign.Semicolon
    (cond (bytes_eq bs (codes "=")) sign.Equals (cond (bytes_eq bs (codes "+")) sign.Plus (cond (bytes_eq bs (codes "-")) sign.Minus
    (cond (bytes_eq bs (codes "*")) sign.Star (cond (bytes_eq bs (codes "&")) sign.Ampersand (cond (bytes_eq bs (codes "|")) sign.Bar
    (cond (bytes_eq bs (codes "^")) sign.Caret (cond (bytes_eq bs (codes "?")) sign.Question (cond (bytes_eq bs (codes "<")) sign.Less
    (cond (bytes_eq bs (codes ">")) sign.Greater (cond (bytes_eq bs (codes "->")) sign.Arrow sign.End))))))))))))))))

abbrev first_digit : List ℕ → Bool
first_digit [] = false
first_digit (b ∷ bs) = is_ascii_digit b

abbrev token_from : List ℕ → Token
token_from [] = Mark sign.End
token_from (b ∷ bs) =
    cond (is_name_start b) (Word (b ∷ bs))
    (cond (is_ascii_digit b) (Number (b ∷ bs)) (cond (eqb b 45 && first_digit bs) (Number (b ∷ bs)) (Mark (sign_from (b ∷ bs)))))

number_from : (b : ℕ) (bs : List ℕ) → is_ascii_digit b ≡ true → token_from (b ∷ bs) ≡ Number (b ∷ bs)
number_from b bs h = rw (digit_no_start b h, h) refl

magnitude_from : (bs : List ℕ) → IsMagnitude bs → token_from bs ≡ Number bs
magnitude_from [] h = absurd h
magnitude_from (b ∷ bs) h = number_from b bs (nonzero_is_digit b h.0)

magnitude_first : (bs : List ℕ) → IsMagnitude bs → first_digit bs ≡ true
magnitude_first [] h = absurd h
magnitude_first (b ∷ bs) h = nonzero_is_digit b h.0

negative_from : (bs : List ℕ) → IsMagnitude bs → token_from (45 ∷ bs) ≡ Number (45 ∷ bs)
negative_from bs h = rw (magnitude_first bs h) refl

is_number_from : (bs : List ℕ) → IsNumber bs → token_from bs ≡ Number bs
is_number_from bs (inl e) = rw e refl
is_number_from bs (inr (inl h)) = magnitude_from bs h
is_number_from bs (inr (inr (ds, e, h))) = rw e (negative_from ds h)

word_from : (bs : List ℕ) → IsName bs → token_from bs ≡ Word bs
word_from [] h = absurd h
word_from (b ∷ bs) h = rw h.0 refl

pub from_spelling : (t : Token) → IsToken t → token_from (spelling t) ≡ t
from_spelling (Word bs) h = word_from bs h
from_spelling (Number bs) h = is_number_from bs h
from_spelling (Mark sign.Space) h = refl
from_spelling (Mark sign.LeftBracket) h = refl
from_spelling (Mark sign.RightBracket) h = refl
from_spelling (Mark sign.LeftParen) h = refl
from_spelling (Mark sign.RightParen) h = refl
from_spelling (Mark sign.Semicolon) h = refl
from_spelling (Mark sign.Equals) h = refl
from_spelling (Mark sign.Plus) h = refl
from_spelling (Mark sign.Minus) h = refl
from_spelling (Mark sign.Star) h = refl
from_spelling (Mark sign.Ampersand) h = refl
from_spelling (Mark sign.Bar) h = refl
from_spelling (Mark sign.Caret) h = refl
from_spelling (Mark sign.Question) h = refl
from_spelling (Mark sign.Less) h = refl
from_spelling (Mark sign.Greater) h = refl
from_spelling (Mark sign.Arrow) h = refl
from_spelling (Mark sign.End) h = absurd h

-- a token is known by its bytes
pub token_same : (t u : Token) → IsToken t → IsToken u → spelling t ≡ spelling u → t ≡ u
token_same t u h k e = sym (from_spelling t h) ∙ ap token_from e ∙ from_spelling u k

-- ---- the shapes

pub data Shape (b : ℕ) (bs : List ℕ) : Type 0 where
  word : is_name_start b ≡ true → AllPass is_name_byte bs → Shape b bs
  zero_alone : b ≡ 48 → bs ≡ [] → Shape b bs
  positive : is_nonzero_digit b ≡ true → AllPass is_ascii_digit bs → Shape b bs
  negative : b ≡ 45 → IsMagnitude bs → Shape b bs
  single : is_name_byte b ≡ false → bs ≡ [] → Shape b bs
  arrow : b ≡ 45 → bs ≡ 62 ∷ [] → Shape b bs

pub head_byte : (a b : ℕ) (xs bs : List ℕ) → a ∷ xs ≡ b ∷ bs → (a ≡ b) × (xs ≡ bs)
head_byte a b xs bs e = (cc, cc)

word_shape : (b : ℕ) (bs cs : List ℕ) → IsName cs → cs ≡ b ∷ bs → Shape b bs
word_shape b bs [] h e = absurd h
word_shape b bs (c ∷ cs) h e =
    let p = head_byte c b cs bs e in word (subst (λ b. is_name_start b ≡ true) p.0 h.0) (subst (AllPass is_name_byte) p.1 h.1)

magnitude_shape : (b : ℕ) (bs cs : List ℕ) → IsMagnitude cs → cs ≡ b ∷ bs → Shape b bs
magnitude_shape b bs [] h e = absurd h
magnitude_shape b bs (c ∷ cs) h e =
    let p = head_byte c b cs bs e in positive (subst (λ b. is_nonzero_digit b ≡ true) p.0 h.0) (subst (AllPass is_ascii_digit) p.1 h.1)

number_shape : (b : ℕ) (bs cs : List ℕ) → IsNumber cs → cs ≡ b ∷ bs → Shape b bs
number_shape b bs cs (inl z) e = let p = head_byte 48 b [] bs (sym z ∙ e) in zero_alone (sym p.0) (sym p.1)
number_shape b bs cs (inr (inl h)) e = magnitude_shape b bs cs h e
number_shape b bs cs (inr (inr (ds, z, h))) e = let p = head_byte 45 b ds bs (sym z ∙ e) in negative (sym p.0) (subst IsMagnitude p.1 h)

single_shape : (a b : ℕ) (bs : List ℕ) → is_name_byte a ≡ false → a ∷ [] ≡ b ∷ bs → Shape b bs
single_shape a b bs h e = let p = head_byte a b [] bs e in single (subst (λ b. is_name_byte b ≡ false) p.0 h) (sym p.1)

sign_shape : (s : Sign) (b : ℕ) (bs : List ℕ) → sign_bytes s ≡ b ∷ bs → Shape b bs
sign_shape sign.Space b bs e = single_shape 32 b bs refl e
sign_shape sign.LeftBracket b bs e = single_shape 91 b bs refl e
sign_shape sign.RightBracket b bs e = single_shape 93 b bs refl e
sign_shape sign.LeftParen b bs e = single_shape 40 b bs refl e
sign_shape sign.RightParen b bs e = single_shape 41 b bs refl e
sign_shape sign.Semicolon b bs e = single_shape 59 b bs refl e
sign_shape sign.Equals b bs e = single_shape 61 b bs refl e
sign_shape sign.Plus b bs e = single_shape 43 b bs refl e
sign_shape sign.Minus b bs e = single_shape 45 b bs refl e
sign_shape sign.Star b bs e = single_shape 42 b bs refl e
sign_shape sign.Ampersand b bs e = single_shape 38 b bs refl e
sign_shape sign.Bar b bs e = single_shape 124 b bs refl e
sign_shape sign.Caret b bs e = single_shape 94 b bs refl e
sign_shape sign.Question b bs e = single_shape 63 b bs refl e
sign_shape sign.Less b bs e = single_shape 60 b bs refl e
sign_shape sign.Greater b bs e = single_shape 62 b bs refl e
sign_shape sign.Arrow b bs e = let p = head_byte 45 b (62 ∷ []) bs e in arrow (sym p.0) (sym p.1)
sign_shape sign.End b bs e = absurd cc

pub shape_of : (t : Token) (b : ℕ) (bs : List ℕ) → IsToken t → spelling t ≡ b ∷ bs → Shape b bs
shape_of (Word cs) b bs h e = word_shape b bs cs h e
shape_of (Number cs) b bs h e = number_shape b bs cs h e
shape_of (Mark s) b bs h e = sign_shape s b bs e

-- ---- what keeps a token from being longer

all_middle : (p : ℕ → Bool) (xs ms : List ℕ) (m : ℕ) → AllPass p (xs ++ m ∷ ms) → p m ≡ true
all_middle p [] ms m h = All-head (λ x. p x ≡ true) m ms h
all_middle p (x ∷ xs) ms m h = all_middle p xs ms m (All-tail (λ x. p x ≡ true) x (xs ++ m ∷ ms) h)

some_more : (xs ms : List ℕ) (m : ℕ) → xs ++ m ∷ ms ≡ [] → ⊥
some_more xs ms m e = omega (arith, ap length e, length-append xs (m ∷ ms))

word_no_longer : (b m : ℕ) (bs ms : List ℕ) → is_name_start b ≡ true → is_name_byte m ≡ false → Shape b (bs ++ m ∷ ms) → ⊥
word_no_longer b m bs ms h n (word k all) = let y : is_name_byte m ≡ true = all_middle is_name_byte bs ms m all in absurd cc
word_no_longer b m bs ms h n (zero_alone e f) = some_more bs ms m f
word_no_longer b m bs ms h n (positive k all) = absurd (let d : is_name_start b ≡ false = digit_no_start b (nonzero_is_digit b k) in cc)
word_no_longer b m bs ms h n (negative e k) = absurd (let z : is_name_start 45 ≡ true = ap is_name_start (sym e) ∙ h in cc)
word_no_longer b m bs ms h n (single k e) = some_more bs ms m e
word_no_longer b m bs ms h n (arrow e f) = absurd (let z : is_name_start 45 ≡ true = ap is_name_start (sym e) ∙ h in cc)

digit_no_longer : (b m : ℕ) (bs ms : List ℕ) → is_ascii_digit b ≡ true → is_nonzero_digit b ≡ true ⊎ (bs ≡ []) → is_name_byte m ≡ false → Shape b (bs ++ m ∷ ms) → ⊥
digit_no_longer b m bs ms h o n (word k all) = absurd (let d : is_name_start b ≡ false = digit_no_start b h in cc)
digit_no_longer b m bs ms h o n (zero_alone e f) = some_more bs ms m f
digit_no_longer b m bs ms h o n (positive k all) =
    let y : is_name_byte m ≡ true = digit_is_name m (all_middle is_ascii_digit bs ms m all) in absurd cc
digit_no_longer b m bs ms h o n (negative e k) = absurd (let z : is_ascii_digit 45 ≡ true = ap is_ascii_digit (sym e) ∙ h in cc)
digit_no_longer b m bs ms h o n (single k e) = some_more bs ms m e
digit_no_longer b m bs ms h o n (arrow e f) = absurd (let z : is_ascii_digit 45 ≡ true = ap is_ascii_digit (sym e) ∙ h in cc)

longer_magnitude : (ds ms : List ℕ) (m : ℕ) → IsMagnitude ds → IsMagnitude (ds ++ m ∷ ms) → is_ascii_digit m ≡ true
longer_magnitude [] ms m h k = absurd h
longer_magnitude (d ∷ ds) ms m h k = all_middle is_ascii_digit ds ms m k.1

longer_than_arrow : (ds ms : List ℕ) (m : ℕ) → IsMagnitude ds → ds ++ m ∷ ms ≡ 62 ∷ [] → ⊥
longer_than_arrow [] ms m h e = absurd h
longer_than_arrow (d ∷ ds) ms m h e = omega (arith, ap length e, length-append ds (m ∷ ms))

negative_no_longer : (b m : ℕ) (ds ms : List ℕ) → b ≡ 45 → IsMagnitude ds → is_name_byte m ≡ false → Shape b (ds ++ m ∷ ms) → ⊥
negative_no_longer b m ds ms e h n (word k all) = absurd (let z : is_name_start 45 ≡ true = ap is_name_start (sym e) ∙ k in cc)
negative_no_longer b m ds ms e h n (zero_alone f g) = some_more ds ms m g
negative_no_longer b m ds ms e h n (positive k all) = absurd (let z : is_nonzero_digit 45 ≡ true = ap is_nonzero_digit (sym e) ∙ k in cc)
negative_no_longer b m ds ms e h n (negative f k) = let y : is_name_byte m ≡ true = digit_is_name m (longer_magnitude ds ms m h k) in absurd cc
negative_no_longer b m ds ms e h n (single k f) = some_more ds ms m f
negative_no_longer b m ds ms e h n (arrow f g) = longer_than_arrow ds ms m h g

single_no_longer : (b m : ℕ) (ms : List ℕ) → is_name_byte b ≡ false → (b ≡ 45 → ⊥) → Shape b (m ∷ ms) → ⊥
single_no_longer b m ms h n (word k all) = absurd (let y : is_name_byte b ≡ true = start_is_name b k in cc)
single_no_longer b m ms h n (zero_alone e f) = some_more [] ms m f
single_no_longer b m ms h n (positive k all) = absurd (let y : is_name_byte b ≡ true = digit_is_name b (nonzero_is_digit b k) in cc)
single_no_longer b m ms h n (negative e k) = n e
single_no_longer b m ms h n (single k e) = some_more [] ms m e
single_no_longer b m ms h n (arrow e f) = n e

minus_no_longer : (m : ℕ) (ms : List ℕ) → m ≡ 32 → Shape 45 (m ∷ ms) → ⊥
minus_no_longer m ms n (word k all) = absurd cc
minus_no_longer m ms n (zero_alone e f) = some_more [] ms m f
minus_no_longer m ms n (positive k all) = absurd cc
minus_no_longer m ms n (negative e k) = absurd (let z : is_nonzero_digit 32 ≡ true = ap is_nonzero_digit (sym n) ∙ k.0 in cc)
minus_no_longer m ms n (single k e) = some_more [] ms m e
minus_no_longer m ms n (arrow e f) = absurd (omega (arith, (head_byte m 62 ms [] f).0, n))

arrow_no_longer : (m : ℕ) (ms : List ℕ) → Shape 45 (62 ∷ m ∷ ms) → ⊥
arrow_no_longer m ms (word k all) = absurd cc
arrow_no_longer m ms (zero_alone e f) = absurd (omega (arith, ap length f))
arrow_no_longer m ms (positive k all) = absurd cc
arrow_no_longer m ms (negative e k) = absurd (let z : is_nonzero_digit 62 ≡ true = k.0 in cc)
arrow_no_longer m ms (single k e) = absurd (omega (arith, ap length e))
arrow_no_longer m ms (arrow e f) = absurd (omega (arith, ap length f))

-- the next byte ends a token: no byte of a name behind a word or a number, a space behind a minus
abbrev pub EndsAt : Token → ℕ → Type 0
EndsAt (Word bs) m = is_name_byte m ≡ false
EndsAt (Number bs) m = is_name_byte m ≡ false
EndsAt (Mark sign.Minus) m = m ≡ 32
EndsAt (Mark s) m = Unit {0}

number_ends : (cs : List ℕ) (m : ℕ) (ms : List ℕ) → IsNumber cs → is_name_byte m ≡ false → (u : Token) → IsToken u → spelling u ≡ cs ++ m ∷ ms → ⊥
number_ends cs m ms (inl z) n u k e =
    digit_no_longer 48 m [] ms refl (inr refl) n (shape_of u 48 (m ∷ ms) k (e ∙ ap (λ l. l ++ m ∷ ms) z))
number_ends [] m ms (inr (inl h)) n u k e = absurd h
number_ends (b ∷ bs) m ms (inr (inl h)) n u k e =
    digit_no_longer b m bs ms (nonzero_is_digit b h.0) (inl h.0) n (shape_of u b (bs ++ m ∷ ms) k e)
number_ends cs m ms (inr (inr (ds, z, h))) n u k e =
    negative_no_longer 45 m ds ms refl h n (shape_of u 45 (ds ++ m ∷ ms) k (e ∙ ap (λ l. l ++ m ∷ ms) z))

word_ends : (cs : List ℕ) (m : ℕ) (ms : List ℕ) → IsName cs → is_name_byte m ≡ false → (u : Token) → IsToken u → spelling u ≡ cs ++ m ∷ ms → ⊥
word_ends [] m ms h n u k e = absurd h
word_ends (b ∷ bs) m ms h n u k e = word_no_longer b m bs ms h.0 n (shape_of u b (bs ++ m ∷ ms) k e)

sign_ends : (s : Sign) (m : ℕ) (ms : List ℕ) → IsToken (Mark s) → EndsAt (Mark s) m → (u : Token) → IsToken u → spelling u ≡ sign_bytes s ++ m ∷ ms → ⊥
sign_ends sign.Space m ms h n u k e = single_no_longer 32 m ms refl (λ z. absurd (omega (arith, z))) (shape_of u 32 (m ∷ ms) k e)
sign_ends sign.LeftBracket m ms h n u k e = single_no_longer 91 m ms refl (λ z. absurd (omega (arith, z))) (shape_of u 91 (m ∷ ms) k e)
sign_ends sign.RightBracket m ms h n u k e = single_no_longer 93 m ms refl (λ z. absurd (omega (arith, z))) (shape_of u 93 (m ∷ ms) k e)
sign_ends sign.LeftParen m ms h n u k e = single_no_longer 40 m ms refl (λ z. absurd (omega (arith, z))) (shape_of u 40 (m ∷ ms) k e)
sign_ends sign.RightParen m ms h n u k e = single_no_longer 41 m ms refl (λ z. absurd (omega (arith, z))) (shape_of u 41 (m ∷ ms) k e)
sign_ends sign.Semicolon m ms h n u k e = single_no_longer 59 m ms refl (λ z. absurd (omega (arith, z))) (shape_of u 59 (m ∷ ms) k e)
sign_ends sign.Equals m ms h n u k e = single_no_longer 61 m ms refl (λ z. absurd (omega (arith, z))) (shape_of u 61 (m ∷ ms) k e)
sign_ends sign.Plus m ms h n u k e = single_no_longer 43 m ms refl (λ z. absurd (omega (arith, z))) (shape_of u 43 (m ∷ ms) k e)
sign_ends sign.Minus m ms h n u k e = minus_no_longer m ms n (shape_of u 45 (m ∷ ms) k e)
sign_ends sign.Star m ms h n u k e = single_no_longer 42 m ms refl (λ z. absurd (omega (arith, z))) (shape_of u 42 (m ∷ ms) k e)
sign_ends sign.Ampersand m ms h n u k e = single_no_longer 38 m ms refl (λ z. absurd (omega (arith, z))) (shape_of u 38 (m ∷ ms) k e)
sign_ends sign.Bar m ms h n u k e = single_no_longer 124 m ms refl (λ z. absurd (omega (arith, z))) (shape_of u 124 (m ∷ ms) k e)
sign_ends sign.Caret m ms h n u k e = single_no_longer 94 m ms refl (λ z. absurd (omega (arith, z))) (shape_of u 94 (m ∷ ms) k e)
sign_ends sign.Question m ms h n u k e = single_no_longer 63 m ms refl (λ z. absurd (omega (arith, z))) (shape_of u 63 (m ∷ ms) k e)
sign_ends sign.Less m ms h n u k e = single_no_longer 60 m ms refl (λ z. absurd (omega (arith, z))) (shape_of u 60 (m ∷ ms) k e)
sign_ends sign.Greater m ms h n u k e = single_no_longer 62 m ms refl (λ z. absurd (omega (arith, z))) (shape_of u 62 (m ∷ ms) k e)
sign_ends sign.Arrow m ms h n u k e = arrow_no_longer m ms (shape_of u 45 (62 ∷ m ∷ ms) k e)
sign_ends sign.End m ms h n u k e = absurd h

no_longer : (t : Token) (m : ℕ) (ms : List ℕ) → IsToken t → EndsAt t m → (u : Token) → IsToken u → spelling u ≡ spelling t ++ m ∷ ms → ⊥
no_longer (Word cs) m ms h n u k e = word_ends cs m ms h n u k e
no_longer (Number cs) m ms h n u k e = number_ends cs m ms h n u k e
no_longer (Mark s) m ms h n u k e = sign_ends s m ms h n u k e

-- where the rest begins with such a byte, or there is none, the token is the longest
abbrev pub Ended : Token → List ℕ → Type 0
Ended t [] = Unit {0}
Ended t (m ∷ ms) = EndsAt t m

bytes_beyond : (xs ys a b : List ℕ) → xs ++ a ≡ ys ++ b → length xs < length ys → (m : ℕ) × (ms : List ℕ) × (ys ≡ xs ++ m ∷ ms) × (a ≡ m ∷ (ms ++ b))
bytes_beyond [] [] a b e lt = absurd (omega (arith, lt))
bytes_beyond [] (y ∷ ys) a b e lt = (y, ys, refl, e)
bytes_beyond (x ∷ xs) [] a b e lt = absurd (omega (arith, lt))
bytes_beyond (x ∷ xs) (y ∷ ys) a b e lt =
    let p = head_byte x y (xs ++ a) (ys ++ b) e in
    let r = bytes_beyond xs ys a b p.1 (omega (arith, lt)) in
    (r.0, r.1, (λ i. sym p.0 i ∷ r.2 i), r.3)

pub ended_longest : (t : Token) (rest : List ℕ) → IsToken t → Ended t rest → Longest t rest
ended_longest t rest h n = record {
  at_least = λ u more k e. elim (cases_lt (length (spelling t)) (length (spelling u))) [
    | inl lt ↦ absurd (let r = bytes_beyond (spelling t) (spelling u) rest more e lt in
        let ends : EndsAt t r.0 = let w : Ended t (r.0 ∷ (r.1 ++ more)) = subst (Ended t) r.3 n in w in
        no_longer t r.0 r.1 h ends u k r.2)
    | inr le ↦ le
  ];
}
