-- The lines of what is written are those that were written.
use Rattle.std.proofs.Common.{◌≡◌, ℕ, suc, ◌^◌, ◌<◌, ◌==◌, ◌&&◌, pos, negsuc, Bool, true, false, cond, List, [], ◌∷◌, ◌++◌, map, refl, ap, subst, ◌∙◌, arith}
use Rattle.std.specs.Prelude.{decimal}
use Rattle.std.specs.Char.{is_ascii_digit}
use Rattle.std.specs.List.{All, AllPass}
use Rattle.std.specs.Str.{all_ascii_digits}
use Rattle.std.proofs.lemmas.Bool.{and_parts, eqb-true}
use Rattle.std.proofs.lemmas.Fmt.{digits_decimal}
use Rattle.std.proofs.lemmas.List.Elements.{All-head, All-tail, All-cons, All-nil}
use Rattle.asm_token.specs.Tokens.{Token, Name, Number, Mark, IsToken, spelling, is_name_byte, is_mark}
use Rattle.asm_token.specs.Line.{is_word, space_between, after_token, line_of}
use Rattle.asm_token.proofs.Bytes.{start_is_name}
use Rattle.asm_token.proofs.Lengths.{own}
use Rattle.asm_program.specs.TextLines.{Said, lines_of, onto}
use Rattle.asm_print.specs.Written.{written, text_of}

-- no line feed stands among the bytes
abbrev pub HasNoFeed : List ℕ → Type 0
HasNoFeed [] = Unit {0}
HasNoFeed (b ∷ bs) = ((b == 10) ≡ false) × HasNoFeed bs

pub false_by : (b : Bool) → (b ≡ true → ⊥) → b ≡ false
false_by true h = absurd (h refl)
false_by false h = refl

pub clash : (b : Bool) → b ≡ true → b ≡ false → ⊥
clash b e f = cc

front_by : (c : Bool) (b : ℕ) (w : List ℕ) (rest : List (List ℕ)) (ls : List (List ℕ)) → c ≡ false → ls ≡ w ∷ rest → cond c ([] ∷ ls) (onto b ls) ≡ (b ∷ w) ∷ rest
front_by true b w rest ls n e = absurd (let q : true ≡ false = n in cc)
front_by false b w rest ls n e = ap (onto b) e

line_front : (w rest : List ℕ) → HasNoFeed w → lines_of ((w ++ 10 ∷ []) ++ rest) ≡ w ∷ lines_of rest
line_front [] rest h = refl
line_front (b ∷ w) rest h = front_by (b == 10) b w (lines_of rest) (lines_of ((w ++ 10 ∷ []) ++ rest)) h.0 (line_front w rest h.1)

-- each line is written without a line feed
abbrev pub AreClean : List Said → Type 0
AreClean [] = Unit {0}
AreClean (s ∷ ss) = HasNoFeed (written s) × AreClean ss

pub written_lines : (ss : List Said) → AreClean ss → lines_of (text_of ss) ≡ map written ss
written_lines [] h = refl
written_lines (s ∷ ss) h = line_front (written s) (text_of ss) h.0 ∙ ap (λ (ls : List (List ℕ)). written s ∷ ls) (written_lines ss h.1)

-- bytes of tokens are no line feeds

not_feed : (P : ℕ → Bool) (b : ℕ) → P 10 ≡ false → P b ≡ true → (b == 10) ≡ false
not_feed P b n h = false_by (b == 10) (λ e. clash (P 10) (subst (λ (x : ℕ). P x ≡ true) (eqb-true b 10 e) h) n)

pub clean_by : (P : ℕ → Bool) → P 10 ≡ false → (bs : List ℕ) → AllPass P bs → HasNoFeed bs
clean_by P n [] h = tt
clean_by P n (b ∷ bs) h = (not_feed P b n (All-head (λ y. P y ≡ true) b bs h), clean_by P n bs (All-tail (λ y. P y ≡ true) b bs h))

pub clean_append : (xs ys : List ℕ) → HasNoFeed xs → HasNoFeed ys → HasNoFeed (xs ++ ys)
clean_append [] ys h k = k
clean_append (x ∷ xs) ys h k = (h.0, clean_append xs ys h.1 k)

digits_pass : (ds : List ℕ) → all_ascii_digits ds ≡ true → AllPass is_ascii_digit ds
digits_pass [] h = All-nil (λ y. is_ascii_digit y ≡ true)
digits_pass (d ∷ ds) h =
    let both = and_parts (is_ascii_digit d) (all_ascii_digits ds) h in
    All-cons (λ y. is_ascii_digit y ≡ true) d ds both.0 (digits_pass ds both.1)

pub decimal_digits : (n : ℕ) → n < 2 ^ 64 → AllPass is_ascii_digit (decimal n)
decimal_digits n h = digits_pass (decimal n) (digits_decimal own n h)

pub decimal_clean : (n : ℕ) → n < 2 ^ 64 → HasNoFeed (decimal n)
decimal_clean n h = clean_by is_ascii_digit refl (decimal n) (decimal_digits n h)

pub token_clean : (t : Token) → IsToken t → HasNoFeed (spelling t)
token_clean (Name []) h = absurd h
token_clean (Name (b ∷ bs)) h = (not_feed is_name_byte b refl (start_is_name b h.0), clean_by is_name_byte refl bs h.1)
token_clean (Number (pos n)) h = decimal_clean n (omega (arith, h))
token_clean (Number (negsuc n)) h = (refl, decimal_clean (suc n) (omega (arith, h)))
token_clean (Mark b) h = (not_feed is_mark b refl h, tt)

gap_clean : (b : Bool) → HasNoFeed (cond b (32 ∷ []) [])
gap_clean true = (refl, tt)
gap_clean false = tt

after_clean : (t : Token) (ts : List Token) → All IsToken ts → HasNoFeed (after_token t ts)
after_clean t [] h = tt
after_clean t (u ∷ us) h =
    clean_append (space_between t u) (spelling u ++ after_token u us) (gap_clean (is_word t && is_word u))
    (clean_append (spelling u) (after_token u us) (token_clean u (All-head IsToken u us h)) (after_clean u us (All-tail IsToken u us h)))

pub line_clean : (ts : List Token) → All IsToken ts → HasNoFeed (line_of ts)
line_clean [] h = tt
line_clean (t ∷ []) h = token_clean t (All-head IsToken t [] h)
line_clean (t ∷ (u ∷ us)) h =
    let others : All IsToken (u ∷ us) = All-tail IsToken t (u ∷ us) h in
    clean_append (spelling t) (32 ∷ (spelling u ++ after_token u us)) (token_clean t (All-head IsToken t (u ∷ us) h))
    (refl, clean_append (spelling u) (after_token u us) (token_clean u (All-head IsToken u us others)) (after_clean u us (All-tail IsToken u us others)))
