-- A text falls into one list of tokens, and a list of tokens that end one another is read from its bytes.
use Rattle.std.proofs.Common.{◌≡◌, ℕ, false, List, [], ◌∷◌, ◌++◌, length, refl, sym, ap, subst, ◌∙◌, arith, inl, inr}
use Rattle.asm_token.specs.Tokens.{IsName, is_name_byte}
use Rattle.rtl_spelling.specs.declared.signs.Sign.{Sign}
use Rattle.rtl_spelling.specs.declared.signs.Sign.TheVariants as sign
use Rattle.rtl_spelling.specs.Tokens.{Token, Word, Number, Mark, sign_bytes, spelling, spelled, IsNumber, IsToken, Longest, Lexes, at_end, one_token, Stuck, here, after}
use Rattle.rtl_spelling.specs.Spelling.{Context, IsContext, Said}
use Rattle.rtl_spelling.specs.Contract.{SpellsText}
use Rattle.rtl_spelling.specs.Law.{ends, IsEnded}
use Rattle.rtl_spelling.specs.Reading.{Trouble, reading}
use Rattle.std.specs.Prelude.{Ok, Result}
use Rattle.rtl_spelling.proofs.Shapes.{token_same, ended_longest, EndsAt, Ended, head_byte}
use Rattle.rtl_spelling.proofs.Answered.{spelled_is_read}

some_sign : (s : Sign) → IsToken (Mark s) → sign_bytes s ≡ [] → ⊥
some_sign sign.Space h e = absurd cc
some_sign sign.LeftBracket h e = absurd cc
some_sign sign.RightBracket h e = absurd cc
some_sign sign.LeftParen h e = absurd cc
some_sign sign.RightParen h e = absurd cc
some_sign sign.Semicolon h e = absurd cc
some_sign sign.Equals h e = absurd cc
some_sign sign.Plus h e = absurd cc
some_sign sign.Minus h e = absurd cc
some_sign sign.Star h e = absurd cc
some_sign sign.Ampersand h e = absurd cc
some_sign sign.Bar h e = absurd cc
some_sign sign.Caret h e = absurd cc
some_sign sign.Question h e = absurd cc
some_sign sign.Less h e = absurd cc
some_sign sign.Greater h e = absurd cc
some_sign sign.Arrow h e = absurd cc
some_sign sign.End h e = absurd h

no_number : (bs : List ℕ) → IsNumber bs → bs ≡ [] → ⊥
no_number bs (inl z) e = absurd (omega (arith, ap length z, ap length e))
no_number [] (inr (inl h)) e = absurd h
no_number (b ∷ bs) (inr (inl h)) e = absurd cc
no_number bs (inr (inr (ds, z, h))) e = absurd (omega (arith, ap length z, ap length e))

no_word : (bs : List ℕ) → IsName bs → bs ≡ [] → ⊥
no_word [] h e = absurd h
no_word (b ∷ bs) h e = absurd cc

-- each token has bytes
some_bytes : (t : Token) → IsToken t → spelling t ≡ [] → ⊥
some_bytes (Word bs) h e = no_word bs h e
some_bytes (Number bs) h e = no_number bs h e
some_bytes (Mark s) h e = some_sign s h e

empty_front : (xs ys : List ℕ) → xs ++ ys ≡ [] → xs ≡ []
empty_front [] ys e = refl
empty_front (x ∷ xs) ys e = absurd cc

same_parts : (xs ys a b : List ℕ) → xs ++ a ≡ ys ++ b → length xs ≡ length ys → (xs ≡ ys) × (a ≡ b)
same_parts [] [] a b e n = (refl, e)
same_parts [] (y ∷ ys) a b e n = absurd (omega (arith, n))
same_parts (x ∷ xs) [] a b e n = absurd (omega (arith, n))
same_parts (x ∷ xs) (y ∷ ys) a b e n =
    let p = head_byte x y (xs ++ a) (ys ++ b) e in
    let r = same_parts xs ys a b p.1 (omega (arith, n)) in
    (λ i. p.0 i ∷ r.0 i, r.1)

-- the longest tokens at the front of one text are one
record OneToken (t u : Token) (bs cs : List ℕ) : Type 0 where
  pub same : t ≡ u
  pub rest : bs ≡ cs

one_longest : (t u : Token) (bs cs : List ℕ) → IsToken t → IsToken u → Longest t bs → Longest u cs → spelling t ++ bs ≡ spelling u ++ cs → OneToken t u bs cs
one_longest t u bs cs h k l m e =
    let p = same_parts (spelling t) (spelling u) bs cs e (omega (arith, l.at_least u cs k e, m.at_least t bs h (sym e))) in
    record { same = token_same t u h k p.0; rest = p.1 }

pub lexed_same : (text bytes : List ℕ) (ts us : List Token) → Lexes text ts → Lexes bytes us → text ≡ bytes → ts ≡ us
lexed_same _ _ _ _ at_end at_end e = refl
lexed_same _ _ _ _ at_end (one_token u cs us k m i) e = absurd (some_bytes u k (empty_front (spelling u) cs (sym e)))
lexed_same _ _ _ _ (one_token t bs ts h l j) at_end e = absurd (some_bytes t h (empty_front (spelling t) bs e))
lexed_same _ _ _ _ (one_token t bs ts h l j) (one_token u cs us k m i) e =
    let o : OneToken t u bs cs = one_longest t u bs cs h k l m e in
    let rest : ts ≡ us = lexed_same bs cs ts us j i o.rest in
    λ n. o.same n ∷ rest n

pub at_most_one_lexed : (text : List ℕ) (ts us : List Token) → Lexes text ts → Lexes text us → ts ≡ us
at_most_one_lexed text ts us h k = lexed_same text text ts us h k refl

-- a text that is stuck falls into no tokens
pub stuck_unlexed : (text bytes : List ℕ) (p : ℕ) (ts : List Token) → Stuck text p → Lexes bytes ts → text ≡ bytes → ⊥
stuck_unlexed _ _ _ _ (here b bs no_token) at_end e = absurd cc
stuck_unlexed _ _ _ _ (here b bs no_token) (one_token u cs us k m i) e = no_token u cs k e
stuck_unlexed _ _ _ _ (after t bs p h l j) at_end e = absurd (some_bytes t h (empty_front (spelling t) bs e))
stuck_unlexed _ _ _ _ (after t bs p h l j) (one_token u cs us k m i) e = stuck_unlexed bs cs p us j i (one_longest t u bs cs h k l m e).rest

no_end : (t : Token) (ts : List Token) → IsToken t → ends (t ∷ ts) ≡ ends ts
no_end (Word bs) ts h = refl
no_end (Number bs) ts h = refl
no_end (Mark sign.End) ts h = absurd h
no_end (Mark s) ts h = refl

pub lexed_is_ended : (text : List ℕ) (ts : List Token) → Lexes text ts → IsEnded ts
lexed_is_ended _ _ at_end = record { body = []; is = refl; none = refl }
lexed_is_ended _ _ (one_token t bs ts h l j) =
    let r = lexed_is_ended bs ts j in
    record { body = t ∷ r.body; is = ap (λ l. t ∷ l) r.is; none = no_end t r.body h ∙ r.none }

-- a text is the bytes of its tokens
pub lexed_spelled : (text : List ℕ) (ts : List Token) → Lexes text ts → text ≡ spelled ts
lexed_spelled _ _ at_end = refl
lexed_spelled _ _ (one_token t bs ts h l j) = ap (λ l. spelling t ++ l) (lexed_spelled bs ts j)

abbrev said_ok : List Said → Result (List Said) Trouble
said_ok ms = Ok ms

ok_same : (a b : List Said) → said_ok a ≡ said_ok b → a ≡ b
ok_same a b e = cc

pub at_most_one_spelled : (c : Context) (text : List ℕ) (ms ns : List Said) → IsContext c → SpellsText c text ms → SpellsText c text ns → ms ≡ ns
at_most_one_spelled c text ms ns k s r =
    let same : s.tokens ≡ r.tokens = at_most_one_lexed text s.tokens r.tokens s.lexes r.lexes in
    ok_same ms ns (sym (spelled_is_read c k ms s.tokens s.spelled_by) ∙ ap (reading c) same ∙ spelled_is_read c k ns r.tokens r.spelled_by)

-- ---- tokens that end one another

-- what may stand behind a token, so that it is the longest there
abbrev pub MayFollow : Token → Token → Type 0
MayFollow (Mark sign.Minus) (Mark sign.Space) = Unit {0}
MayFollow (Mark sign.Minus) u = ⊥
MayFollow (Mark s) u = Unit {0}
MayFollow t (Mark s) = Unit {0}
MayFollow t u = ⊥

-- tokens and the end, each of which ends the one before
abbrev pub Written : List Token → Type 0
Written [] = ⊥
Written (t ∷ []) = t ≡ Mark sign.End
Written (t ∷ (u ∷ us)) = IsToken t × MayFollow t u × Written (u ∷ us)

any_end : (t : Token) (rest : List ℕ) → ((m : ℕ) → EndsAt t m) → Ended t rest
any_end t [] h = tt
any_end t (m ∷ ms) h = h m

sign_ended : (s : Sign) (u : Token) (rest : List ℕ) → MayFollow (Mark s) u → Ended (Mark s) (spelling u ++ rest)
sign_ended sign.Space u rest f = any_end (Mark sign.Space) (spelling u ++ rest) (λ m. tt)
sign_ended sign.LeftBracket u rest f = any_end (Mark sign.LeftBracket) (spelling u ++ rest) (λ m. tt)
sign_ended sign.RightBracket u rest f = any_end (Mark sign.RightBracket) (spelling u ++ rest) (λ m. tt)
sign_ended sign.LeftParen u rest f = any_end (Mark sign.LeftParen) (spelling u ++ rest) (λ m. tt)
sign_ended sign.RightParen u rest f = any_end (Mark sign.RightParen) (spelling u ++ rest) (λ m. tt)
sign_ended sign.Semicolon u rest f = any_end (Mark sign.Semicolon) (spelling u ++ rest) (λ m. tt)
sign_ended sign.Equals u rest f = any_end (Mark sign.Equals) (spelling u ++ rest) (λ m. tt)
sign_ended sign.Plus u rest f = any_end (Mark sign.Plus) (spelling u ++ rest) (λ m. tt)
sign_ended sign.Minus (Mark sign.Space) rest f = refl
sign_ended sign.Minus (Word bs) rest f = absurd f
sign_ended sign.Minus (Number bs) rest f = absurd f
sign_ended sign.Minus (Mark _) rest f = absurd f
sign_ended sign.Star u rest f = any_end (Mark sign.Star) (spelling u ++ rest) (λ m. tt)
sign_ended sign.Ampersand u rest f = any_end (Mark sign.Ampersand) (spelling u ++ rest) (λ m. tt)
sign_ended sign.Bar u rest f = any_end (Mark sign.Bar) (spelling u ++ rest) (λ m. tt)
sign_ended sign.Caret u rest f = any_end (Mark sign.Caret) (spelling u ++ rest) (λ m. tt)
sign_ended sign.Question u rest f = any_end (Mark sign.Question) (spelling u ++ rest) (λ m. tt)
sign_ended sign.Less u rest f = any_end (Mark sign.Less) (spelling u ++ rest) (λ m. tt)
sign_ended sign.Greater u rest f = any_end (Mark sign.Greater) (spelling u ++ rest) (λ m. tt)
sign_ended sign.Arrow u rest f = any_end (Mark sign.Arrow) (spelling u ++ rest) (λ m. tt)
sign_ended sign.End u rest f = any_end (Mark sign.End) (spelling u ++ rest) (λ m. tt)

-- a word or a number, as the bytes of names are concerned
record EndsByName (t : Token) : Type 0 where
  pub at : (m : ℕ) → is_name_byte m ≡ false → EndsAt t m

end_alone : (us : List Token) → Written (Mark sign.End ∷ us) → spelled us ≡ []
end_alone [] w = refl
end_alone (u ∷ us) w = absurd w.0

mark_behind : (t : Token) (s : Sign) (us : List Token) → EndsByName t → Written (Mark s ∷ us) → Ended t (sign_bytes s ++ spelled us)
mark_behind t sign.Space us h w = h.at 32 refl
mark_behind t sign.LeftBracket us h w = h.at 91 refl
mark_behind t sign.RightBracket us h w = h.at 93 refl
mark_behind t sign.LeftParen us h w = h.at 40 refl
mark_behind t sign.RightParen us h w = h.at 41 refl
mark_behind t sign.Semicolon us h w = h.at 59 refl
mark_behind t sign.Equals us h w = h.at 61 refl
mark_behind t sign.Plus us h w = h.at 43 refl
mark_behind t sign.Minus us h w = h.at 45 refl
mark_behind t sign.Star us h w = h.at 42 refl
mark_behind t sign.Ampersand us h w = h.at 38 refl
mark_behind t sign.Bar us h w = h.at 124 refl
mark_behind t sign.Caret us h w = h.at 94 refl
mark_behind t sign.Question us h w = h.at 63 refl
mark_behind t sign.Less us h w = h.at 60 refl
mark_behind t sign.Greater us h w = h.at 62 refl
mark_behind t sign.Arrow us h w = h.at 45 refl
mark_behind t sign.End us h w = subst (Ended t) (sym (end_alone us w)) tt

token_ended : (t u : Token) (us : List Token) → MayFollow t u → Written (u ∷ us) → Ended t (spelling u ++ spelled us)
token_ended (Mark s) u us f w = sign_ended s u (spelled us) f
token_ended (Word bs) (Mark s) us f w = mark_behind (Word bs) s us (record { at = λ m h. h }) w
token_ended (Number bs) (Mark s) us f w = mark_behind (Number bs) s us (record { at = λ m h. h }) w
token_ended (Word bs) (Word cs) us f w = absurd f
token_ended (Word bs) (Number cs) us f w = absurd f
token_ended (Number bs) (Word cs) us f w = absurd f
token_ended (Number bs) (Number cs) us f w = absurd f

end_lexed : (t : Token) → t ≡ Mark sign.End → Lexes (spelled (t ∷ [])) (t ∷ [])
end_lexed t e = subst (λ t. Lexes (spelled (t ∷ [])) (t ∷ [])) (sym e) at_end

-- written tokens are read from their bytes
pub written_lexed : (ts : List Token) → Written ts → Lexes (spelled ts) ts
written_lexed [] w = absurd w
written_lexed (t ∷ []) w = end_lexed t w
written_lexed (t ∷ (u ∷ us)) w =
    one_token t (spelled (u ∷ us)) (u ∷ us) w.0 (ended_longest t (spelled (u ∷ us)) w.0 (token_ended t u us w.1 w.2)) (written_lexed (u ∷ us) w.2)
