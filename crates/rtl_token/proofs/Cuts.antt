-- Cutting a text into tokens.
use Rattle.std.proofs.Common.{◌≡◌, ℕ, ◌+◌, ◌<◌, ◌≤◌, List, [], ◌∷◌, ◌++◌, length, drop, sym, ◌-◌, length-drop, ap, subst, ◌∙◌, arith, append_assoc}
use Rattle.rtl_spelling.specs.declared.signs.Sign.TheVariants as sign
use Rattle.rtl_spelling.specs.Tokens.{Token, Mark, spelling, BeginsNoToken, Lexes, at_end, one_token, Stuck, here, after}
use Rattle.rtl_token.specs.Length.{LongestToken}
use Rattle.rtl_token.specs.Seen.{token_of, tokens_of}
use Rattle.rtl_token.specs.declared.token.Token.{Token as Borrowed}
use Rattle.rtl_token.specs.declared.token.Token.TheVariants as borrowed
use Rattle.std.proofs.lemmas.List.{map-append}

-- the tokens so far lead to the rest of the text, at this place
pub record LexedTo (text rest : List ℕ) (ts : List Token) (at : ℕ) : Type 0 where
  pub onward : (us : List Token) → Lexes rest us → Lexes text (ts ++ us)
  pub stuck : (p : ℕ) → Stuck rest p → Stuck text (at + p)
  pub place : at + length rest ≡ length text

before_token : (text : List ℕ) (t : Token) (n : ℕ) (us : List Token) → LongestToken text t n → Lexes (drop n text) us → Lexes text (t ∷ us)
before_token text t n us l h =
    let P : List ℕ → Type 0 = λ ds. Lexes ds (t ∷ us) in
    subst P (sym l.spelled) (one_token t (drop n text) us l.is_token l.longest h)

stuck_behind : (text : List ℕ) (t : Token) (n p : ℕ) → LongestToken text t n → Stuck (drop n text) p → Stuck text (n + p)
stuck_behind text t n p l h =
    let P : List ℕ → Type 0 = λ ds. Stuck ds (length (spelling t) + p) in
    let Q : ℕ → Type 0 = λ k. Stuck text (k + p) in
    subst Q l.bytes (subst P (sym l.spelled) (after t (drop n text) p l.is_token l.longest h))

moved : (text rest next : List ℕ) (ts : List Token) (t : Token) (at n : ℕ) → LexedTo text rest ts at → LongestToken rest t n → n ≤ length rest → next ≡ drop n rest → LexedTo text next (ts ++ t ∷ []) (at + n)
moved text rest next ts t at n f l m e = record {
  onward = λ us h.
      (let P : List ℕ → Type 0 = λ ds. Lexes ds us in
      let Q : List Token → Type 0 = λ vs. Lexes text vs in
      subst Q (sym (append_assoc ts (t ∷ []) us)) (f.onward (t ∷ us) (before_token rest t n us l (subst P e h))));
  stuck = λ p h.
      (let P : List ℕ → Type 0 = λ ds. Stuck ds p in
      let Q : ℕ → Type 0 = λ q. Stuck text q in
      let same : at + (n + p) ≡ at + n + p = omega arith in
      subst Q same (f.stuck (n + p) (stuck_behind rest t n p l (subst P e h))));
  place = (let size : length next ≡ length rest - n = ap length e ∙ length-drop n rest in omega (arith, f.place));
}

-- a token was pushed
pub past_token : (text rest next : List ℕ) (old new : List Borrowed) (t : Borrowed) (at n : ℕ) → LexedTo text rest (tokens_of old) at → LongestToken rest (token_of t) n → n ≤ length rest → next ≡ drop n rest → new ≡ old ++ t ∷ [] → LexedTo text next (tokens_of new) (at + n)
past_token text rest next old new t at n f l m e p =
    let P : List Token → Type 0 = λ us. LexedTo text next us (at + n) in
    let same : tokens_of new ≡ tokens_of old ++ token_of t ∷ [] = ap tokens_of p ∙ map-append token_of old (t ∷ []) in
    subst P (sym same) (moved text rest next (tokens_of old) (token_of t) at n f l m e)

-- the end was pushed
pub whole : (text rest : List ℕ) (old new : List Borrowed) (at : ℕ) → LexedTo text rest (tokens_of old) at → length rest ≡ 0 → new ≡ old ++ borrowed.Mark sign.End ∷ [] → Lexes text (tokens_of new)
whole text [] old new at f z p =
    let P : List Token → Type 0 = λ us. Lexes text us in
    let same : tokens_of new ≡ tokens_of old ++ Mark sign.End ∷ [] = ap tokens_of p ∙ map-append token_of old (borrowed.Mark sign.End ∷ []) in
    subst P (sym same) (f.onward (Mark sign.End ∷ []) at_end)
whole text (b ∷ bs) old new at f z p = absurd (omega arith)

pub stuck_here : (text rest : List ℕ) (ts : List Token) (at : ℕ) → LexedTo text rest ts at → 0 < length rest → BeginsNoToken rest → Stuck text at
stuck_here text [] ts at f l h = absurd (omega arith)
stuck_here text (b ∷ bs) ts at f l h =
    let P : ℕ → Type 0 = λ q. Stuck text q in
    let same : at + 0 ≡ at = omega arith in
    subst P same (f.stuck 0 (here b bs h))
