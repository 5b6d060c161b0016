-- What the longest token, a gap and the end tell of the tokens that a text spells.
use Rattle.std.proofs.Common.{◌≡◌, ℕ, ◌^◌, ◌<◌, ◌≤◌, ℤ, pos, negsuc, Bool, false, eqb, List, [], ◌∷◌, ◌++◌, length, take, drop, refl, sym, ap, subst, ◌∙◌, arith, length-append, inl, inr}
use Rattle.std.proofs.lemmas.Bool.{eqb-true, or_cases, both_ways}
use Rattle.std.proofs.lemmas.Fmt.{signed_decimal_injective}
use Rattle.std.proofs.lemmas.List.{take_at, drop_at}
use Rattle.std.specs.Int.RustNames.{unsigned_abs}
use Rattle.std.specs.Prelude.{IsTrue}
use lib.Signed.{mag}
use Rattle.asm_token.specs.Tokens.{Token, Name, Number, Mark, IsToken, spelling, Longest, LongestToken, BeginsNoToken, IsGap, Spells, at_end, after_gap, one_token, is_blank, is_blank_or_tab}
use Rattle.asm_token.specs.Length.{token_length}
use Rattle.asm_token.proofs.Lengths.{token_nonempty, kind, same_kind}
use Rattle.asm_token.proofs.Front.{no_token}

mag_fits : (z : ℤ) → unsigned_abs z < 10 ^ 10 → mag z < 2 ^ 63
mag_fits (pos n) h = omega arith
mag_fits (negsuc n) h = omega arith

same_by_kind : (t u : Token) → IsToken t → IsToken u → spelling t ≡ spelling u → kind t ≡ kind u → t ≡ u
same_by_kind (Name bs) (Name cs) h k e q = ap Name e
same_by_kind (Name bs) (Number z) h k e q = absurd (omega arith)
same_by_kind (Name bs) (Mark c) h k e q = absurd (omega arith)
same_by_kind (Number y) (Name cs) h k e q = absurd (omega arith)
same_by_kind (Number y) (Number z) h k e q = ap Number (signed_decimal_injective y z (mag_fits y h) (mag_fits z k) e)
same_by_kind (Number y) (Mark c) h k e q = absurd (omega arith)
same_by_kind (Mark b) (Name cs) h k e q = absurd (omega arith)
same_by_kind (Mark b) (Number z) h k e q = absurd (omega arith)
same_by_kind (Mark b) (Mark c) h k e q = ap Mark (let f : b ≡ c = cc in f)

-- tokens differ in their spelling
pub same_token : (t u : Token) → IsToken t → IsToken u → spelling t ≡ spelling u → t ≡ u
same_token t u h k e = same_by_kind t u h k e (same_kind t u h k e)

-- at most one longest token begins a text
pub same_longest : (t u : Token) (r s : List ℕ) → IsToken t → IsToken u → Longest t r → Longest u s → spelling t ++ r ≡ spelling u ++ s → (t ≡ u) × (r ≡ s)
same_longest t u r s h k p q e =
    let l : length (spelling u) ≤ length (spelling t) = p.at_least u s k e in
    let m : length (spelling t) ≤ length (spelling u) = q.at_least t r h (sym e) in
    let n : length (spelling u) ≡ length (spelling t) = omega arith in
    let a : take (length (spelling t)) (spelling t ++ r) ≡ spelling t = take_at (spelling t) r (length (spelling t)) refl in
    let b : take (length (spelling t)) (spelling u ++ s) ≡ spelling u = take_at (spelling u) s (length (spelling t)) n in
    let c : drop (length (spelling t)) (spelling t ++ r) ≡ r = drop_at (spelling t) r (length (spelling t)) refl in
    let d : drop (length (spelling t)) (spelling u ++ s) ≡ s = drop_at (spelling u) s (length (spelling t)) n in
    (same_token t u h k (sym a ∙ ap (take (length (spelling t))) e ∙ b), sym c ∙ ap (drop (length (spelling t))) e ∙ d)

-- the end

pub nothing_left : (gap : ℕ → Bool) (bs : List ℕ) (ts : List Token) → Spells gap bs ts → bs ≡ [] → ts ≡ []
nothing_left gap _ _ at_end e = refl
nothing_left gap _ _ (after_gap b bs ts g h) e = cc
nothing_left gap _ _ (one_token t bs ts k l h) e =
    let some : 0 < length (spelling t) = token_nonempty t k in
    absurd (omega (arith, length-append (spelling t) bs, ap length e))

-- a gap

pub past_gap : (gap : ℕ → Bool) (b : ℕ) (bs cs : List ℕ) (ts : List Token) → IsGap gap → IsTrue (gap b) → Spells gap cs ts → cs ≡ b ∷ bs → Spells gap bs ts
past_gap gap b bs _ _ apart g at_end e = cc
past_gap gap b bs _ _ apart g (after_gap c cs ts k h) e =
    let P : List ℕ → Type 0 = λ ds. Spells gap ds ts in
    let same : cs ≡ bs = cc in
    subst P same h
past_gap gap b bs _ _ apart g (one_token t cs ts k l h) e = absurd (apart.apart b bs g t cs k (sym e))

-- a token

-- the tokens are t and those of what is left
pub record Next (gap : ℕ → Bool) (t : Token) (rest : List ℕ) (ts : List Token) : Type 0 where
  pub others : List Token
  pub is : ts ≡ t ∷ others
  pub spelled : Spells gap rest others

next_from : (gap : ℕ → Bool) (t u : Token) (r s : List ℕ) (us : List Token) → u ≡ t → s ≡ r → Spells gap s us → Next gap t r (u ∷ us)
next_from gap t u r s us e f h =
    let P : List ℕ → Type 0 = λ ds. Spells gap ds us in
    record { others = us; is = ap (λ v. v ∷ us) e; spelled = subst P f h }

next_token : (gap : ℕ → Bool) (t : Token) (rest cs : List ℕ) (ts : List Token) → IsGap gap → IsToken t → Longest t rest → Spells gap cs ts → cs ≡ spelling t ++ rest → Next gap t rest ts
next_token gap t rest _ _ apart k l at_end e =
    let some : 0 < length (spelling t) = token_nonempty t k in
    absurd (omega (arith, length-append (spelling t) rest, ap length e))
next_token gap t rest _ _ apart k l (after_gap c cs ts g h) e = absurd (apart.apart c cs g t rest k e)
next_token gap t rest _ _ apart k l (one_token u cs ts i m h) e =
    let both = same_longest u t cs rest i k m l e in
    next_from gap t u rest cs ts both.0 both.1 h

-- a text that begins with the longest token t spells t and then the tokens of what is left
pub past_token : (gap : ℕ → Bool) (text : List ℕ) (t : Token) (n : ℕ) (ts : List Token) → IsGap gap → LongestToken text t n → Spells gap text ts → Next gap t (drop n text) ts
past_token gap text t n ts apart l h = next_token gap t (drop n text) text ts apart l.is_token l.longest h l.spelled

-- where neither a token nor a gap begins, the text spells nothing
no_list : (gap : ℕ → Bool) (b : ℕ) (bs cs : List ℕ) (ts : List Token) → gap b ≡ false → BeginsNoToken (b ∷ bs) → Spells gap cs ts → cs ≡ b ∷ bs → ⊥
no_list gap b bs _ _ g none at_end e = cc
no_list gap b bs _ _ g none (after_gap c cs ts k h) e =
    let same : c ≡ b = cc in
    both_ways (gap c) (ap gap same ∙ g) k
no_list gap b bs _ _ g none (one_token t cs ts k l h) e = none t cs k (sym e)

pub no_tokens : (gap : ℕ → Bool) (b : ℕ) (bs : List ℕ) (ts : List Token) → gap b ≡ false → BeginsNoToken (b ∷ bs) → Spells gap (b ∷ bs) ts → ⊥
no_tokens gap b bs ts g none h = no_list gap b bs (b ∷ bs) ts g none h refl

-- a text spells at most one list of tokens
pub spelled_once : (gap : ℕ → Bool) (bs : List ℕ) (ts us : List Token) → IsGap gap → Spells gap bs ts → Spells gap bs us → ts ≡ us
spelled_once gap _ _ us apart at_end k = sym (nothing_left gap [] us k refl)
spelled_once gap _ _ us apart (after_gap b bs ts g h) k =
    spelled_once gap bs ts us apart h (past_gap gap b bs (b ∷ bs) us apart g k refl)
spelled_once gap _ _ us apart (one_token t bs ts i l h) k =
    let next : Next gap t bs us = next_token gap t bs (spelling t ++ bs) us apart i l k refl in
    ap (λ vs. t ∷ vs) (spelled_once gap bs ts next.others apart h next.spelled) ∙ sym next.is

-- the gaps in use

no_token_at : (b c : ℕ) (bs : List ℕ) → b ≡ c → token_length (c ∷ bs) ≡ 0 → BeginsNoToken (b ∷ bs)
no_token_at b c bs e z = no_token (b ∷ bs) (ap (λ d. token_length (d ∷ bs)) e ∙ z)

pub blank_is_gap : IsGap is_blank
blank_is_gap = record { apart = λ b bs g. no_token_at b 32 bs (eqb-true b 32 g) refl }

pub blank_or_tab_is_gap : IsGap is_blank_or_tab
blank_or_tab_is_gap = record {
  apart = λ b bs g.
      elim (or_cases (eqb b 32) (eqb b 9) g) [ inl e ↦ no_token_at b 32 bs (eqb-true b 32 e) refl | inr e ↦ no_token_at b 9 bs (eqb-true b 9 e) refl ];
}
