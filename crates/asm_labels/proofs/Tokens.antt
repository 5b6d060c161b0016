-- What a name and the tokens behind it say.
use Rattle.std.proofs.Common.{◌≡◌, ◌≢◌, ℕ, List, [], ◌∷◌, refl, sym, ap, subst, ◌∙◌}
use Rattle.asm_token.specs.Tokens.{Token, Name, Number, Mark}
use Rattle.asm_row.specs.Walk.{IsLine, IsToken}
use Rattle.asm_program.specs.TextLines.{Others, SayTokens}
use Rattle.asm_labels.specs.declared.saying.Said.{Said as Held}
use Rattle.asm_labels.specs.Seen.{seen}

-- the tokens behind a name are one alone
pub one_behind : (name behind rest : List ℕ) (t : Token) (h : Held) → IsToken behind t rest → ((ts : List Token) → IsLine rest ts → ts ≡ [])
    → SayTokens (Name name ∷ (t ∷ [])) (seen h (Name name ∷ (t ∷ []))) → (ts : List Token) → IsLine behind ts → SayTokens (Name name ∷ ts) (seen h (Name name ∷ ts))
one_behind name behind rest t h k e s ts l =
    let p = k.back ts l in
    let same : t ∷ [] ≡ ts = ap (λ (xs : List Token). t ∷ xs) (sym (e p.others p.line)) ∙ sym p.are in
    subst (λ (xs : List Token). SayTokens (Name name ∷ xs) (seen h (Name name ∷ xs))) same s

-- they are more
pub more_behind : (name behind rest : List ℕ) (t : Token) → IsToken behind t rest → ((ts : List Token) → IsLine rest ts → ts ≢ []) → (ts : List Token) → IsLine behind ts
    → SayTokens (Name name ∷ ts) (Others (Name name ∷ ts))
more_behind name behind rest t k n ts l =
    let p = k.back ts l in
    subst (λ (xs : List Token). SayTokens (Name name ∷ xs) (Others (Name name ∷ xs))) (sym p.are) (says t p.others (n p.others p.line))
  where
    says : (u : Token) (us : List Token) → us ≢ [] → SayTokens (Name name ∷ (u ∷ us)) (Others (Name name ∷ (u ∷ us)))
    says u [] f = absurd (f refl)
    says (Name m) (v ∷ us) f = refl
    says (Number z) (v ∷ us) f = refl
    says (Mark c) (v ∷ us) f = refl
