-- The label of a line has a C name.
use Rattle.std.proofs.Common.{◌≡◌, ℕ, ◌==◌, ℤ, Bool, true, false, cond, MatchBool, List, [], ◌∷◌, subst}
use Rattle.std.specs.Prelude.{codes}
use Rattle.std.specs.Str.{bytes_eq}
use Rattle.asm_token.specs.Tokens.{Token, Name, Number, Mark}
use Rattle.rtl_tree.specs.Names.{IsName}
use Rattle.asm_program.specs.TextLines.{Symbol, Said, TextBegins, DataBegins, Word, Byte, Space, Labelled, Others, Says, too_long, skipped, no_tokens, tokens, SaysLabel, SayTokens}

module _ (s : List ℕ) where
  name_says : (a b : Bool) (x : Said) → (Labelled (Symbol s) ≡ x → ⊥) → Labelled (Symbol s) ≡ cond a TextBegins (cond b DataBegins x) → ⊥
  name_says true b x n e = cc
  name_says false true x n e = cc
  name_says false false x n e = n e

  number_says : (a b c : Bool) (z : ℤ) (x : Said) → (Labelled (Symbol s) ≡ x → ⊥) → Labelled (Symbol s) ≡ cond a (Word z) (cond b (Byte z) (cond c (Space z) x)) → ⊥
  number_says true b c z x n e = cc
  number_says false true c z x n e = cc
  number_says false false true z x n e = cc
  number_says false false false z x n e = n e

  label_says : (b : Bool) (name : List ℕ) (x : Said) → (Labelled (Symbol s) ≡ x → ⊥) → MatchBool b (SaysLabel name (Labelled (Symbol s))) (Labelled (Symbol s) ≡ x) → IsName s
  label_says true name x n h = h.0
  label_says false name x n h = absurd (n h)

  no_others : (ts : List Token) → Labelled (Symbol s) ≡ Others ts → ⊥
  no_others ts e = cc

  said_name : (ts : List Token) → SayTokens ts (Labelled (Symbol s)) → IsName s
  said_name (Name name ∷ []) q = absurd (name_says (bytes_eq name (codes ".text")) (bytes_eq name (codes ".data")) (Others (Name name ∷ [])) (no_others (Name name ∷ [])) q)
  said_name (Name name ∷ (Number z ∷ [])) q =
      absurd (number_says (bytes_eq name (codes ".word")) (bytes_eq name (codes ".byte")) (bytes_eq name (codes ".space")) z (Others (Name name ∷ (Number z ∷ [])))
      (no_others (Name name ∷ (Number z ∷ []))) q)
  said_name (Name name ∷ (Mark c ∷ [])) q = label_says (c == 58) name (Others (Name name ∷ (Mark c ∷ []))) (no_others (Name name ∷ (Mark c ∷ []))) q
  said_name _ q = absurd (cc)

  pub label_has_name : (line : List ℕ) (x : Said) → Says line x → x ≡ Labelled (Symbol s) → IsName s
  label_has_name line x (too_long h) e = absurd (cc)
  label_has_name line x (skipped h k) e = absurd (cc)
  label_has_name line x (no_tokens h k n) e = absurd (cc)
  label_has_name line x (tokens ts t h k a q) e = said_name ts (subst (λ (y : Said). SayTokens ts y) e q)
