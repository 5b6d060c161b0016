-- A line says one thing.
use Rattle.std.proofs.Common.{◌≡◌, ◌≢◌, ℕ, ◌==◌, Bool, true, false, MatchBool, List, [], ◌∷◌, get_or, refl, sym, ap, subst, ◌∙◌, arith}
use Rattle.std.specs.Prelude.{decimal}
use Rattle.std.specs.List.{AllZip}
use Rattle.std.proofs.lemmas.Fmt.{decimal_injective}
use Rattle.asm_token.specs.Tokens.{Token, Name, Number, Mark, IsGap, is_blank_or_tab}
use Rattle.asm_token.specs.Law.{AtMostOneSpelled}
use Rattle.asm_row.specs.Walk.{IsLine}
use Rattle.asm_program.specs.TextLines.{Label, Block, Symbol, IsLabel, Said, Labelled, Mislabelled, Others, SaysLabel, SayTokens, Says, too_long, skipped, no_tokens, tokens, is_skipped}

not_both : (b : Bool) → b ≡ true → b ≡ false → ⊥
not_both b e f = cc

same_rest : (x y : ℕ) (xs ys : List ℕ) → x ∷ xs ≡ y ∷ ys → xs ≡ ys
same_rest x y xs ys e = cc

different_first : (x y : ℕ) (xs ys : List ℕ) → x ≢ y → x ∷ xs ≡ y ∷ ys → ⊥
different_first x y xs ys n e = n (ap (λ (l : List ℕ). get_or l 0 0) e)

pub label_once : (name : List ℕ) (l k : Label) → IsLabel name l → IsLabel name k → l ≡ k
label_once name (Block a) (Block b) h q = ap Block (decimal_injective a b (omega (arith, h.0)) (omega (arith, q.0)) (same_rest 76 76 (decimal a) (decimal b) (sym h.1 ∙ q.1)))
label_once name (Block a) (Symbol s) h q = absurd (different_first 76 95 (decimal a) s (λ e. omega (arith, e)) (sym h.1 ∙ q.1))
label_once name (Symbol s) (Block b) h q = absurd (different_first 95 76 s (decimal b) (λ e. omega (arith, e)) (sym h.1 ∙ q.1))
label_once name (Symbol s) (Symbol t) h q = ap Symbol (same_rest 95 95 s t (sym h.1 ∙ q.1))

labels_say_once : (name : List ℕ) (s t : Said) → SaysLabel name s → SaysLabel name t → s ≡ t
labels_say_once name (Labelled l) (Labelled k) h q = ap Labelled (label_once name l k h q)
labels_say_once name (Labelled l) Mislabelled h q = absurd (q l h)
labels_say_once name (Labelled l) _ h q = absurd q
labels_say_once name Mislabelled (Labelled k) h q = absurd (h k q)
labels_say_once name Mislabelled Mislabelled h q = refl
labels_say_once name Mislabelled _ h q = absurd q
labels_say_once name _ t h q = absurd h

colon_once : (b : Bool) (name : List ℕ) (x s t : Said) → MatchBool b (SaysLabel name s) (s ≡ x) → MatchBool b (SaysLabel name t) (t ≡ x) → s ≡ t
colon_once true name x s t h q = labels_say_once name s t h q
colon_once false name x s t h q = h ∙ sym q

tokens_say_once : (ts : List Token) (s t : Said) → SayTokens ts s → SayTokens ts t → s ≡ t
tokens_say_once (Name name ∷ []) s t h q = h ∙ sym q
tokens_say_once (Name name ∷ (Number z ∷ [])) s t h q = h ∙ sym q
tokens_say_once (Name name ∷ (Mark c ∷ [])) s t h q = colon_once (c == 58) name (Others (Name name ∷ (Mark c ∷ []))) s t h q
tokens_say_once _ s t h q = h ∙ sym q

module _ (spelled : AtMostOneSpelled) (gap : IsGap is_blank_or_tab) (line : List ℕ) where
  by_tokens : (ts us : List Token) (s t : Said) → IsLine line ts → IsLine line us → SayTokens ts s → SayTokens us t → s ≡ t
  by_tokens ts us s t a b h q =
      tokens_say_once ts s t h (subst (λ (xs : List Token). SayTokens xs t) (sym (spelled is_blank_or_tab line ts us gap a b)) q)

  pub says_once : (s t : Said) → Says line s → Says line t → s ≡ t
  says_once s t (too_long h) (too_long k) = refl
  says_once s t (too_long h) (skipped k e) = absurd (omega arith)
  says_once s t (too_long h) (no_tokens k e n) = refl
  says_once s t (too_long h) (tokens us u k e a q) = absurd (omega arith)
  says_once s t (skipped h e) (too_long k) = absurd (omega arith)
  says_once s t (skipped h e) (skipped k f) = refl
  says_once s t (skipped h e) (no_tokens k f n) = absurd (not_both (is_skipped line) e f)
  says_once s t (skipped h e) (tokens us u k f a q) = absurd (not_both (is_skipped line) e f)
  says_once s t (no_tokens h e n) (too_long k) = refl
  says_once s t (no_tokens h e n) (skipped k f) = absurd (not_both (is_skipped line) f e)
  says_once s t (no_tokens h e n) (no_tokens k f m) = refl
  says_once s t (no_tokens h e n) (tokens us u k f a q) = absurd (n (us, a))
  says_once s t (tokens ts v h e a p) (too_long k) = absurd (omega arith)
  says_once s t (tokens ts v h e a p) (skipped k f) = absurd (not_both (is_skipped line) f e)
  says_once s t (tokens ts v h e a p) (no_tokens k f m) = absurd (m (ts, a))
  says_once s t (tokens ts v h e a p) (tokens us u k f b q) = by_tokens ts us v u a b p q

pub all_say_once : ((line : List ℕ) (s t : Said) → Says line s → Says line t → s ≡ t)
    → (lines : List (List ℕ)) (ss ts : List Said) → AllZip Says lines ss → AllZip Says lines ts → ss ≡ ts
all_say_once once [] [] [] a b = refl
all_say_once once [] [] (t ∷ ts) a b = absurd b
all_say_once once [] (s ∷ ss) ts a b = absurd a
all_say_once once (line ∷ lines) [] ts a b = absurd a
all_say_once once (line ∷ lines) (s ∷ ss) [] a b = absurd b
all_say_once once (line ∷ lines) (s ∷ ss) (t ∷ ts) a b =
    ap (λ (x : Said). x ∷ ss) (once line s t a.0 b.0) ∙ ap (λ (xs : List Said). t ∷ xs) (all_say_once once lines ss ts a.1 b.1)
