-- The parts round a bar with a space on either side.
use Rattle.std.proofs.Common.{◌≡◌, ℕ, eqb, List, [], ◌∷◌, ◌++◌, refl, sym, ap, ◌∙◌, codes}
use Rattle.std.proofs.lemmas.Bool.{and_parts}
use Rattle.std.proofs.lemmas.List.{append_assoc}
use Rattle.std.proofs.lemmas.List.Folds.{list_all-append}
use Rattle.std.specs.Prelude.{not}
use Rattle.md_text.specs.Lines.{lacks}
use Rattle.md_text.proofs.Bytes.{lacks_both}
use Rattle.md_lines.specs.Parts.{IsSplitAtByte, IsSplitAtBar}
use Rattle.md_lines.proofs.Places.{split_once}

front_and_space : (front back : List ℕ) → front ++ (codes " | " ++ back) ≡ (front ++ 32 ∷ []) ++ 124 ∷ (32 ∷ back)
front_and_space front back = sym (append_assoc front (32 ∷ []) (124 ∷ (32 ∷ back)))

pub at_bar : (text front back : List ℕ) → IsSplitAtBar text front back → IsSplitAtByte 124 text (front ++ 32 ∷ []) (32 ∷ back)
at_bar text front back h = record { text = h.text ∙ front_and_space front back; first = lacks_both 124 front (32 ∷ []) h.first refl }

pub bar_found : (text before after front back : List ℕ) → IsSplitAtByte 124 text before after → before ≡ front ++ codes " " → after ≡ codes " " ++ back → IsSplitAtBar text front back
bar_found text before after front back h e f = record {
  text = h.text ∙ ap (λ x. x ++ 124 ∷ after) e ∙ ap (λ x. (front ++ codes " ") ++ 124 ∷ x) f ∙ sym (front_and_space front back);
  first = (and_parts (lacks 124 front) (lacks 124 (codes " ")) (sym (list_all-append (λ c. not (eqb c 124)) front (codes " ")) ∙ ap (lacks 124) (sym e) ∙ h.first)).0;
}

pub no_front : (text before after : List ℕ) → IsSplitAtByte 124 text before after → ((front : List ℕ) → before ≡ front ++ codes " " → ⊥) → (front back : List ℕ) → IsSplitAtBar text front back → ⊥
no_front text before after h none front back k =
    none front (split_once 124 text before after (front ++ 32 ∷ []) (32 ∷ back) h (at_bar text front back k)).0

pub no_back : (text before after : List ℕ) → IsSplitAtByte 124 text before after → ((back : List ℕ) → after ≡ codes " " ++ back → ⊥) → (front back : List ℕ) → IsSplitAtBar text front back → ⊥
no_back text before after h none front back k =
    none back (split_once 124 text before after (front ++ 32 ∷ []) (32 ∷ back) h (at_bar text front back k)).1
