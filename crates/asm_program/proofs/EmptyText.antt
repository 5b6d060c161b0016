-- The text of a program without instructions, and a text of which a rule is told.
use Rattle.std.proofs.Common.{◌≡◌, ◌≢◌, ℕ, ◌-◌, ◌≤◌, [], ◌∷◌, Some, None, Contains, refl, lit≤, true, arith}
use Rattle.std.specs.Prelude.{codes}
use Rattle.std.specs.List.{AllPass}
use Rattle.std.proofs.lemmas.List.Elements.{All-nil, All-cons}
use Rattle.asm_token.specs.Tokens.{Name, IsToken, is_name_byte, is_blank_or_tab}
use Rattle.asm_token.specs.Law.{LineReadsBack}
use Rattle.md_rows.specs.declared.description.RawDescription.{RawDescription}
use Rattle.asm_row.specs.Walk.{IsLine}
use Rattle.asm_program.specs.declared.rules.Rule.TheVariants.{Misplaced}
use Rattle.asm_program.specs.TextLines.{Label, TextBegins, Unreadable, Labelled, Says, tokens}
use Rattle.asm_program.specs.Places.{start, after}
use Rattle.asm_program.specs.Rules.{IsGood, IsTold, nothing, word_bytes}
use Rattle.asm_program.specs.Programs.{HasLabel, HasObject, IsProgramOf, IsText}
use Rattle.asm_program.specs.Law.{nothing_assembled}

no_item : {A : Type 0} (x : A) → None ≡ Some x → ⊥
no_item x e = cc

no_element : {A : Type 0} (x : A) → Contains [] x → ⊥
no_element x c = absurd (omega (arith, c.1))

module _ (back : LineReadsBack) (d : RawDescription) (room : d.base ≤ d.memory - d.stack) where
  abbrev Passes : ℕ → Type 0
  Passes b = is_name_byte b ≡ true

  letters : AllPass is_name_byte (codes "text")
  letters = All-cons Passes 116 (codes "ext") refl (All-cons Passes 101 (codes "xt") refl (All-cons Passes 120 (codes "t") refl (All-cons Passes 116 [] refl (All-nil Passes))))

  is_line : IsLine (codes ".text") (Name (codes ".text") ∷ [])
  is_line = back is_blank_or_tab (Name (codes ".text") ∷ []) refl (All-cons IsToken (Name (codes ".text")) [] (refl, letters) (All-nil IsToken))

  says : Says (codes ".text") TextBegins
  says = tokens (Name (codes ".text") ∷ []) TextBegins (lit≤ tt) refl is_line refl

  not_unreadable : TextBegins ≢ Unreadable
  not_unreadable e = cc

  no_label : (l : Label) → TextBegins ≡ Labelled l → ⊥
  no_label l e = cc

  good : IsGood d (TextBegins ∷ []) start TextBegins
  good = record {
    readable = not_unreadable;
    made = λ ts e. absurd (no_item ts e);
    first = λ l e. absurd (no_label l e);
    in_place = refl;
    within = record { instructions = omega arith; statics = omega arith; names = lit≤ tt };
  }

  program : IsProgramOf d (TextBegins ∷ []) nothing_assembled
  program = record {
    lines = tt;
    labels = λ l at. (λ (h : HasLabel nothing_assembled l at). absurd (no_element _ h.has), λ c. absurd (no_element _ c));
    addresses = refl;
    objects = λ name address. (λ (h : HasObject nothing_assembled name address). absurd (no_item _ h.has_address), λ c. absurd (no_element _ c));
    bytes = refl;
  }

  pub empty_text : IsText d (codes ".text") nothing_assembled
  empty_text = record {
    saids = TextBegins ∷ [];
    said = (says, tt);
    sound = record { last = after (word_bytes d) start TextBegins; walks = (good, refl); begun = λ e. cc };
    program = program;
  }

pub told_text : (d : RawDescription) → IsTold d [] 1 Misplaced
told_text d = nothing refl refl
