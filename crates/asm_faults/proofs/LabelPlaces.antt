-- Where labels stand, by the table.
use Rattle.std.proofs.Common.{◌≡◌, ℕ, ◌↔◌, Bool, true, false, IsTrue, List, Option, Some, refl, sym, ap, subst, ◌∙◌}
use Rattle.asm_token.specs.Tokens.{Token}
use denote.Enum.Bare.{sameb}
use Rattle.asm_program.specs.contracts.places.Part.{the_type}
use Rattle.asm_program.specs.declared.places.Part.{Part}
use Rattle.asm_program.specs.declared.places.Part.TheVariants.{Outside, InText, InData}
use Rattle.asm_program.specs.declared.places.Place.{Place}
use Rattle.asm_program.specs.TextLines.{Label, Said, Labelled}
use Rattle.asm_program.specs.Places.{first_place}
use Rattle.asm_program.specs.Rules.{StandsAt, StandsIn}
use Rattle.asm_labels.specs.declared.saying.Label.{Label as HeldLabel}
use Rattle.asm_labels.specs.declared.saying.Said.{Said as Held}
use Rattle.asm_labels.specs.declared.saying.Said.TheVariants as held
use Rattle.asm_labels.specs.Seen.{label_of, seen}
use Rattle.asm_faults.specs.Checks.{IsFirstHere}

not_both : (b : Bool) → b ≡ true → b ≡ false → ⊥
not_both b e f = cc

abbrev apart : (p q : Part) → Bool → Type 0
apart p q b = (b ≡ true → p ≡ q) × (p ≡ q → b ≡ true)

pub same_part : (p q : Part) (b : Bool) → b ≡ sameb the_type p q → apart p q b
same_part Outside Outside b e = ((λ t. refl), λ q. e)
same_part InText InText b e = ((λ t. refl), λ q. e)
same_part InData InData b e = ((λ t. refl), λ q. e)
same_part Outside InText b e = ((λ t. absurd (not_both b t e)), λ q. absurd (cc))
same_part Outside InData b e = ((λ t. absurd (not_both b t e)), λ q. absurd (cc))
same_part InText Outside b e = ((λ t. absurd (not_both b t e)), λ q. absurd (cc))
same_part InText InData b e = ((λ t. absurd (not_both b t e)), λ q. absurd (cc))
same_part InData Outside b e = ((λ t. absurd (not_both b t e)), λ q. absurd (cc))
same_part InData InText b e = ((λ t. absurd (not_both b t e)), λ q. absurd (cc))

same_place : (p q : Place) → Some p ≡ Some q → p ≡ q
same_place p q e = cc

module _ (all : List Said) (l : Label) (q : Place) where
  -- a label's part is that of its first place
  pub stands_in : (o : Option Place) → o ≡ first_place all l → o ≡ Some q → (b : Bool) (part : Part) → ((b ≡ true → q.part ≡ part) × (q.part ≡ part → b ≡ true)) → IsTrue b ↔ StandsIn all l part
  stands_in o e f b part d = (
    (λ t. record { line = q.line; first = sym e ∙ f ∙ ap (λ (x : Part). Some (record { line = q.line; part = x })) (d.0 t) }),
    λ s. d.1 (ap (λ (x : Place). x.part) (same_place q (record { line = s.line; part = part }) (sym f ∙ e ∙ s.first))),
  )

-- the label of a line that has one
pub first_here : (all : List Said) (line : ℕ) (h : Held) (l : HeldLabel) (ts : List Token) (b : Bool) → h ≡ held.Labelled l → (IsTrue b ↔ StandsAt all (label_of l) line)
    → IsTrue b ↔ IsFirstHere all line (seen h ts)
first_here all line h l ts b e d = (
  (λ t k q. subst (λ (x : Label). StandsAt all x line) (same_label (label_of l) k (sym (ap (λ (x : Held). seen x ts) e) ∙ q)) (d.0 t)),
  λ f. d.1 (f (label_of l) (ap (λ (x : Held). seen x ts) e)),
)
  where
    same_label : (x y : Label) → Labelled x ≡ Labelled y → x ≡ y
    same_label x y e = cc
