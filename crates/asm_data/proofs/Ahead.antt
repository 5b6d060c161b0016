-- The data part of a text, a line further.
use Rattle.std.proofs.Common.{◌≡◌, ℕ, List, [], ◌∷◌, refl, sym, ap, subst, ◌∙◌}
use Rattle.std.specs.List.{AllZip}
use Rattle.asm_token.specs.Tokens.{Token}
use Rattle.asm_program.specs.TextLines.{Said, Says}
use Rattle.asm_program.specs.Rules.{AreSaid}
use Rattle.asm_program.specs.Programs.{data_part}
use Rattle.asm_labels.specs.declared.saying.Said.{Said as Held}
use Rattle.asm_labels.specs.declared.saying.Said.TheVariants as held
use Rattle.asm_labels.specs.Seen.{seen}
use Rattle.asm_labels.proofs.Opening.{Opens}

-- the data part is that of the lines that are left
pub record IsAhead (all : List Said) (rest : List ℕ) : Type 0 where
  pub left : List Said
  pub said : AreSaid rest left
  pub same : data_part all ≡ data_part left

begins : (h : Held) (ts : List Token) (ss : List Said) → h ≡ held.DataBegins → data_part (seen h ts ∷ ss) ≡ ss
begins h ts ss e = subst (λ (x : Held). data_part (seen x ts ∷ ss) ≡ ss) (sym e) refl

passes : (h : Held) (ts : List Token) (ss : List Said) → (h ≡ held.DataBegins → ⊥) → data_part (seen h ts ∷ ss) ≡ data_part ss
passes held.DataBegins ts ss n = absurd (n refl)
passes held.Nothing ts ss n = refl
passes _ ts ss n = refl

module _ (all : List Said) (line rest behind : List ℕ) (x : Held) (left : List Said) where
  pub data_here : x ≡ held.DataBegins → data_part all ≡ data_part left → Opens left line behind x → AreSaid behind (data_part all)
  data_here e same o = subst (λ (ss : List Said). AreSaid behind ss) (sym (same ∙ ap data_part o.are ∙ begins x o.tokens o.behind e)) o.others

  pub data_later : (x ≡ held.DataBegins → ⊥) → data_part all ≡ data_part left → Opens left line behind x → IsAhead all behind
  data_later n same o = record { left = o.behind; said = o.others; same = same ∙ ap data_part o.are ∙ passes x o.tokens o.behind n }

none_left : (left : List Said) (rest : List ℕ) → rest ≡ [] → AreSaid rest left → left ≡ []
none_left left rest e a = by_lines left (subst (λ (xs : List ℕ). AreSaid xs left) e a)
  where
    by_lines : (ss : List Said) → AllZip Says [] ss → ss ≡ []
    by_lines [] a = refl
    by_lines (s ∷ ss) a = absurd a

pub no_data : (all : List Said) (rest : List ℕ) → rest ≡ [] → IsAhead all rest → AreSaid rest (data_part all)
no_data all rest e a =
    let none : a.left ≡ [] = none_left a.left rest e a.said in
    subst (λ (ss : List Said). AreSaid rest ss) (none ∙ sym (a.same ∙ ap data_part none)) a.said
