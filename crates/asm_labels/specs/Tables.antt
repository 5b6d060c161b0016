-- The labels of a text, ready to be found.
use Rattle.std.specs.Prelude.{◌≡◌, ℕ, Bool, true, false, nat_eq, List, Option, Some, None}
use Rattle.std.specs.HashMap.{get, get_by}
use Rattle.std.specs.Str.{bytes_eq}
use Rattle.asm_program.specs.declared.places.Place.{Place}
use Rattle.asm_program.specs.TextLines.{Label, Block, Symbol, Said}
use Rattle.asm_program.specs.Places.{first_place}
use Rattle.asm_program.specs.Rules.{AreSaid}
use Rattle.asm_labels.specs.declared.labels.Labels.{Labels}

abbrev pub place_in : Labels → Label → Option Place
place_in t (Block b) = get nat_eq t.blocks b
place_in t (Symbol s) = get_by (λ k. bytes_eq s k.now) t.symbols

-- a label that is met at a place keeps its first
abbrev pub kept : Option Place → Bool → Place → Option Place
kept (Some p) same q = Some p
kept None true q = Some q
kept None false q = None

-- where each label of the text stands first
pub record AreLabelsOf (text : List ℕ) (t : Labels) : Type 0 where
  pub all : List Said
  pub said : AreSaid text all
  pub each : (l : Label) → place_in t l ≡ first_place all l

-- the first of two
abbrev pub or_later : Option Place → Option Place → Option Place
or_later (Some p) q = Some p
or_later None q = q

-- the labels are those of these lines
abbrev pub AreLabels : List Said → Labels → Type 0
AreLabels all t = (l : Label) → place_in t l ≡ first_place all l
