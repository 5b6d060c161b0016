-- What the program holds of a line, as what the line says.
use Rattle.std.specs.Prelude.{ℕ, ◌==◌, Bool, not, List}
use Rattle.asm_token.specs.Tokens.{Token}
use Rattle.asm_row.specs.Walk.{IsLine}
use Rattle.asm_labels.specs.declared.saying.Label.{Label as HeldLabel}
use Rattle.asm_labels.specs.declared.saying.Label.TheVariants as heldlabel
use Rattle.asm_labels.specs.declared.saying.Said.{Said as Held}
use Rattle.asm_labels.specs.declared.saying.Said.TheVariants as held
use Rattle.asm_program.specs.TextLines.{Label, Block, Symbol, Said, Nothing, Unreadable, TextBegins, DataBegins, Labelled, Mislabelled, Word, Byte, Space, Others, Says}

-- no line feed
abbrev pub is_within_line : ℕ → Bool
is_within_line b = not (b == 10)

abbrev pub label_of : HeldLabel → Label
label_of (heldlabel.Block b) = Block b
label_of (heldlabel.Symbol s) = Symbol s.now

-- what a line of these tokens says
abbrev pub seen : Held → List Token → Said
seen held.Nothing ts = Nothing
seen held.Unreadable ts = Unreadable
seen held.TextBegins ts = TextBegins
seen held.DataBegins ts = DataBegins
seen (held.Labelled l) ts = Labelled (label_of l)
seen held.Mislabelled ts = Mislabelled
seen (held.Word z) ts = Word z
seen (held.Byte z) ts = Byte z
seen (held.Space z) ts = Space z
seen held.Others ts = Others ts

abbrev pub OnOthers : Held → Type 0 → Type 0
OnOthers held.Others P = P
OnOthers _ P = Unit {0}

-- the line says this
pub record IsSaid (line : List ℕ) (h : Held) : Type 0 where
  pub tokens : List Token
  pub says : Says line (seen h tokens)
  pub are : OnOthers h (IsLine line tokens)
