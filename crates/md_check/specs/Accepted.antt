-- The rules of a whole description, which of them is told, and which texts are accepted.
use Rattle.std.specs.Prelude.{◌≡◌, ◌≢◌, ◌⊎◌, ◌↔◌, ℕ, ◌+◌, ◌<◌, ◌≤◌, max, Bool, true, false, not, ◌&&◌, ◌||◌, ◌==◌, nat_le, IsTrue, List, [], ◌∷◌, map, count_by, slice_get, is_some, Option, Some, None}
use Rattle.rtl_word.specs.declared.Rel.{Rel}
use Rattle.rtl_word.specs.declared.Rel.TheVariants.{Eq}
use Rattle.rtl_norm.specs.Transfers.{norm_moves}
use Rattle.md_rows.specs.declared.description.RawDescription.{RawDescription}
use Rattle.md_rows.specs.declared.description.Register.{Register}
use Rattle.md_rows.specs.declared.description.Role.TheVariants.{Link}
use Rattle.md_rows.specs.declared.row.Row.{Row}
use Rattle.md_rows.specs.declared.row.Hole.{Hole}
use Rattle.md_rows.specs.declared.row.Hole.TheVariants.{Reg as RegHole}
use Rattle.md_text.specs.Rules.{is_general}
use Rattle.md_text.specs.Accepted.{Rule as TextRule, number_of as text_rule_number, Told as TextTold, Says}
use Rattle.md_overlap.specs.Overlap.{HasOverlap}
use Rattle.md_shapes.specs.declared.table.Shape.{Shape}
use Rattle.md_shapes.specs.Shapes.{plain}
use Rattle.md_covers.specs.Covers.{Covers, first_with}

-- rows with their normal forms

abbrev pub normalised_row : ℕ → Row → Row
normalised_row w r = record { line = r.line; text = r.text; holes = r.holes; effects = r.effects; normal = norm_moves w r.effects }

abbrev pub normalised : RawDescription → RawDescription
normalised d = record {
  name = d.name;
  word = d.word;
  memory = d.memory;
  base = d.base;
  stack = d.stack;
  registers = d.registers;
  flags = d.flags;
  rows = map (normalised_row d.word) d.rows;
  last = d.last;
}

-- registers

abbrev pub general_count : List Register → ℕ
general_count rs = count_by (λ r. is_general r.role) rs

abbrev pub is_register_hole : Hole → Bool
is_register_hole (RegHole class) = true
is_register_hole _ = false

-- the greatest number of register holes of a row
abbrev pub most_registers : List Row → ℕ
most_registers [] = 0
most_registers (r ∷ rs) = max (count_by is_register_hole r.holes) (most_registers rs)

-- shapes

-- some row covers a transfer of a shape
pub record IsCovered (d : RawDescription) (s : Shape) : Type 0 where
  pub at : ℕ
  pub row : Row
  pub has : slice_get d.rows at ≡ Some row
  pub covers : Covers d row s

abbrev pub shape : ℕ → ℕ → Rel → ℕ → Shape
shape number form relation flag = record { number = number; form = form; relation = relation; flag = flag }

-- by one flag a comparison and a jump are covered
pub record IsFlagBranch (d : RawDescription) (relation : Rel) : Type 0 where
  pub flag : ℕ
  pub is_flag : flag < 8
  pub compares : IsCovered d (shape 20 1 Eq flag)
  pub jumps : IsCovered d (shape 20 2 relation flag)

-- the shape of a number is covered: shape 18 by one of its two transfers, and shape 20 for each relation by the direct jump or by a flag
pub record HasShape (d : RawDescription) (n : ℕ) : Type 0 where
  pub other : n ≢ 18 → n ≢ 20 → IsCovered d (plain n)
  pub clearing : n ≡ 18 → IsCovered d (plain 18) ⊎ IsCovered d (shape 18 1 Eq 0)
  pub branching : n ≡ 20 → (relation : Rel) → IsCovered d (shape 20 0 relation 0) ⊎ IsFlagBranch d relation

abbrev pub has_link : RawDescription → Bool
has_link d = is_some (first_with Link d.registers)

-- the shapes 1 to 29; those of the link register, 23 and 24, where there is one
abbrev pub is_required : RawDescription → ℕ → Bool
is_required d n = nat_le 1 n && (nat_le n 29 && (not (n == 23 || n == 24) || has_link d))

-- a required shape is not covered
pub record MissesShape (d : RawDescription) (n : ℕ) : Type 0 where
  pub required : IsTrue (is_required d n)
  pub missing : HasShape d n → ⊥

-- the rules of a whole description

pub data Rule : Type 0 where
  Overlapping : Rule
  FewRegisters : Rule
  MissingShape : Rule

abbrev pub number_of : Rule → ℕ
number_of Overlapping = 15
number_of FewRegisters = 16
number_of MissingShape = 17

-- fewer general registers than a row's register holes and one more, told at the last line
pub record HasFewRegisters (d : RawDescription) (line detail : ℕ) : Type 0 where
  pub few : general_count d.registers < most_registers d.rows + 1
  pub last : line ≡ d.last
  pub none : detail ≡ 0

-- a required shape that no row covers, told at the last line
pub record LacksShape (d : RawDescription) (line detail : ℕ) : Type 0 where
  pub misses : MissesShape (normalised d) detail
  pub last : line ≡ d.last

-- the description breaks this rule at this line, with this detail
abbrev pub Breaks : Rule → RawDescription → ℕ → ℕ → Type 0
Breaks Overlapping d line detail = HasOverlap d line detail
Breaks FewRegisters d line detail = HasFewRegisters d line detail
Breaks MissingShape d line detail = LacksShape d line detail

-- the least rule that the description breaks, at the least line, with the least detail
pub record Told (d : RawDescription) (rule : Rule) (line detail : ℕ) : Type 0 where
  pub broken : Breaks rule d line detail
  pub least_rule : (r : Rule) (l e : ℕ) → number_of r < number_of rule → Breaks r d l e → ⊥
  pub least_line : (l e : ℕ) → Breaks rule d l e → line ≤ l
  pub least_detail : (e : ℕ) → Breaks rule d line e → detail ≤ e

-- the description breaks none of these rules
abbrev pub IsWhole : RawDescription → Type 0
IsWhole d = (rule : Rule) (line detail : ℕ) → Breaks rule d line detail → ⊥

-- texts

-- the text breaks no rule, and says this description
pub record IsAcceptedText (text : List ℕ) (d : RawDescription) : Type 0 where
  pub says : Says text d
  pub whole : IsWhole d

-- the text breaks this rule at this line, with this detail, and no lesser one
pub data IsRefusedText (text : List ℕ) : ℕ → ℕ → ℕ → Type 0 where
  by_text : (r : TextRule) (line : ℕ) → TextTold text r line → IsRefusedText text line (text_rule_number r) 0
  by_whole : (d : RawDescription) (r : Rule) (line detail : ℕ) → Says text d → Told d r line detail → IsRefusedText text line (number_of r) detail
