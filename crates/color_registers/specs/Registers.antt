-- Scratch registers and colours of a description.
use Rattle.std.specs.Prelude.{◌≡◌, ℕ, ◌≤◌, if◌then◌else◌, List, [], ◌∷◌, length, take, drop}
use Rattle.md_rows.specs.declared.description.RawDescription.{RawDescription}
use Rattle.md_rows.specs.declared.description.Register.{Register}
use Rattle.md_text.specs.Rules.{is_general}
use Rattle.md_check.specs.Accepted.{most_registers}
use Rattle.color_registers.specs.declared.Registers.{Registers}

-- the numbers of the general registers, in the order of their lines
abbrev pub general_numbers : List Register → List ℕ
general_numbers [] = []
general_numbers (r ∷ rs) = if is_general r.role then r.number ∷ general_numbers rs else general_numbers rs

-- the first of them, as many as a row has register holes at most
abbrev pub scratch_of : RawDescription → List ℕ
scratch_of d = take (most_registers d.rows) (general_numbers d.registers)

-- and the others
abbrev pub colors_of : RawDescription → List ℕ
colors_of d = drop (most_registers d.rows) (general_numbers d.registers)

abbrev pub scratch_in : Registers → List ℕ
scratch_in r = take r.scratch r.general.items

abbrev pub colors_in : Registers → List ℕ
colors_in r = drop r.scratch r.general.items

pub record AreRegisters (d : RawDescription) (r : Registers) : Type 0 where
  pub within : r.scratch ≤ length r.general.items
  pub scratch : scratch_in r ≡ scratch_of d
  pub colors : colors_in r ≡ colors_of d
