-- The temporaries of a binding that are in their homes, and the registers in which they stand while the transfer is made.
use Rattle.std.specs.Prelude.{ℕ, ◌==◌, ◌||◌, if◌then◌else◌, List, [], ◌∷◌, ◌++◌, Option, Some, None}
use Rattle.std.specs.Prelude.{is_some}
use Rattle.rtl_tree.specs.declared.cells.Cell.TheVariants.{Temp}
use Rattle.md_rows.specs.declared.instance.Bound.{Bound}
use Rattle.md_rows.specs.declared.instance.Bound.TheVariants.{Reg}
use Rattle.temp_machine.specs.Tidy.{is_among}
use Rattle.color_code.specs.Colors.{Seats}
use Rattle.color_graph.specs.Seats.{seats_in}
use Rattle.color_homes.specs.declared.places.Places.{Places}

-- each once
abbrev pub with_spilled : Seats → List ℕ → Bound → List ℕ
with_spilled seats ks (Reg (Temp k)) = if is_some (seats k) || is_among k ks then ks else ks ++ k ∷ []
with_spilled seats ks v = ks

abbrev pub spilled_in : Seats → List Bound → List ℕ
spilled_in seats [] = []
spilled_in seats (v ∷ vs) = with_spilled seats (spilled_in seats vs) v

-- the scratch register in the same place of its list
abbrev pub scratch_for : List ℕ → List ℕ → ℕ → ℕ
scratch_for [] rs k = 0
scratch_for (j ∷ js) [] k = 0
scratch_for (j ∷ js) (r ∷ rs) k = if j == k then r else scratch_for js rs k

abbrev pub seated_or : ℕ → Option ℕ → ℕ
seated_or scratch (Some register) = register
seated_or scratch None = scratch

-- a temporary stands in the register of its seat, or in its scratch register
abbrev pub register_in : Places → List ℕ → ℕ → ℕ
register_in p spilled k = seated_or (scratch_for spilled p.scratch.now k) (seats_in p.seats.now k)
