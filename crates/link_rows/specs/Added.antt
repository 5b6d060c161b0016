-- The instructions that linking adds: what the search in the row of a shape finds.
use Rattle.std.specs.Prelude.{◌≡◌, ℕ, Bool, true, false, List, take, length, get_or, slice_get, Option, Some, None}
use Rattle.rtl_tree.specs.Moves.{Move}
use Rattle.rtl_tree.specs.declared.cells.Lab.{Lab}
use Rattle.md_rows.specs.declared.description.RawDescription.{RawDescription}
use Rattle.md_rows.specs.declared.row.Row.{Row}
use Rattle.md_rows.specs.declared.instance.Instance.{Instance}
use Rattle.md_match.specs.Slots.{Slots, fit_of, no_slots}
use Rattle.md_match.specs.Searches.{Search, match_all, no_marks}
use Rattle.md_match.specs.Does.{known}
use Rattle.md_shapes.specs.declared.patterns.Pattern.{Pattern}
use Rattle.md_shapes.specs.declared.patterns.Pattern.TheVariants.{MoveStack, SetStack, Call, Return, SaveLink, RestoreLink, Halt}
use Rattle.md_shapes.specs.Shapes.{Open, shape_moves}
use Rattle.md_shapes.specs.Drawings.{frame_of}
use Rattle.md_covers.specs.Covers.{general_bits}
use Rattle.temp_shapes.specs.declared.rows.ShapeRows.{ShapeRows}
use Rattle.temp_laws.specs.Conditions.{on_temporaries}

-- the shapes of the transfers that linking adds
abbrev pub is_added : Pattern → Bool
is_added SetStack = true
is_added MoveStack = true
is_added Call = true
is_added Return = true
is_added SaveLink = true
is_added RestoreLink = true
is_added Halt = true
is_added p = false

-- where they stand in the list of the shapes
abbrev pub place_in : Pattern → ℕ
place_in MoveStack = 11
place_in SetStack = 12
place_in Call = 118
place_in Return = 119
place_in SaveLink = 120
place_in RestoreLink = 121
place_in p = 124

-- the search for a transfer in a row: its other assignments may go to any flag, and name no general register by its number
abbrev pub search_in : ℕ → ℕ → Row → Search
search_in w g row = record { fit = fit_of w g row.holes; count = length row.holes; flags = 255; barred = g; row = row.normal }

abbrev pub bound_by : Row → ℕ → Option Slots → Option Instance
bound_by row place (Some s) = Some (record { row = place; binding = known (take (length row.holes) s) })
bound_by row place None = None

-- the instruction of a row that does a transfer
abbrev pub made_by : ℕ → ℕ → List Move → ℕ → Row → Option Instance
made_by w g ms place row = bound_by row place (match_all (search_in w g row) ms no_marks no_slots)

abbrev pub made_in : RawDescription → List Move → ℕ → Option Row → Option Instance
made_in d ms place (Some row) = made_by d.word (general_bits d.registers) ms place row
made_in d ms place None = None

abbrev pub made_at : RawDescription → List Move → Option ℕ → Option Instance
made_at d ms (Some place) = made_in d ms place (slice_get d.rows place)
made_at d ms None = None

-- the instruction that the table's row makes for a shape, at a number and a label
abbrev pub found : RawDescription → ShapeRows → Pattern → ℕ → Lab → Option Instance
found d t pattern n l = made_at d (shape_moves (frame_of d.word t.frame) pattern (on_temporaries 0 1 n 0 l)) (get_or t.rows (place_in pattern) None)
