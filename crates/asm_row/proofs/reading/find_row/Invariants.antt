use Rattle.std.proofs.Common.{◌≡◌, ℕ, ◌<◌, List, Some, slice_get}
use Rattle.asm_token.specs.Tokens.{Token}
use Rattle.md_rows.specs.declared.row.Row.{Row}
use Rattle.asm_row.specs.Walk.{IsLine}
use Rattle.asm_row.specs.Reading.{Value, IsReading}
use Rattle.asm_row.proofs.reading.find_row.Given as goal

abbrev pub invariant-loop-place : goal.invariant-loop-place
invariant-loop-place l =
    (ts : List Token) → IsLine l.text ts → (k : ℕ) (row : Row) (vs : List Value) → k < l.place → slice_get l.d.rows k ≡ Some row → IsReading l.d row ts vs → ⊥
