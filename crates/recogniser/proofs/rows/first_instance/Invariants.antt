use Rattle.std.proofs.Common.{◌≡◌, ◌<◌, ℕ, slice_get, Some}
use Rattle.md_rows.specs.declared.row.Row.{Row}
use Rattle.recogniser.specs.Searching.{IsDoneByNone, idle_of}
use Rattle.recogniser.proofs.rows.first_instance.Given as goal

-- no row so far does it
abbrev pub invariant-loop-place : goal.invariant-loop-place
invariant-loop-place l =
    (k : ℕ) (row : Row) → k < l.place → slice_get l.q.description.now.rows k ≡ Some row
    → IsDoneByNone l.q.description.now (idle_of l.q) l.q.transfer.now row
