use Rattle.std.proofs.Common.{◌≡◌, length}
use Rattle.temp_shapes.specs.Rows.{HasRows}
use Rattle.temp_shapes.proofs.rows.all_covering.Given as goal

abbrev pub invariant-loop-place : goal.invariant-loop-place
invariant-loop-place g l = record { long : length l.rows ≡ 137; filled : HasRows l.d l.rows l.place }
