use Rattle.std.specs.Prelude.{◌≡◌, map}
use Rattle.temp_code.specs.Routines.{block_of}
use Rattle.flow_loops.specs.Looping.{marks_to}
use Rattle.flow_loops.proofs.looping.loops.Given as goal

abbrev pub invariant-loop-before : goal.invariant-loop-before
invariant-loop-before l = l.marks.items ≡ marks_to l.f (map block_of l.blocks) l.before
