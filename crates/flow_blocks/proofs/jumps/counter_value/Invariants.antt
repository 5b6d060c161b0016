use Rattle.std.proofs.Common.{◌≡◌, drop}
use Rattle.rtl_tree.specs.declared.cells.Cell.TheVariants.{Pc}
use Rattle.rtl_effect.specs.Effects.{assigned}
use Rattle.flow_blocks.proofs.jumps.counter_value.Given as goal

abbrev pub invariant-loop-i : goal.invariant-loop-i
invariant-loop-i l = assigned (drop l.i l.moves) Pc ≡ assigned l.moves Pc
