use Rattle.std.proofs.Common.{◌≡◌, take}
use Rattle.std.specs.Prelude.{filter}
use Rattle.rtl_tree.specs.declared.cells.Cell.TheVariants.{Temp}
use Rattle.temp_machine.specs.Cells.{reads}
use Rattle.color_homes.proofs.reading.all_read.Given as goal

abbrev pub invariant-loop-k : goal.invariant-loop-k
invariant-loop-k l = l.those.items ≡ filter (λ k. reads (Temp k) l.moves) (take l.k-index l.list)
