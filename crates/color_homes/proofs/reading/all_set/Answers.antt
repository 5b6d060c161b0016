use Rattle.rtl_tree.specs.declared.cells.Cell.TheVariants.{Temp}
use Rattle.temp_machine.specs.Cells.{sets}
use Rattle.color_homes.proofs.Lists.{filter_next}
use Rattle.color_homes.proofs.reading.all_set.Goals as goal

pub loop-k-preserved : goal.loop-k-preserved
loop-k-preserved c =
    filter_next (λ k. sets (Temp k) c.args.moves.now) c.args.list.now c.loop-k.k-index _ c.loop-k.those.items c.in_ok-those.those.items c.loop-k-test.true c.loop-k.invariant
    c.in_ok-those.ensures
