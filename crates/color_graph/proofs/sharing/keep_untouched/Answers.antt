use Rattle.std.proofs.Common.{Bool, not, ap, ◌∙◌}
use Rattle.std.specs.Prelude.{◌&&◌}
use Rattle.rtl_tree.specs.declared.cells.Cell.TheVariants.{Temp}
use Rattle.rtl_tree.specs.Same.{same_cell}
use Rattle.temp_machine.specs.Cells.{some_set}
use Rattle.flow_live.specs.Rows.{has_temporary}
use Rattle.color_graph.proofs.Apart.{and_more}
use Rattle.color_graph.proofs.sharing.keep_untouched.Goals as goal

pub returns : goal.returns
returns c = λ j.
    c.remove_set.ensures j
    ∙ ap (λ (b : Bool). b && not (some_set (same_cell (Temp j)) c.args.moves.now)) (c.keep.ensures j)
    ∙ and_more (has_temporary c.args.row.now j) (has_temporary c.args.dead.now j) (not (some_set (same_cell (Temp j)) c.args.moves.now))
