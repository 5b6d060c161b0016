use Rattle.std.proofs.Common.{sym}
use Rattle.rtl_tree.specs.Trees.{tree_of}
use Rattle.flow_blocks.proofs.JumpLabels.{label_kept}
use Rattle.flow_blocks.proofs.jumps.label_of_value.Goals as goal

pub returns-in-Some : goal.returns-in-Some
returns-in-Some g c = sym (label_kept g.W.Word.BITS (tree_of c.args.value.now) c.in-Some.label (sym c.in-Some.ensures))
