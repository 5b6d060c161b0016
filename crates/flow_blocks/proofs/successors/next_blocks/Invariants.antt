use Rattle.std.proofs.Common.{◌≡◌, length, map}
use Rattle.temp_code.specs.Routines.{block_of}
use Rattle.flow_blocks.specs.Making.{AreSuccessorsTo}
use Rattle.flow_blocks.proofs.successors.next_blocks.Given as goal

abbrev pub invariant-loop-at : goal.invariant-loop-at
invariant-loop-at g l = (length l.next ≡ l.at) × AreSuccessorsTo l.at g.W.Word.BITS (map block_of l.blocks) l.next
