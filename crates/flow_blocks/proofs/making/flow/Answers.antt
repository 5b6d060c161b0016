use Rattle.std.proofs.Common.{◌≡◌, List, length, map, sym, subst}
use Rattle.temp_code.specs.declared.code.Block.{Block}
use Rattle.temp_code.specs.Routines.{block_of, routine_of}
use Rattle.flow_blocks.specs.declared.flows.Next.{Next}
use Rattle.flow_blocks.specs.Making.{AreSuccessors, ArePreviousTo, listed}
use Rattle.flow_blocks.proofs.Previous.{flow_made}
use Rattle.flow_blocks.proofs.making.flow.Goals as goal

pub returns : goal.returns
returns g c =
    flow_made g.W.Word.BITS (routine_of c.args.c.now) (record { next = c.in_ok-next.next; previous = c.in_ok-previous.previous })
    (subst (λ (bs : List Block). AreSuccessors g.W.Word.BITS (map block_of bs) c.in_ok-next.next) c.as_slice-blocks.ensures c.in_ok-next.ensures)
    (subst (λ (next : List Next). ArePreviousTo (length next) (length next) next (listed c.in_ok-previous.previous.items)) c.as_slice.ensures c.in_ok-previous.ensures.previous)
