use Rattle.std.proofs.Common.{arith}
use Rattle.color_graph.proofs.Greedily.{held_none, held_next, held_done}
use Rattle.color_graph.proofs.seating.held.Goals as goal

pub loop-j-init : goal.loop-j-init
loop-j-init c = held_none c.args.graph.now c.args.seats.now

pub loop-j-preserved : goal.loop-j-preserved
loop-j-preserved c = held_next c.loop-j.j c.args.graph.now c.args.seats.now c.loop-j.marks c.mark_neighbour.new.marks c.mark_neighbour.ensures c.loop-j.invariant

pub returns : goal.returns
returns c =
    held_done c.loop-j.j c.args.graph.now c.args.seats.now c.loop-j.marks (let l = c.loop-j-test.false in let e = c.loop-j.auto.j-end in omega (arith, l, e)) c.loop-j.invariant
