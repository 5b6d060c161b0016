use Rattle.std.proofs.Common.{arith}
use Rattle.color_graph.proofs.Apart.{all_next, all_done}
use Rattle.color_graph.proofs.sharing.part_all.Goals as goal

pub loop-at-preserved : goal.loop-at-preserved
loop-at-preserved c =
    all_next c.loop-at.at c.args.dead.now c.args.rows.now.items c.loop-at.rows.items c.part_live.new.rows.items c.part_live.ensures.count c.part_live.ensures.rows c.loop-at.invariant

pub returns-clause-rows : goal.returns-clause-rows
returns-clause-rows c =
    all_done c.loop-at.at c.args.dead.now c.args.rows.now.items c.loop-at.rows.items (let l = c.loop-at-test.false in let e = c.loop-at.auto.at-end in omega (arith, l, e))
    c.loop-at.invariant
