use Rattle.std.proofs.Common.{arith}
use Rattle.color_graph.proofs.Bitwise.{keeps_all}
use Rattle.color_graph.proofs.words.keep.Goals as goal

pub returns : goal.returns
returns c =
    keeps_all c.args.words.now c.args.other.now c.loop-i.words c.loop-i.i (let l = c.loop-i-test.false in let e = c.loop-i.auto.i-end in omega (arith, l, e))
    c.loop-i.invariant
