use Rattle.std.proofs.Common.{refl, arith}
use Rattle.frame_link.proofs.Names.{one_more, all_apart}
use Rattle.frame_link.proofs.conditions.are_apart.Goals as goal

pub loop-function-init : goal.loop-function-init
loop-function-init c = λ i name l. absurd (omega (arith, l))

pub loop-function-preserved : goal.loop-function-preserved
loop-function-preserved c = one_more c.args.objects.now c.args.functions.now c.loop-function.function c.loop-function.invariant (c.if-not-is_apart.ensures refl)

pub returns : goal.returns
returns c = λ t.
    all_apart c.args.objects.now c.args.functions.now c.loop-function.function
    (let l = c.loop-function-test.false in let e = c.len-function-end.ensures.len in omega (arith, l, e)) c.loop-function.invariant
