use Rattle.std.proofs.Common.{List, sym, subst}
use Rattle.temp_code.specs.declared.code.Transfer.{Transfer}
use Rattle.reg_color.specs.Putting.{StandFor}
use Rattle.reg_color.proofs.Bodies.{none_left, all_dropped, next_left}
use Rattle.reg_color.proofs.blocks.body_of.Goals as goal

pub loop-x-init : goal.loop-x-init
loop-x-init g c after s = subst (λ (ys : List Transfer). StandFor c.args.m.now c.args.p.now c.args.body.now ys after) c.new-made.ensures s

pub loop-x-preserved : goal.loop-x-preserved
loop-x-preserved g c =
    next_left c.args.m.now c.args.p.now c.args.body.now c.loop-x.x-index c.x-item.result c.loop-x.made c.in_ok-made.made c.loop-x-test.true c.x-item.is c.loop-x.invariant c.in_ok-made.ensures

pub returns : goal.returns
returns g c =
    c.loop-x.invariant c.loop-x.made
    (subst (λ (ys : List Transfer). StandFor c.args.m.now c.args.p.now ys c.loop-x.made c.loop-x.made)
    (sym (all_dropped c.args.body.now c.loop-x.x-index c.loop-x-test.false)) (none_left c.args.m.now c.args.p.now c.loop-x.made))
