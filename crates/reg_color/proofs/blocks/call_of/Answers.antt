use Rattle.reg_color.proofs.Endings.{call_ends}
use Rattle.reg_color.proofs.blocks.call_of.Goals as goal

pub returns : goal.returns
returns g c = call_ends c.args.m.now c.args.p.now c.args.x.now c.in_ok-call.call c.args.body c.requires c.in_ok-call.ensures
