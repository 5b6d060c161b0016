use Rattle.reg_color.proofs.Bodies.{stands}
use Rattle.reg_color.proofs.blocks.with_transfer.Goals as goal

pub returns : goal.returns
returns g c = stands c.args.m.now c.args.p.now c.args.x.now c.args.made c.push_transfer.new.body c.requires.may c.in_ok-push_transfer.ensures
