use Rattle.reg_color.proofs.Endings.{jump_ends}
use Rattle.reg_color.proofs.blocks.jump_of.Goals as goal

pub returns : goal.returns
returns g c = jump_ends c.args.m.now c.args.p.now c.args.x.now c.in_ok-jump.jump c.args.body c.push_operands.new.body c.in_ok-jump.ensures
