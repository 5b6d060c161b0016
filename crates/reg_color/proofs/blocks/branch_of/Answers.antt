use Rattle.reg_color.proofs.Endings.{branch_ends}
use Rattle.reg_color.proofs.blocks.branch_of.Goals as goal

pub returns : goal.returns
returns g c = branch_ends c.args.m.now c.args.p.now c.args.x.now c.in_ok-branch.branch c.args.body c.push_operands.new.body c.in_ok-branch.ensures
