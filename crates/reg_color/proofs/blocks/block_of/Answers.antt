use Rattle.std.proofs.Common.{List, [], subst}
use Rattle.temp_code.specs.declared.code.Transfer.{Transfer}
use Rattle.reg_color.specs.Putting.{StandFor}
use Rattle.reg_color.proofs.Endings.{block_made}
use Rattle.reg_color.proofs.blocks.block_of.Goals as goal

pub returns : goal.returns
returns g c =
    block_made c.args.m.now c.args.p.now c.args.block.now c.in_ok-made.made c.in_ok-body.body c.in_ok-body.end
    (subst (λ (ys : List Transfer). StandFor c.args.m.now c.args.p.now ys [] c.in_ok-made.made) c.as_slice.ensures c.in_ok-made.ensures) c.in_ok-body.ensures
