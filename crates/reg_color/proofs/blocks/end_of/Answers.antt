use Rattle.std.proofs.Common.{subst, sym}
use Rattle.temp_code.specs.declared.code.End.{End}
use Rattle.temp_code.specs.declared.code.End.TheVariants.{Fall, Return}
use Rattle.reg_color.specs.Putting.{EndsWith}
use Rattle.reg_color.proofs.Endings.{fall_ends, return_ends}
use Rattle.reg_color.proofs.blocks.end_of.Goals as goal

pub returns-in-Fall : goal.returns-in-Fall
returns-in-Fall g c =
    subst (λ (e : End). EndsWith c.args.m.now c.args.p.now e c.args.body c.args.body Fall) (sym c.in-Fall.is) (fall_ends c.args.m.now c.args.p.now c.args.body)

pub returns-in-Return : goal.returns-in-Return
returns-in-Return g c =
    subst (λ (e : End). EndsWith c.args.m.now c.args.p.now e c.args.body c.args.body Return) (sym c.in-Return.is) (return_ends c.args.m.now c.args.p.now c.args.body)
