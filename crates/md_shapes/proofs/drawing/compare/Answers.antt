use Rattle.md_match.specs.Slots.{fit_of}
use Rattle.md_shapes.proofs.Others.{other_leaf}
use Rattle.md_shapes.proofs.drawing.compare.Goals as goal

pub returns-in_default-5 : goal.returns-in_default-5
returns-in_default-5 c =
    other_leaf (fit_of c.args.bits c.args.general c.args.holes.now) c.args.row.now c.args.e.now c.args.slots
    c.in_default.not-Num-0 c.in_default.not-Sym-0 c.in_default.not-Label-0 c.in_default.not-Cell-0 c.in_default.not-NumHole-0 c.in_default.not-NameHole-0
