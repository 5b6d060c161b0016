use Rattle.temp_shapes.specs.Operands.{open_of}
use Rattle.naive_builder.proofs.Putting.{made_by}
use Rattle.naive_builder.proofs.instructions.covered.Goals as goal

pub returns : goal.returns
returns g c =
    made_by c.args.m.now c.args.rows.now c.args.pattern (open_of c.args.at) c.transfer_of.result c.requires.operands c.transfer_of.ensures.shape
    c.transfer_of.ensures.elementary
