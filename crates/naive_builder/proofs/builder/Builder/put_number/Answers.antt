use Rattle.temp_shapes.specs.Operands.{open_of}
use Rattle.naive_code.specs.Operations as code
use Rattle.naive_builder.proofs.Putting.{operands_of, puts_one}
use Rattle.naive_builder.proofs.builder.Builder.put_number.Goals as goal

pub always_covered-requires-clause-operands : goal.always_covered-requires-clause-operands
always_covered-requires-clause-operands g c = operands_of c.args.m.now c.args.pattern (open_of c.with_number.result) (code.with_number c.args.a c.args.number) c.with_number.ensures tt tt c.requires.number

pub returns-clause-code : goal.returns-clause-code
returns-clause-code g c =
    puts_one c.args.m.now c.args.rows.now c.args.self.now c.put.new.self c.args.pattern (open_of c.with_number.result) (code.with_number c.args.a c.args.number) c.in_ok-transfer.transfer
    c.with_number.ensures c.requires.body c.in_ok-transfer.ensures c.in_ok-put.ensures.code
