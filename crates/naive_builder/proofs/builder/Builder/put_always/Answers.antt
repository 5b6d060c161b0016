use Rattle.temp_shapes.specs.Operands.{open_of}
use Rattle.naive_code.specs.Operations as code
use Rattle.naive_builder.proofs.Putting.{operands_of, puts_one}
use Rattle.naive_builder.proofs.builder.Builder.put_always.Goals as goal

pub always_covered-requires-clause-operands : goal.always_covered-requires-clause-operands
always_covered-requires-clause-operands g c = operands_of c.args.m.now c.args.pattern (open_of c.on_two.result) (code.on_two c.args.a c.args.b) c.on_two.ensures tt tt c.requires.number

pub returns-clause-code : goal.returns-clause-code
returns-clause-code g c =
    puts_one c.args.m.now c.args.rows.now c.args.self.now c.put.new.self c.args.pattern (open_of c.on_two.result) (code.on_two c.args.a c.args.b) c.in_ok-transfer.transfer
    c.on_two.ensures c.requires.body c.in_ok-transfer.ensures c.in_ok-put.ensures.code
