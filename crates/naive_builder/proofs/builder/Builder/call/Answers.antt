use Rattle.temp_shapes.specs.Operands.{open_of}
use Rattle.md_shapes.specs.declared.patterns.Pattern.TheVariants as shape
use Rattle.temp_code.specs.declared.code.End.TheVariants.{Call}
use Rattle.naive_code.specs.Operations.{Calls}
use Rattle.naive_builder.specs.Appending.{with_function, calls}
use Rattle.naive_builder.proofs.Putting.{operands_of, made_at, emits_plain_end}
use Rattle.naive_builder.proofs.builder.Builder.call.Goals as goal

pub always_covered-requires-clause-operands : goal.always_covered-requires-clause-operands
always_covered-requires-clause-operands g c = operands_of c.args.m.now shape.Call (open_of c.with_function.result) (with_function c.args.function) c.with_function.ensures tt tt tt

pub returns-clause-code : goal.returns-clause-code
returns-clause-code g c =
    let made = made_at c.args.m.now c.args.rows.now shape.Call (open_of c.with_function.result) (with_function c.args.function) c.in_ok-transfer.transfer c.with_function.ensures c.in_ok-transfer.ensures in
    emits_plain_end c.args.m.now c.args.rows.now c.args.self.now c.close.new.self (Calls c.args.function) c.args.opened (Call c.in_ok-transfer.transfer)
    (calls c.args.function c.in_ok-transfer.transfer made) c.in_ok-close.ensures.code
