use Rattle.temp_shapes.specs.Operands.{open_of}
use Rattle.md_shapes.specs.declared.patterns.Pattern.TheVariants as shape
use Rattle.temp_code.specs.declared.code.End.TheVariants.{Jump}
use Rattle.naive_code.specs.Operations.{Jumps}
use Rattle.naive_run.specs.Standing.{with_label}
use Rattle.naive_builder.specs.Appending.{jumps}
use Rattle.naive_builder.proofs.Putting.{operands_of, made_at, emits_plain_end}
use Rattle.naive_builder.proofs.builder.Builder.jump.Goals as goal

pub always_covered-requires-clause-operands : goal.always_covered-requires-clause-operands
always_covered-requires-clause-operands g c = operands_of c.args.m.now shape.Jump (open_of c.with_label.result) (with_label c.args.target) c.with_label.ensures tt tt tt

pub returns-clause-code : goal.returns-clause-code
returns-clause-code g c =
    let made = made_at c.args.m.now c.args.rows.now shape.Jump (open_of c.with_label.result) (with_label c.args.target) c.in_ok-transfer.transfer c.with_label.ensures c.in_ok-transfer.ensures in
    emits_plain_end c.args.m.now c.args.rows.now c.args.self.now c.close.new.self (Jumps c.args.target) c.args.opened (Jump c.in_ok-transfer.transfer)
    (jumps c.args.target c.in_ok-transfer.transfer made) c.in_ok-close.ensures.code
