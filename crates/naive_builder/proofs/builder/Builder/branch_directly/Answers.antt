use Rattle.temp_shapes.specs.Operands.{open_of}
use Rattle.md_shapes.specs.declared.patterns.Pattern.TheVariants as shape
use Rattle.temp_code.specs.declared.code.End.TheVariants.{Branch}
use Rattle.naive_code.specs.Operations.{Branches}
use Rattle.naive_run.specs.Standing.{on_two_to}
use Rattle.naive_builder.specs.Appending.{branches}
use Rattle.naive_builder.proofs.Putting.{operands_of, made_at, emits_plain_end}
use Rattle.naive_builder.proofs.builder.Builder.branch_directly.Goals as goal

pub covered-requires-clause-operands : goal.covered-requires-clause-operands
covered-requires-clause-operands g c = operands_of c.args.m.now (shape.Branch c.args.relation) (open_of c.on_two_to-at.result) (on_two_to c.args.a c.args.b c.args.target) c.on_two_to-at.ensures tt tt tt

pub returns-clause-code : goal.returns-clause-code
returns-clause-code g c =
    let made = made_at c.args.m.now c.args.rows.now (shape.Branch c.args.relation) (open_of c.on_two_to-at.result) (on_two_to c.args.a c.args.b c.args.target) c.in_ok-jump.jump c.on_two_to-at.ensures
    c.in_ok-jump.ensures in
    emits_plain_end c.args.m.now c.args.rows.now c.args.self.now c.close.new.self (Branches c.args.relation c.args.a c.args.b c.args.target) c.args.opened
    (Branch c.in_ok-jump.jump) (branches c.args.relation c.args.a c.args.b c.args.target c.in_ok-jump.jump made) c.in_ok-close.ensures.code
