use Rattle.md_shapes.specs.declared.patterns.Pattern.TheVariants as shape
use Rattle.naive_code.specs.Operations as code
use Rattle.naive_builder.proofs.Putting.{emits_made}
use Rattle.naive_builder.proofs.Covering.{covered_by, usable_listed, usable_covered}
use Rattle.naive_builder.proofs.builder.Builder.operate.Goals as goal

pub put_covered-requires-clause-listed : goal.put_covered-requires-clause-listed
put_covered-requires-clause-listed g c = usable_listed c.args.m.now c.args.operator c.requires.operator

pub put_covered-requires-clause-covered : goal.put_covered-requires-clause-covered
put_covered-requires-clause-covered g c =
    usable_covered c.args.m.now c.args.operator
    (covered_by g.W.Word.BITS c.args.m.now c.raw-description.result.now c.args.rows.now c.required_covered.ensures c.raw-description.ensures.description
    c.raw-description.ensures.checked c.requires.rows)
    c.requires.operator

pub returns-clause-code : goal.returns-clause-code
returns-clause-code g c =
    emits_made c.args.m.now c.args.rows.now c.args.self.now c.put_covered.new.self (shape.Operate c.args.operator) (code.on_two c.args.a c.args.b)
    c.in_ok-put_covered.ensures.code
