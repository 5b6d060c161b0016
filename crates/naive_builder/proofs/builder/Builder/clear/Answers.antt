use Rattle.std.proofs.Common.{[], ◌∷◌}
use Rattle.md_shapes.specs.declared.patterns.Pattern.TheVariants as shape
use Rattle.naive_code.specs.Operations as code
use Rattle.naive_run.specs.Standing.{shaped}
use Rattle.naive_builder.proofs.Covering.{covered_by, clear_covered}
use Rattle.naive_builder.proofs.Putting.{puts_then}
use Rattle.naive_builder.proofs.builder.Builder.clear.Goals as goal

pub put_covered-requires-clause-covered : goal.put_covered-requires-clause-covered
put_covered-requires-clause-covered g c =
    clear_covered c.args.m.now
    (covered_by g.W.Word.BITS c.args.m.now c.raw-description.result.now c.args.rows.now c.required_covered.ensures c.raw-description.ensures.description
    c.raw-description.ensures.checked c.requires.rows)
    c.requires.uncovered

pub returns-clause-code : goal.returns-clause-code
returns-clause-code g c =
    puts_then c.args.m.now c.args.rows.now c.args.self.now c.put_always.new.self c.put_covered.new.self (shaped shape.Complement (code.on_two c.args.b c.args.b) ∷ [])
    (shaped shape.Clear (code.on_two c.args.a c.args.b) ∷ []) c.in_ok-put_always.ensures.code c.in_ok-put_covered.ensures.code
