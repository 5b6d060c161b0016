use Rattle.md_shapes.specs.declared.patterns.Pattern.TheVariants as shape
use Rattle.naive_code.specs.Operations as code
use Rattle.naive_builder.proofs.Putting.{emits_made}
use Rattle.naive_builder.proofs.builder.Builder.address.Goals as goal

pub returns-clause-code : goal.returns-clause-code
returns-clause-code g c =
    emits_made c.args.m.now c.args.rows.now c.args.self.now c.put_symbol.new.self shape.SetSymbol (code.with_symbol c.args.a c.args.symbol)
    c.in_ok-put_symbol.ensures.code
