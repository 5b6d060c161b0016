use Rattle.naive_code.specs.Operations as code
use Rattle.naive_builder.proofs.Putting.{emits_made}
use Rattle.naive_builder.proofs.builder.Builder.apply_number.Goals as goal

pub returns-clause-code : goal.returns-clause-code
returns-clause-code g c =
    emits_made c.args.m.now c.args.rows.now c.args.self.now c.put_number.new.self c.args.pattern (code.with_number c.args.a c.args.number)
    c.in_ok-put_number.ensures.code
