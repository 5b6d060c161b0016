use Rattle.std.proofs.Common.{refl, arith}
use Rattle.naive_code.specs.Operations as code
use Rattle.naive_run.specs.Standing.{shifted, doubled}
use Rattle.naive_builder.proofs.Putting.{emits_way}
use Rattle.naive_builder.proofs.builder.Builder.scale.Goals as goal

pub returns-then-is_covered-clause-code : goal.returns-then-is_covered-clause-code
returns-then-is_covered-clause-code g c =
    emits_way c.args.m.now c.args.rows.now c.args.self.now c.shift.new.self (code.Scale c.args.a c.args.spare) (shifted c.args.m.now.word c.args.a c.args.spare) (0, omega arith, refl)
    c.in_ok-shift.ensures.code

pub returns-clause-code : goal.returns-clause-code
returns-clause-code g c =
    emits_way c.args.m.now c.args.rows.now c.args.self.now c.double.new.self (code.Scale c.args.a c.args.spare) (doubled c.args.m.now.word c.args.a) (1, omega arith, refl)
    c.in_ok-double.ensures.code
