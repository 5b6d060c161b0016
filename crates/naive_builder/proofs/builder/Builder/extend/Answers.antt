use Rattle.std.proofs.Common.{[], ◌∷◌, refl, arith}
use Rattle.md_shapes.specs.declared.patterns.Pattern.TheVariants as shape
use Rattle.naive_code.specs.Operations as code
use Rattle.naive_run.specs.Standing.{shaped, shifted_twice, stored_and_loaded}
use Rattle.naive_builder.proofs.Putting.{emits_way}
use Rattle.naive_builder.proofs.builder.Builder.extend.Goals as goal

pub returns-then-is_covered-clause-code : goal.returns-then-is_covered-clause-code
returns-then-is_covered-clause-code g c =
    emits_way c.args.m.now c.args.rows.now c.args.self.now c.put_covered.new.self (code.Extend c.args.a c.args.spare) (shaped shape.ExtendByte (code.on_two c.args.a c.args.a) ∷ []) (0, omega arith, refl)
    c.in_ok-put_covered.ensures.code

pub returns-then-is_covered-3-clause-code : goal.returns-then-is_covered-3-clause-code
returns-then-is_covered-3-clause-code g c =
    emits_way c.args.m.now c.args.rows.now c.args.self.now c.shift_twice.new.self (code.Extend c.args.a c.args.spare) (shifted_twice c.args.m.now.word c.args.a c.args.spare) (1, omega arith, refl)
    c.in_ok-shift_twice.ensures.code

pub returns-clause-code : goal.returns-clause-code
returns-clause-code g c =
    emits_way c.args.m.now c.args.rows.now c.args.self.now c.store_and_load.new.self (code.Extend c.args.a c.args.spare) (stored_and_loaded c.args.a c.args.spare) (2, omega arith, refl)
    c.in_ok-store_and_load.ensures.code
