use Rattle.std.proofs.Common.{[], ◌∷◌, refl, arith}
use Rattle.rtl_tree.specs.declared.expressions.BinOp.TheVariants as op
use Rattle.md_shapes.specs.declared.patterns.Pattern.TheVariants as shape
use Rattle.naive_code.specs.Operations as code
use Rattle.naive_run.specs.Standing.{shaped}
use Rattle.naive_builder.proofs.Putting.{emits_way}
use Rattle.naive_builder.proofs.builder.Builder.meet.Goals as goal

pub returns-then-is_covered-clause-code : goal.returns-then-is_covered-clause-code
returns-then-is_covered-clause-code g c =
    emits_way c.args.m.now c.args.rows.now c.args.self.now c.put_covered.new.self (code.Meet c.args.a c.args.b) (shaped (shape.Operate op.And) (code.on_two c.args.a c.args.b) ∷ []) (0, omega arith, refl)
    c.in_ok-put_covered.ensures.code

pub returns-clause-code : goal.returns-clause-code
returns-clause-code g c =
    emits_way c.args.m.now c.args.rows.now c.args.self.now c.clear.new.self (code.Meet c.args.a c.args.b) (shaped shape.Complement (code.on_two c.args.b c.args.b) ∷ shaped shape.Clear (code.on_two c.args.a c.args.b) ∷ []) (1, omega arith, refl)
    c.in_ok-clear.ensures.code
