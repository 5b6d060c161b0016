use Rattle.std.proofs.Common.{◌≡◌, ◌-◌, ◌/◌, ◌++◌, ◌∙◌, arith}
use Rattle.asm_program.specs.Programs.{low_bytes}
use Rattle.asm_data.proofs.Reach.{low_more, weaker}
use Rattle.asm_data.proofs.numbers.+with_low.Goals as goal

pub returns : goal.returns
returns t c =
    weaker (λ more. more.items ≡ c.push.new.self.items ++ low_bytes (c.args.count - 1) (c.args.number / 256)) (λ more. more.items ≡ c.args.bytes.items ++ low_bytes c.args.count c.args.number)
    (λ more h. h ∙ low_more c.args.bytes.items c.push.new.self.items c.args.count c.args.number c.in_ok-push.ensures.items (omega arith)) c.with_low.result c.with_low.ensures
