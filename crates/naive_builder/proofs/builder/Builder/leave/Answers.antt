use Rattle.temp_code.specs.declared.code.End.TheVariants.{Return}
use Rattle.naive_code.specs.Operations.{Returns}
use Rattle.naive_builder.specs.Appending.{leaves}
use Rattle.naive_builder.proofs.Putting.{emits_plain_end}
use Rattle.naive_builder.proofs.builder.Builder.leave.Goals as goal

pub returns-clause-code : goal.returns-clause-code
returns-clause-code c = λ d rows. emits_plain_end d rows c.args.self.now c.close.new.self Returns c.args.opened Return leaves c.in_ok-close.ensures.code
