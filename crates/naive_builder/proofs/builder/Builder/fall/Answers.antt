use Rattle.temp_code.specs.declared.code.End.TheVariants.{Fall}
use Rattle.naive_code.specs.Operations.{Falls}
use Rattle.naive_builder.specs.Appending.{falls}
use Rattle.naive_builder.proofs.Putting.{emits_plain_end}
use Rattle.naive_builder.proofs.builder.Builder.fall.Goals as goal

pub returns-clause-code : goal.returns-clause-code
returns-clause-code c = λ d rows. emits_plain_end d rows c.args.self.now c.close.new.self Falls c.args.opened Fall falls c.in_ok-close.ensures.code
