use Rattle.naive_builder.proofs.Putting.{word_number}
use Rattle.naive_builder.proofs.builder.Builder.constant.Goals as goal

pub apply_number-requires-clause-number : goal.apply_number-requires-clause-number
apply_number-requires-clause-number g c = word_number c.args.m.now.word c.args.number c.requires.word
