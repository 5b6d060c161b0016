use Rattle.naive_builder.proofs.Putting.{word_number, less_than_bits}
use Rattle.naive_builder.proofs.builder.Builder.shift_twice.Goals as goal

pub put_number-requires-clause-number : goal.put_number-requires-clause-number
put_number-requires-clause-number g c = word_number c.args.m.now.word _ (less_than_bits c.args.m.now.word c.word_bits-places.result c.word_bits-places.ensures.size c.word_bits-places.ensures.word)
