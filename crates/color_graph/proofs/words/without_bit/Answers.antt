use Rattle.std.specs.Int.{w64}
use Rattle.flow_live.proofs.Bits.{without_one}
use Rattle.color_graph.proofs.words.without_bit.Goals as goal

pub returns : goal.returns
returns c = λ k l. without_one w64 c.args.word c.args.n k c.requires l
