use Rattle.std.specs.Int.{w8}
use Rattle.flow_live.proofs.Bits.{without_one}
use Rattle.flow_live.proofs.rows.without_flag.Goals as goal

pub returns : goal.returns
returns c = λ k l. without_one w8 c.args.flags c.args.n k c.requires l
