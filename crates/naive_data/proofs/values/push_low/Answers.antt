use Rattle.std.proofs.Common.{ap, take}
use Rattle.naive_data.proofs.Pushing.{low_pushed}
use Rattle.naive_data.proofs.values.push_low.Goals as goal

pub returns : goal.returns
returns c = low_pushed _ _ _ _ c.args.count c.args.value c.loop-byte.invariant c.loop-byte-test.false (ap (take c.args.count) c.to_le_bytes-all.ensures) c.requires
