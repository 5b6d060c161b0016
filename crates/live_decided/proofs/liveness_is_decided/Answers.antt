use Rattle.live_decided.proofs.Table.{decided}
use Rattle.live_decided.proofs.liveness_is_decided.Goals as goal

pub returns : goal.returns
returns c = decided
