use Rattle.std.proofs.Common.{ℕ}
use Rattle.machine_turn.proofs.memory.+put_bytes.Given as goal

abbrev pub decreases-put_bytes : goal.decreases-put_bytes
decreases-put_bytes l = l.count
