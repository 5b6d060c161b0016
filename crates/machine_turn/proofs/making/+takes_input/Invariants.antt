use Rattle.std.proofs.Common.{length}
use Rattle.machine_turn.proofs.making.+takes_input.Given as goal

abbrev pub decreases-takes_input : goal.decreases-takes_input
decreases-takes_input l = length l.moves.now
