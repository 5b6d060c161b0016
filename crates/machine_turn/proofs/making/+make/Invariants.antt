use Rattle.std.proofs.Common.{length}
use Rattle.machine_turn.proofs.making.+make.Given as goal

abbrev pub decreases-make : goal.decreases-make
decreases-make g l = length l.moves.now
