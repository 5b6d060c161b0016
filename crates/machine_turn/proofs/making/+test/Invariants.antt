use Rattle.std.proofs.Common.{length}
use Rattle.machine_turn.proofs.making.+test.Given as goal

abbrev pub decreases-test : goal.decreases-test
decreases-test g l = length l.moves.now
