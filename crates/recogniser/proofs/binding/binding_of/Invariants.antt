use Rattle.recogniser.proofs.Known.{HasKnown}
use Rattle.recogniser.proofs.binding.binding_of.Given as goal

-- the values so far, which have room
abbrev pub invariant-loop-slot : goal.invariant-loop-slot
invariant-loop-slot l = HasKnown l.slot-items l.slot-index l.list.items l.list.capacity
