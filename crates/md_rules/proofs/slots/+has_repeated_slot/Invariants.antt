use Rattle.std.proofs.Common.{length}
use Rattle.md_rules.proofs.slots.+has_repeated_slot.Given as goal

abbrev pub decreases-has_repeated_slot : goal.decreases-has_repeated_slot
decreases-has_repeated_slot l = length l.text.now
