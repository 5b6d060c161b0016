use Rattle.std.proofs.Common.{◌≡◌, ◌≤◌, length, take}
use Rattle.c_names.proofs.names.Names.leave.Given as goal

abbrev pub invariant-loop-names : goal.invariant-loop-names
invariant-loop-names l = record {
  within : l.mark ≤ length l.names.entries.items;
  is : l.names.entries.items ≡ take (length l.names.entries.items) l.fn.self.entries.items;
}

abbrev pub decreases-loop-names : goal.decreases-loop-names
decreases-loop-names l = length l.names.entries.items
