use Rattle.std.proofs.Common.{◌≡◌, drop}
use Rattle.rtl_value.specs.Values.{place_of_label}
use Rattle.rtl_machine.proofs.linking.place_of.Given as goal

abbrev pub invariant-loop-entry : goal.invariant-loop-entry
invariant-loop-entry l = place_of_label (drop l.entry-index l.labels) l.label ≡ place_of_label l.labels l.label
