use Rattle.std.proofs.Common.{◌≡◌, take}
use Rattle.row_colors.specs.Registers.{binding_with}
use Rattle.color_homes.specs.Spilled.{register_in}
use Rattle.color_homes.proofs.middles.values_with.Given as goal

abbrev pub invariant-loop-value : goal.invariant-loop-value
invariant-loop-value l = l.list.items ≡ binding_with (register_in l.places l.spilled) (take l.value-index l.values)
