use Rattle.std.proofs.Common.{◌≡◌, ◌++◌, drop}
use Rattle.asm_print.specs.Layout.{numbered}
use Rattle.asm_print.proofs.stops.objects_of.Given as goal

abbrev pub invariant-loop-object : goal.invariant-loop-object
invariant-loop-object l = l.objects.items ++ numbered l.object (drop l.object l.symbols) ≡ numbered 0 l.symbols
