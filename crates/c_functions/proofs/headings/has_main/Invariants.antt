use Rattle.std.proofs.Common.{◌≡◌, ◌||◌, drop}
use Rattle.c_typing.specs.Functions.{headings}
use Rattle.c_typing.specs.Program as spec
use Rattle.c_functions.proofs.headings.has_main.Given as goal

abbrev pub invariant-loop-part : goal.invariant-loop-part
invariant-loop-part l = (l.found || spec.has_main (headings (drop l.part-index l.parts))) ≡ spec.has_main (headings l.parts)
