use Rattle.std.proofs.Common.{◌≡◌, ◌++◌, drop, map}
use Rattle.c_typing.specs.Functions as spec
use Rattle.c_functions.proofs.signatures.types_of.Given as goal

abbrev pub invariant-loop-p : goal.invariant-loop-p
invariant-loop-p l = l.types ++ map spec.parameter_type (drop l.p-index l.list) ≡ map spec.parameter_type l.list
