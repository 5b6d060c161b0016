use Rattle.std.proofs.Common.{◌≡◌, ◌++◌, drop, map}
use Rattle.c_typing.specs.Functions as spec
use Rattle.c_functions.specs.Tables.{number_at}
use Rattle.c_functions.proofs.signatures.all_signatures.Given as goal

abbrev pub invariant-loop-part : goal.invariant-loop-part
invariant-loop-part l =
    let f = spec.signature (number_at l.definitions.table) in
    l.list ++ map f (spec.headings (drop l.part-index l.parts)) ≡ map f (spec.headings l.parts)
