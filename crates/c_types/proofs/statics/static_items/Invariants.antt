use Rattle.std.proofs.Common.{◌≡◌, drop}
use Rattle.c_typing.specs.Faults.{notes}
use Rattle.c_typing.specs.Program as spec
use Rattle.c_functions.specs.Files.{file_of}
use Rattle.c_types.proofs.statics.static_items.Given as goal

abbrev pub invariant-loop-i : goal.invariant-loop-i
invariant-loop-i g l =
    let all = spec.static_items l.signatures g.W.Word.BITS (file_of l.fn.file) l.of l.list in
    let rest = spec.static_items l.signatures g.W.Word.BITS (file_of l.file) l.of (drop l.i-index l.list) in
    record { file : rest.0 ≡ all.0; told : notes l.told.first rest.1 ≡ notes l.fn.told.first all.1 }
