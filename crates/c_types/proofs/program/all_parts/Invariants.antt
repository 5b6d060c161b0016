use Rattle.std.proofs.Common.{◌≡◌, drop}
use Rattle.c_typing.specs.Faults.{notes}
use Rattle.c_typing.specs.Statements.{joined}
use Rattle.c_typing.specs.Program as spec
use Rattle.c_functions.specs.Files.{file_of}
use Rattle.c_functions.specs.Tables.{number_at}
use Rattle.c_types.proofs.program.all_parts.Given as goal

abbrev pub invariant-loop-x : goal.invariant-loop-x
invariant-loop-x g l =
    let run = spec.all_parts (number_at l.definitions.table) l.signatures g.W.Word.BITS in
    let all = run spec.nothing l.parts in
    let rest = run (file_of l.file) (drop l.x-index l.parts) in
    record {
      functions : joined l.functions rest.functions ≡ all.functions;
      file : rest.file ≡ all.file;
      told : notes l.told.first rest.faults ≡ notes l.fn.told.first all.faults;
    }
