use Rattle.c_functions.specs.Files.{file_of}
use Rattle.c_functions.specs.Tables.{number_at}
use Rattle.c_types.proofs.Bodies.{functions_of_part, told_of_part, where_ok, on_ok}
use Rattle.c_types.proofs.functions.part.Goals as goal

pub returns-in_ok-file-in-Defined-clause-functions : goal.returns-in_ok-file-in-Defined-clause-functions
returns-in_ok-file-in-Defined-clause-functions g c =
    let d = c.in-Defined in
    where_ok c.defined_body.result
    (λ r. functions_of_part (number_at c.args.definitions.now.table) c.args.signatures.now g.W.Word.BITS (file_of c.args.file) (file_of c.in_ok-file-in-Defined.file) c.args.x.now
    d.at d.gives d.name c.as_slice.result.now d.parameters d.brace d.body c.as_slice-in-Defined.result.now d.is c.as_slice.ensures c.in_ok-file-in-Defined.ensures c.as_slice-in-Defined.ensures r.0)
    c.defined_body.ensures.functions

pub returns-in_ok-file-in-Defined-clause-told : goal.returns-in_ok-file-in-Defined-clause-told
returns-in_ok-file-in-Defined-clause-told g c =
    let d = c.in-Defined in
    on_ok c.defined_body.result
    (told_of_part (number_at c.args.definitions.now.table) c.args.signatures.now g.W.Word.BITS (file_of c.args.file) (file_of c.in_ok-file-in-Defined.file) c.args.x.now
    d.at d.gives d.name c.as_slice.result.now d.parameters d.brace d.body c.as_slice-in-Defined.result.now d.is c.as_slice.ensures c.in_ok-file-in-Defined.ensures c.as_slice-in-Defined.ensures
    c.args.told.now.first c.tell_heading.new.told.first c.defined_body.new.told.first c.tell_heading.ensures)
    c.defined_body.ensures.told
