use Rattle.std.proofs.Common.{List, sym, ap, ◌∙◌}
use Rattle.c_tree.specs.declared.syntax.External.{External}
use Rattle.c_typing.specs.Statements as st
use Rattle.c_typing.specs.Program as spec
use Rattle.c_functions.specs.Files.{file_of}
use Rattle.c_scopes.proofs.Steps.{next_item, drop_end, joined_end}
use Rattle.c_functions.specs.Tables.{number_at}
use Rattle.c_types.proofs.Steps.{parts_step, file_step, parts_told}
use Rattle.c_types.proofs.program.all_parts.Goals as goal

pub loop-x-preserved : goal.loop-x-preserved
loop-x-preserved g c =
    let first = number_at c.args.definitions.now.table in
    let ss = c.args.signatures.now in
    let w = g.W.Word.BITS in
    let next = next_item c.loop-x.x-index c.args.parts.now c.x-item.result c.loop-x-test.true c.x-item.is in
    record {
      functions = parts_step first ss w _ _ _ next _ _ c.in_ok-r.ensures.file _ _ _ _ c.loop-x.invariant.functions c.in_ok-r.ensures.functions c.in_ok-more.ensures;
      file = file_step first ss w _ _ _ next _ _ c.in_ok-r.ensures.file _ c.loop-x.invariant.file;
      told = parts_told first ss w _ _ _ next _ _ c.in_ok-r.ensures.file _ _ _ c.loop-x.invariant.told c.in_ok-r.ensures.told;
    }

pub returns-clause-functions : goal.returns-clause-functions
returns-clause-functions g c =
    let run = spec.all_parts (number_at c.args.definitions.now.table) c.args.signatures.now g.W.Word.BITS (file_of c.loop-x.file) in
    let rest = λ (xs : List External). st.joined c.loop-x.functions (run xs).functions in
    sym (joined_end c.loop-x.functions) ∙ ap rest (sym (drop_end c.loop-x.x-index c.args.parts.now c.loop-x-test.false)) ∙ c.loop-x.invariant.functions

pub returns-clause-statics : goal.returns-clause-statics
returns-clause-statics g c =
    let run = spec.all_parts (number_at c.args.definitions.now.table) c.args.signatures.now g.W.Word.BITS (file_of c.loop-x.file) in
    ap (λ (xs : List External). (run xs).file.statics) (sym (drop_end c.loop-x.x-index c.args.parts.now c.loop-x-test.false)) ∙ ap (λ (f : spec.File). f.statics) c.loop-x.invariant.file
