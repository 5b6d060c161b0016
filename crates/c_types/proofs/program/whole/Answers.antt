use Rattle.std.proofs.Common.{List, map, ap, ◌∙◌}
use Rattle.c_tree.specs.declared.syntax.External.{External}
use Rattle.c_typing.specs.Functions.{headings, definition_of, signature}
use Rattle.c_typing.specs.Program.{has_main}
use Rattle.c_functions.specs.Tables.{number_at}
use Rattle.c_types.proofs.Wholes.{tree_of_whole, told_of_whole}
use Rattle.c_types.proofs.program.whole.Goals as goal

pub returns-clause-tree : goal.returns-clause-tree
returns-clause-tree g c =
    let first = number_at c.in_ok-definitions.definitions.table in
    tree_of_whole g.W.Word.BITS c.args.s.now first c.as_slice-3.result.now c.as_slice-4.result.now
    (λ name. c.in_ok-definitions.ensures name ∙ ap (λ (xs : List External). definition_of (headings xs) name) c.as_slice.ensures)
    (c.as_slice-3.ensures ∙ c.in_ok-signatures.ensures ∙ ap (λ (xs : List External). map (signature first) (headings xs)) c.as_slice-2.ensures)
    c.as_slice-4.ensures
    c.in_ok-functions.functions c.in_ok-functions.statics c.typed.result c.in_ok-functions.ensures.functions c.in_ok-functions.ensures.statics c.typed.ensures

pub returns-clause-told : goal.returns-clause-told
returns-clause-told g c =
    let first = number_at c.in_ok-definitions.definitions.table in
    told_of_whole g.W.Word.BITS c.args.s.now first c.as_slice-3.result.now c.as_slice-4.result.now
    (λ name. c.in_ok-definitions.ensures name ∙ ap (λ (xs : List External). definition_of (headings xs) name) c.as_slice.ensures)
    (c.as_slice-3.ensures ∙ c.in_ok-signatures.ensures ∙ ap (λ (xs : List External). map (signature first) (headings xs)) c.as_slice-2.ensures)
    c.as_slice-4.ensures
    c.args.told.now.first c.all_parts.new.told.first c.tell_if.new.self.first c.has_main.result c.in_ok-functions.ensures.told c.tell_if.ensures
    (c.has_main.ensures ∙ ap (λ (xs : List External). has_main (headings xs)) c.as_slice-5.ensures)
