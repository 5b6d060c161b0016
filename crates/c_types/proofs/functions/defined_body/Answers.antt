use Rattle.std.proofs.Common.{◌≡◌, ◌≤◌, true, length, take, ap, sym, ◌∙◌, subst}
use Rattle.c_typing.specs.declared.names.Around.{Around}
use Rattle.c_typing.specs.Functions.{parameter_list}
use Rattle.c_typing.specs.Program as spec
use Rattle.c_names.specs.Known.{entries_of}
use Rattle.c_scopes.proofs.Leaving.{same_length}
use Rattle.c_functions.specs.Files.{file_of, params_of}
use Rattle.c_functions.proofs.Behind.{fits_entries, left}
use Rattle.c_types.proofs.Bodies.{parameters_are, told_of_parameters, told_of_body, tree_of_body}
use Rattle.c_types.proofs.functions.defined_body.Goals as goal

pub body-requires : goal.body-requires
body-requires g c =
    let names = c.args.file.names.entries.items in
    let p = parameters_are (file_of c.args.file) c.args.parameters.now c.new.result c.new.ensures (params_of c.in_ok-params.params) c.in_ok-params.ensures.params in
    subst (λ (a : Around). a.start ≤ length (entries_of c.in_ok-params.params.names.entries.items)) (sym c.around_body.ensures)
    (fits_entries c.outside-start.result names (parameter_list c.args.parameters.now) (c.outside-start.ensures ∙ sym (same_length names))
    (entries_of c.in_ok-params.params.names.entries.items) (ap (λ (q : spec.Params). q.names) p))

pub returns-clause-functions : goal.returns-clause-functions
returns-clause-functions g c =
    tree_of_body c.args.signatures.now g.W.Word.BITS (file_of c.args.file) c.args.gives c.args.name.now c.args.parameters.now c.args.brace c.args.list.now
    (params_of c.in_ok-params.params)
    (parameters_are (file_of c.args.file) c.args.parameters.now c.new.result c.new.ensures (params_of c.in_ok-params.params) c.in_ok-params.ensures.params)
    c.outside-start.result c.outside-start.ensures c.return_type-of.result c.return_type-of.ensures c.around_body.result c.around_body.ensures
    c.in_ok-trees.locals c.in_ok-trees.trees c.in_ok-tree.tree c.in_ok-trees.ensures.trees c.in_ok-trees.ensures.locals c.in_ok-tree.ensures

pub returns-clause-told : goal.returns-clause-told
returns-clause-told g c =
    told_of_body c.args.signatures.now g.W.Word.BITS (file_of c.args.file) c.args.gives c.args.name.now c.args.parameters.now c.args.brace c.args.list.now
    (params_of c.in_ok-params.params)
    (parameters_are (file_of c.args.file) c.args.parameters.now c.new.result c.new.ensures (params_of c.in_ok-params.params) c.in_ok-params.ensures.params)
    c.outside-start.result c.outside-start.ensures c.return_type-of.result c.return_type-of.ensures c.around_body.result c.around_body.ensures
    c.args.told.now.first _ _
    (told_of_parameters (file_of c.args.file) c.args.parameters.now c.new.result c.new.ensures c.outside-start.result true c.args.told.now.first _ c.outside-start.ensures c.in_ok-params.ensures.told)
    c.in_ok-trees.ensures.told

pub returns-clause-file : goal.returns-clause-file
returns-clause-file g c =
    let names = c.args.file.names.entries.items in
    let p = parameters_are (file_of c.args.file) c.args.parameters.now c.new.result c.new.ensures (params_of c.in_ok-params.params) c.in_ok-params.ensures.params in
    let q : entries_of c.in_ok-trees.names.entries.items ≡ entries_of names =
    c.in_ok-trees.ensures.names ∙ ap (λ (a : Around). take a.start (entries_of c.in_ok-params.params.names.entries.items)) c.around_body.ensures
    ∙ left c.outside-start.result names (parameter_list c.args.parameters.now) (c.outside-start.ensures ∙ sym (same_length names))
    (entries_of c.in_ok-params.params.names.entries.items) (ap (λ (q : spec.Params). q.names) p) in
    λ i. record { names = q i; statics = c.args.file.statics; above = c.args.file.above; definitions = c.args.file.definitions; included = c.args.file.included }
