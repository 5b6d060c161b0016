use Rattle.std.proofs.Common.{◌≡◌, false, ap, sym, ◌∙◌}
use Rattle.c_typing.specs.Functions.{parameter_list}
use Rattle.c_typing.specs.Program as spec
use Rattle.c_names.specs.Known.{entries_of}
use Rattle.c_scopes.proofs.Leaving.{same_length}
use Rattle.c_functions.specs.Files.{file_of, params_of}
use Rattle.c_functions.proofs.Behind.{fits, left_entries}
use Rattle.c_types.proofs.Bodies.{parameters_are, told_of_parameters}
use Rattle.c_types.proofs.functions.prototype.Goals as goal

pub leave-requires : goal.leave-requires
leave-requires c =
    let names = c.args.file.names.entries.items in
    let p = parameters_are (file_of c.args.file) c.args.parameters.now c.new.result c.new.ensures (params_of c.in_ok-params.params) c.in_ok-params.ensures.params in
    fits c.outside-start.result names (parameter_list c.args.parameters.now) (c.outside-start.ensures ∙ sym (same_length names)) c.in_ok-params.params.names.entries.items
    (ap (λ (q : spec.Params). q.names) p)

pub returns-clause-told : goal.returns-clause-told
returns-clause-told c =
    told_of_parameters (file_of c.args.file) c.args.parameters.now c.new.result c.new.ensures c.outside-start.result false c.args.told.now.first _ c.outside-start.ensures c.in_ok-params.ensures.told

pub returns-clause-file : goal.returns-clause-file
returns-clause-file c =
    let names = c.args.file.names.entries.items in
    let p = parameters_are (file_of c.args.file) c.args.parameters.now c.new.result c.new.ensures (params_of c.in_ok-params.params) c.in_ok-params.ensures.params in
    let q : entries_of c.in_ok-names.names.entries.items ≡ entries_of names =
    ap entries_of c.in_ok-names.ensures
    ∙ left_entries c.outside-start.result names (parameter_list c.args.parameters.now) (c.outside-start.ensures ∙ sym (same_length names)) c.in_ok-params.params.names.entries.items
    (ap (λ (q : spec.Params). q.names) p) in
    λ i. record { names = q i; statics = c.args.file.statics; above = c.args.file.above; definitions = c.args.file.definitions; included = c.args.file.included }
