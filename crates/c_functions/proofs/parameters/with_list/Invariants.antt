use Rattle.std.proofs.Common.{◌≡◌, drop}
use Rattle.c_typing.specs.Faults.{notes}
use Rattle.c_typing.specs.Program as spec
use Rattle.c_functions.specs.Files.{params_of}
use Rattle.c_functions.proofs.parameters.with_list.Given as goal

abbrev pub invariant-loop-x : goal.invariant-loop-x
invariant-loop-x l = record {
  params : spec.with_parameters (params_of l.params) (drop l.x-index l.list) ≡ spec.with_parameters (params_of l.fn.params) l.list;
  told : notes l.told.first (spec.parameters_faults l.place.included l.place.start l.place.defines (params_of l.params) (drop l.x-index l.list))
      ≡ notes l.fn.told.first (spec.parameters_faults l.place.included l.place.start l.place.defines (params_of l.fn.params) l.list);
}
