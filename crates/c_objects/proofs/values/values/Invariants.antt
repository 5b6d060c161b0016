use Rattle.std.proofs.Common.{◌≡◌, map, drop}
use Rattle.c_typing.specs.Faults.{notes}
use Rattle.c_typing.specs.Statements as spec
use Rattle.c_scopes.specs.Here.{at_names}
use Rattle.c_objects.specs.Within.{within_of}
use Rattle.c_objects.proofs.values.values.Given as goal

abbrev pub invariant-loop-e : goal.invariant-loop-e
invariant-loop-e g l =
    let f = spec.value_at (within_of g.W.Word.BITS l.functions) (at_names l.names) in
    record {
      index : l.i ≡ l.e-index;
      trees : spec.joined l.trees (spec.values l.of (map f (drop l.e-index l.list))) ≡ spec.values l.of (map f l.list);
      told : notes l.told.first (spec.values_faults l.extent l.i (map f (drop l.e-index l.list))) ≡ notes l.fn.told.first (spec.values_faults l.extent 0 (map f l.list));
    }
