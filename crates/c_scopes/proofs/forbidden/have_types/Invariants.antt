use Rattle.std.proofs.Common.{◌≡◌, ◌&&◌, map, drop}
use Rattle.c_typing.specs.Functions as spec
use Rattle.c_scopes.proofs.forbidden.have_types.Given as goal

abbrev pub invariant-loop-p : goal.invariant-loop-p
invariant-loop-p l = record {
  index : l.i ≡ l.p-index;
  same : (l.same && spec.same_types (map spec.parameter_type (drop l.p-index l.list)) (drop l.i l.types)) ≡ spec.same_types (map spec.parameter_type l.list) l.types;
}
