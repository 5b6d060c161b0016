use Rattle.std.proofs.Common.{◌≡◌, ◌++◌, map, drop}
use Rattle.naive_expand.proofs.names.object_names.Given as goal

abbrev pub invariant-loop-s : goal.invariant-loop-s
invariant-loop-s l = l.names ++ map (λ s. s.object.name) (drop l.s-index l.statics) ≡ map (λ s. s.object.name) l.statics
