use Rattle.std.proofs.Common.{◌≡◌, ◌++◌, map, drop}
use Rattle.naive_expand.proofs.names.function_names.Given as goal

abbrev pub invariant-loop-f : goal.invariant-loop-f
invariant-loop-f l = l.names ++ map (λ f. f.name) (drop l.f-index l.functions) ≡ map (λ f. f.name) l.functions
