use Rattle.std.proofs.Common.{◌≡◌, ◌+◌, ◌++◌, map, drop}
use Rattle.naive_builder.specs.Appending.{emitted}
use Rattle.naive_expand.proofs.homes.take_depths.Given as goal

abbrev pub invariant-loop-depth : goal.invariant-loop-depth
invariant-loop-depth l =
    (l.b.homes ++ map (λ d. l.first + d) (drop l.depth-index l.depths) ≡ l.fn.b.homes ++ map (λ d. l.first + d) l.depths) × (emitted l.b ≡ emitted l.fn.b)
