use Rattle.std.proofs.Common.{take}
use Rattle.temp_code.specs.Routines.{routine_of}
use Rattle.color_homes.specs.Spilled.{register_in}
use Rattle.color_homes.specs.Putting.{target_in}
use Rattle.color_homes.specs.Loading.{Adds, IsLoad}
use Rattle.color_homes.proofs.spills.push_loads.Given as goal

abbrev pub invariant-loop-k : goal.invariant-loop-k
invariant-loop-k g l =
    Adds (λ k. IsLoad l.m (target_in l.m l.places) (routine_of l.places.code.now) (register_in l.places l.spilled k) k)
    (take l.k-index l.operands) l.fn.body l.body
