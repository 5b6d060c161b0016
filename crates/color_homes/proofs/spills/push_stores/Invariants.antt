use Rattle.std.proofs.Common.{take}
use Rattle.temp_code.specs.Routines.{routine_of}
use Rattle.color_homes.specs.Spilled.{register_in}
use Rattle.color_homes.specs.Putting.{target_in}
use Rattle.color_homes.specs.Loading.{Adds, IsStore}
use Rattle.color_homes.proofs.spills.push_stores.Given as goal

abbrev pub invariant-loop-k : goal.invariant-loop-k
invariant-loop-k g l =
    Adds (λ k. IsStore l.m (target_in l.m l.places) (routine_of l.places.code.now) (register_in l.places l.spilled k) k)
    (take l.k-index l.results) l.fn.body l.body
