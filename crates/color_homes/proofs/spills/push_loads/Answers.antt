use Rattle.temp_code.specs.Routines.{routine_of}
use Rattle.color_homes.specs.Spilled.{register_in}
use Rattle.color_homes.specs.Putting.{target_in}
use Rattle.color_homes.specs.Loading.{IsLoad}
use Rattle.color_homes.proofs.Homes.{adds_next}
use Rattle.color_homes.proofs.spills.push_loads.Goals as goal

pub loop-k-preserved : goal.loop-k-preserved
loop-k-preserved g c =
    adds_next (λ n k. IsLoad c.args.m.now (target_in c.args.m.now c.args.places.now) (routine_of c.args.places.now.code.now) n k)
    (register_in c.args.places.now c.args.spilled.now) c.args.operands.now c.loop-k.k-index _ c.args.body.now c.loop-k.body
    c.push.new.self c.in_ok-load.field-0 c.register_of-register.result c.loop-k-test.true c.loop-k.invariant c.register_of-register.ensures c.in_ok-load.ensures
    c.in_ok-push.ensures.ok
