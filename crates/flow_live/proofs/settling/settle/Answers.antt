use Rattle.std.proofs.Common.{subst}
use Rattle.std.specs.Prelude.{ℕ, ◌<◌}
use Rattle.std.proofs.lemmas.List.{length-map}
use Rattle.temp_code.specs.Routines.{block_of, routine_of}
use Rattle.flow_live.proofs.Sweeping.{settling_done}
use Rattle.flow_live.proofs.settling.settle.Goals as goal

pub loop-going-preserved : goal.loop-going-preserved
loop-going-preserved c = (
  c.sweep-going.ensures.fits,
  c.sweep-going.ensures.clean,
  λ t stands low flow. c.sweep-going.ensures.goes t c.args.words stands low flow (c.loop-going.invariant.2 t stands low flow),
)

pub returns-clause-begins : goal.returns-clause-begins
returns-clause-begins c = λ t stands low flow.
    settling_done t (routine_of c.args.code.now) c.args.words c.loop-going.state (c.loop-going.invariant.2 t stands low flow)
    (λ k l. c.loop-going.invariant.1 c.loop-going-test.false k (subst (λ (n : ℕ). k < n) (length-map c.args.code.now.blocks block_of) l))
