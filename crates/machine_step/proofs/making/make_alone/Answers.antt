use Rattle.std.proofs.Common.{None, refl, sym, ◌∙◌}
use Rattle.machine_turn.specs.Held.{state_of}
use Rattle.machine_step.specs.Steps.{trapped_alone}
use Rattle.machine_step.proofs.Traps.{tested_traps}
use Rattle.machine_step.proofs.Settling.{test_is}
use Rattle.machine_step.proofs.making.make_alone.Goals as goal

pub returns-in-Err-clause-step : goal.returns-in-Err-clause-step
returns-in-Err-clause-step g c =
    trapped_alone c.in-Err.trap c.trapped.result
    (sym (test_is g.W.Word.BITS c.args.moves.now c.args.m.now.place c.args.m.now.held c.requires.next)
    ∙ tested_traps g.W.Word.BITS None (state_of c.args.m.now.held) c.in-Err.trap c.args.moves.now c.in-Err.ensures.made.0)
    c.trapped.ensures.halts refl c.trapped.ensures.stopped c.trapped.ensures.kept.reader
