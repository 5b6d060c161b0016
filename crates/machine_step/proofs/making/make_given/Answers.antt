use Rattle.machine_turn.specs.Held.{state_of}
use Rattle.machine_step.proofs.Traps.{never_traps}
use Rattle.machine_step.proofs.making.make_given.Goals as goal

pub unreachable-requires : goal.unreachable-requires
unreachable-requires g c =
    never_traps g.W.Word.BITS c.args.given (state_of c.args.m.now.held) c.in-Err.field-0 c.args.moves.now c.requires.fine c.in-Err.ensures.made.0
