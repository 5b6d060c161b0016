use Rattle.std.proofs.Common.{sym, ◌∙◌}
use Rattle.temp_code.specs.Routines.{routine_of}
use Rattle.flow_live.proofs.making.live_by.Goals as goal

pub returns : goal.returns
returns c = λ t roles flow.
    c.in_ok-live.ensures t (c.standing_of-standing.ensures t (routine_of c.args.c.now) roles c.is_in_code-2.ensures) (sym c.is_in_code.ensures ∙ c.if-is_in_code.false) flow
