use Rattle.std.proofs.Common.{◌≤◌}
use Rattle.md_expand.proofs.FilledMoves.{both_filled}
use Rattle.md_expand.proofs.Outcomes.{if_ok_both}
use Rattle.md_expand.proofs.moves.filled_by.Goals as goal

pub returns : goal.returns
returns c =
    if_ok_both _ _ _ c.filled_said.result (λ f moves registers. λ n ts all. both_filled (n ≤ 256) ts c.args.leaves.now c.args.said.now f all moves registers)
    c.filled_said.ensures.moves c.filled_said.ensures.registers
