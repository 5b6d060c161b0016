use Rattle.std.proofs.Common.{length}
use Rattle.asm_row.specs.Walk.{LineOf}
use Rattle.asm_row.proofs.tokens.are_tokens.Given as goal

abbrev pub invariant-loop-behind : goal.invariant-loop-behind
invariant-loop-behind l = (LineOf l.rest → LineOf l.text) × (LineOf l.text → LineOf l.rest)

abbrev pub decreases-loop-behind : goal.decreases-loop-behind
decreases-loop-behind l = length l.rest
