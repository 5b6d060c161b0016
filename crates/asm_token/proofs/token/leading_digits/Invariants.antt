use Rattle.std.proofs.Common.{◌-◌}
use Rattle.asm_token.proofs.Digits.{DigitsTo}
use Rattle.asm_token.proofs.token.leading_digits.Given as goal

abbrev pub invariant-loop-length : goal.invariant-loop-length
invariant-loop-length l = DigitsTo l.text l.length l.value

abbrev pub decreases-loop-length : goal.decreases-loop-length
decreases-loop-length l = 10 - l.length
