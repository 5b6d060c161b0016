use Rattle.std.proofs.Common.{ℕ, List, length}
use Rattle.asm_token.specs.Tokens.{Token}
use Rattle.asm_row.specs.Walk.{IsLine}
use Rattle.asm_faults.specs.Counts.{AreAdding, HoldsNames}
use Rattle.asm_faults.proofs.positions.with_symbols.Given as goal

abbrev pub invariant-loop-names : goal.invariant-loop-names
invariant-loop-names l = (ns : List (List ℕ)) (ts : List Token) → HoldsNames ns l.fn.names → IsLine l.line ts → AreAdding ns ts l.rest l.names

abbrev pub decreases-loop-names : goal.decreases-loop-names
decreases-loop-names l = length l.rest
