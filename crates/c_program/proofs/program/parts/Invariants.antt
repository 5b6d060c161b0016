use Rattle.std.proofs.Common.{◌≡◌, []}
use Rattle.c_grammar.specs.Words.{lexemes}
use Rattle.c_program.specs.Statements.{parts}
use Rattle.c_reading.specs.Ahead.{shallow}
use Rattle.c_program.proofs.program.parts.Given as goal

abbrev pub invariant-loop-depth : goal.invariant-loop-depth
invariant-loop-depth l = parts shallow l.depth l.parts l.nesting (lexemes l.rest) ≡ parts shallow l.fn.depth [] l.nesting (lexemes l.tokens)

abbrev pub decreases-loop-depth : goal.decreases-loop-depth
decreases-loop-depth l = l.depth
