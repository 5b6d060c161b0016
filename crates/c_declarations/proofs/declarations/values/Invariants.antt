use Rattle.std.proofs.Common.{◌≡◌, []}
use Rattle.c_grammar.specs.Words.{lexemes}
use Rattle.c_declarations.specs.Declarations.{values}
use Rattle.c_reading.specs.Ahead.{shallow}
use Rattle.c_declarations.proofs.declarations.values.Given as goal

abbrev pub invariant-loop-depth : goal.invariant-loop-depth
invariant-loop-depth l = values shallow l.depth l.at l.values l.nesting (lexemes l.rest) ≡ values shallow l.fn.depth l.at [] l.nesting (lexemes l.tokens)

abbrev pub decreases-loop-depth : goal.decreases-loop-depth
decreases-loop-depth l = l.depth
