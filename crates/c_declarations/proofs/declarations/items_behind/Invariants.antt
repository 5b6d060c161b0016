use Rattle.std.proofs.Common.{◌≡◌}
use Rattle.c_grammar.specs.Words.{lexemes}
use Rattle.c_declarations.specs.Declarations.{items}
use Rattle.c_reading.specs.Ahead.{shallow}
use Rattle.c_declarations.proofs.declarations.items_behind.Given as goal

abbrev pub invariant-loop-depth : goal.invariant-loop-depth
invariant-loop-depth l = items shallow l.depth l.items l.nesting (lexemes l.rest) ≡ items shallow l.fn.depth l.fn.items l.nesting (lexemes l.tokens)

abbrev pub decreases-loop-depth : goal.decreases-loop-depth
decreases-loop-depth l = l.depth
