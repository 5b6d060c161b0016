use Rattle.std.proofs.Common.{◌≡◌, []}
use Rattle.c_grammar.specs.Words.{lexemes}
use Rattle.c_declarations.specs.Declarations.{parameter_list}
use Rattle.c_reading.specs.Ahead.{shallow}
use Rattle.c_declarations.proofs.declarations.parameter_list.Given as goal

abbrev pub invariant-loop-depth : goal.invariant-loop-depth
invariant-loop-depth l = parameter_list shallow l.depth l.parameters l.nesting (lexemes l.rest) ≡ parameter_list shallow l.fn.depth [] l.nesting (lexemes l.tokens)

abbrev pub decreases-loop-depth : goal.decreases-loop-depth
decreases-loop-depth l = l.depth
