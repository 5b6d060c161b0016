use Rattle.std.proofs.Common.{◌≡◌, [], ◌*◌, ◌+◌, ◌≤◌}
use Rattle.c_grammar.specs.Words.{lexemes}
use Rattle.c_reading.specs.Expressions.{read, in_call}
use Rattle.c_reading.specs.Ahead.{shallow}
use Rattle.c_reading.proofs.expressions.+reading.Given as goal

abbrev pub decreases-expression : goal.decreases-expression
decreases-expression l = 4 * l.depth

abbrev pub decreases-more_commas : goal.decreases-more_commas
decreases-more_commas l = 4 * l.depth

abbrev pub decreases-assignment : goal.decreases-assignment
decreases-assignment l = 4 * l.depth

abbrev pub decreases-after_left : goal.decreases-after_left
decreases-after_left l = 4 * l.depth + 1

abbrev pub decreases-conditional : goal.decreases-conditional
decreases-conditional l = 4 * l.depth

abbrev pub decreases-operation : goal.decreases-operation
decreases-operation l = 4 * l.depth

abbrev pub decreases-more_operators : goal.decreases-more_operators
decreases-more_operators l = 4 * l.depth

abbrev pub decreases-operand : goal.decreases-operand
decreases-operand l = 4 * l.depth

abbrev pub decreases-cast_or_parenthesis : goal.decreases-cast_or_parenthesis
decreases-cast_or_parenthesis l = 4 * l.depth + 2

abbrev pub decreases-parenthesis : goal.decreases-parenthesis
decreases-parenthesis l = 4 * l.depth + 1

abbrev pub decreases-unary_operand : goal.decreases-unary_operand
decreases-unary_operand l = 4 * l.depth

abbrev pub decreases-stepped : goal.decreases-stepped
decreases-stepped l = 4 * l.depth + 1

abbrev pub decreases-signed : goal.decreases-signed
decreases-signed l = 4 * l.depth + 1

abbrev pub decreases-primary : goal.decreases-primary
decreases-primary l = 4 * l.depth + 3

abbrev pub decreases-named : goal.decreases-named
decreases-named l = 4 * l.depth + 2

abbrev pub decreases-called : goal.decreases-called
decreases-called l = 4 * l.depth + 1

abbrev pub decreases-arguments : goal.decreases-arguments
decreases-arguments l = 4 * l.depth

abbrev pub decreases-branches : goal.decreases-branches
decreases-branches l = 4 * l.depth + 1

abbrev pub invariant-arguments-loop-depth : goal.invariant-arguments-loop-depth
invariant-arguments-loop-depth l = record {
  few : l.depth ≤ l.fn.depth;
  same : read shallow l.depth (in_call l.at l.name l.arguments) l.nesting (lexemes l.rest) ≡ read shallow l.fn.depth (in_call l.at l.fn.name []) l.nesting (lexemes l.tokens);
}

abbrev pub decreases-arguments-loop-depth : goal.decreases-arguments-loop-depth
decreases-arguments-loop-depth l = l.depth
