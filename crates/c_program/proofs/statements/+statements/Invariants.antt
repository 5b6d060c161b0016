use Rattle.std.proofs.Common.{◌≡◌, [], ◌*◌, ◌+◌, ◌≤◌}
use Rattle.c_grammar.specs.Words.{lexemes}
use Rattle.c_program.specs.Statements.{statements}
use Rattle.c_reading.specs.Ahead.{shallow}
use Rattle.c_program.proofs.statements.+statements.Given as goal

abbrev pub invariant-statements-loop-depth : goal.invariant-statements-loop-depth
invariant-statements-loop-depth l = record {
  few : l.depth ≤ l.fn.depth;
  same : (statements shallow l.depth).rest l.statements l.nesting (lexemes l.rest) ≡ (statements shallow l.fn.depth).rest [] l.nesting (lexemes l.tokens);
}

abbrev pub decreases-statements-loop-depth : goal.decreases-statements-loop-depth
decreases-statements-loop-depth l = l.depth

abbrev pub decreases-block : goal.decreases-block
decreases-block l = 6 * l.depth + 1

abbrev pub decreases-block_statement : goal.decreases-block_statement
decreases-block_statement l = 6 * l.depth + 2

abbrev pub decreases-else_branch : goal.decreases-else_branch
decreases-else_branch l = 6 * l.depth + 2

abbrev pub decreases-if_statement : goal.decreases-if_statement
decreases-if_statement l = 6 * l.depth + 3

abbrev pub decreases-while_statement : goal.decreases-while_statement
decreases-while_statement l = 6 * l.depth + 2

abbrev pub decreases-do_statement : goal.decreases-do_statement
decreases-do_statement l = 6 * l.depth + 2

abbrev pub decreases-for_statement : goal.decreases-for_statement
decreases-for_statement l = 6 * l.depth + 2

abbrev pub decreases-switch_statement : goal.decreases-switch_statement
decreases-switch_statement l = 6 * l.depth + 2

abbrev pub decreases-case_statement : goal.decreases-case_statement
decreases-case_statement l = 6 * l.depth + 2

abbrev pub decreases-default_statement : goal.decreases-default_statement
decreases-default_statement l = 6 * l.depth + 2

abbrev pub decreases-statement : goal.decreases-statement
decreases-statement l = 6 * l.depth

abbrev pub decreases-block_item : goal.decreases-block_item
decreases-block_item l = 6 * l.depth + 1

abbrev pub decreases-statements : goal.decreases-statements
decreases-statements l = 6 * l.depth

abbrev pub decreases-statement_at : goal.decreases-statement_at
decreases-statement_at l = 6 * l.depth + 4
