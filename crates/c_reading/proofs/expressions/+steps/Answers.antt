-- A reading with calls left is one step, which ends in a call.
use Rattle.std.proofs.Common.{rules, arith}
use Rattle.c_grammar.specs.Words.{lexemes}
use Rattle.c_reading.specs.Expressions as spec
use Rattle.c_reading.specs.Ahead.{shallow}
use Rattle.c_reading.proofs.Deeper.{deeper}
use Rattle.c_reading.proofs.expressions.+steps.Goals as goal

pub more_steps-returns-in-Increment-clause-reads : goal.more_steps-returns-in-Increment-clause-reads
more_steps-returns-in-Increment-clause-reads t c = rw (deeper shallow c.args.depth (spec.after_postfix c.args.e) c.args.nesting (lexemes c.args.tokens.now) (omega arith)) (search rules)

pub more_steps-returns-in-Decrement-clause-reads : goal.more_steps-returns-in-Decrement-clause-reads
more_steps-returns-in-Decrement-clause-reads t c = rw (deeper shallow c.args.depth (spec.after_postfix c.args.e) c.args.nesting (lexemes c.args.tokens.now) (omega arith)) (search rules)
