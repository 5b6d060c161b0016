-- A reading with calls left is one step, which ends in a call.
use Rattle.std.proofs.Common.{◌≡◌, refl, sym, rules, arith}
use Rattle.c_grammar.specs.Words.{lexemes}
use Rattle.c_reading.specs.Expressions as spec
use Rattle.c_reading.specs.Ahead.{shallow}
use Rattle.c_reading.proofs.Deeper.{deeper}
use Rattle.c_reading.proofs.expressions.+reading.Goals as goal

pub assignment-returns-in_err-left : goal.assignment-returns-in_err-left
assignment-returns-in_err-left t c = rw (deeper shallow c.args.depth spec.assign c.args.nesting (lexemes c.args.tokens.now) (omega arith)) (search rules)

pub assignment-returns-in_err-e : goal.assignment-returns-in_err-e
assignment-returns-in_err-e t c = rw (deeper shallow c.args.depth spec.assign c.args.nesting (lexemes c.args.tokens.now) (omega arith)) (search rules)

pub conditional-returns-in_err-test-clause-reads : goal.conditional-returns-in_err-test-clause-reads
conditional-returns-in_err-test-clause-reads t c = rw (deeper shallow c.args.depth spec.conditional c.args.nesting (lexemes c.args.tokens.now) (omega arith)) (search rules)

pub conditional-returns-in_err-tokens-in-Question-clause-reads : goal.conditional-returns-in_err-tokens-in-Question-clause-reads
conditional-returns-in_err-tokens-in-Question-clause-reads t c = rw (deeper shallow c.args.depth spec.conditional c.args.nesting (lexemes c.args.tokens.now) (omega arith)) (search rules)

pub conditional-returns-in_err-then-in-Question-clause-reads : goal.conditional-returns-in_err-then-in-Question-clause-reads
conditional-returns-in_err-then-in-Question-clause-reads t c = rw (deeper shallow c.args.depth spec.conditional c.args.nesting (lexemes c.args.tokens.now) (omega arith)) (search rules)

pub conditional-returns-in_ok-e-in-Question-clause-reads : goal.conditional-returns-in_ok-e-in-Question-clause-reads
conditional-returns-in_ok-e-in-Question-clause-reads t c = rw (deeper shallow c.args.depth spec.conditional c.args.nesting (lexemes c.args.tokens.now) (omega arith)) (search rules)

pub conditional-returns-in_default-clause-reads : goal.conditional-returns-in_default-clause-reads
conditional-returns-in_default-clause-reads t c = rw (deeper shallow c.args.depth spec.conditional c.args.nesting (lexemes c.args.tokens.now) (omega arith)) (search rules)

pub expression-returns-in_err-e-clause-reads : goal.expression-returns-in_err-e-clause-reads
expression-returns-in_err-e-clause-reads t c = rw (deeper shallow c.args.depth spec.expr c.args.nesting (lexemes c.args.tokens.now) (omega arith)) (search rules)

pub expression-returns-clause-reads : goal.expression-returns-clause-reads
expression-returns-clause-reads t c = rw (deeper shallow c.args.depth spec.expr c.args.nesting (lexemes c.args.tokens.now) (omega arith)) (search rules)

pub more_commas-returns-in_err-tokens-in-Comma-clause-reads : goal.more_commas-returns-in_err-tokens-in-Comma-clause-reads
more_commas-returns-in_err-tokens-in-Comma-clause-reads t c = rw (deeper shallow c.args.depth (spec.after_comma c.args.e) c.args.nesting (lexemes c.args.tokens.now) (omega arith)) (search rules)

pub more_commas-returns-in_err-right-in-Comma-clause-reads : goal.more_commas-returns-in_err-right-in-Comma-clause-reads
more_commas-returns-in_err-right-in-Comma-clause-reads t c = rw (deeper shallow c.args.depth (spec.after_comma c.args.e) c.args.nesting (lexemes c.args.tokens.now) (omega arith)) (search rules)

pub more_commas-returns-in_ok-e-in-Comma-clause-reads : goal.more_commas-returns-in_ok-e-in-Comma-clause-reads
more_commas-returns-in_ok-e-in-Comma-clause-reads t c = rw (deeper shallow c.args.depth (spec.after_comma c.args.e) c.args.nesting (lexemes c.args.tokens.now) (omega arith)) (search rules)

pub more_operators-returns-in_err-tokens-in-Some-clause-reads : goal.more_operators-returns-in_err-tokens-in-Some-clause-reads
more_operators-returns-in_err-tokens-in-Some-clause-reads t c = rw (deeper shallow c.args.depth (spec.after_operand c.args.least c.args.e) c.args.nesting (lexemes c.args.tokens.now) (omega arith)) (search rules)

pub more_operators-returns-in_err-right-in-Some-clause-reads : goal.more_operators-returns-in_err-right-in-Some-clause-reads
more_operators-returns-in_err-right-in-Some-clause-reads t c = rw (deeper shallow c.args.depth (spec.after_operand c.args.least c.args.e) c.args.nesting (lexemes c.args.tokens.now) (omega arith)) (search rules)

pub more_operators-returns-in_ok-e-in-Some-clause-reads : goal.more_operators-returns-in_ok-e-in-Some-clause-reads
more_operators-returns-in_ok-e-in-Some-clause-reads t c = rw (deeper shallow c.args.depth (spec.after_operand c.args.least c.args.e) c.args.nesting (lexemes c.args.tokens.now) (omega arith)) (search rules)

pub operand-returns-in_err-tokens-in-LeftParen-clause-reads : goal.operand-returns-in_err-tokens-in-LeftParen-clause-reads
operand-returns-in_err-tokens-in-LeftParen-clause-reads t c = rw (deeper shallow c.args.depth spec.cast c.args.nesting (lexemes c.args.tokens.now) (omega arith)) (search rules)

pub operand-returns-in_ok-tokens-in-LeftParen-clause-reads : goal.operand-returns-in_ok-tokens-in-LeftParen-clause-reads
operand-returns-in_ok-tokens-in-LeftParen-clause-reads t c = rw (deeper shallow c.args.depth spec.cast c.args.nesting (lexemes c.args.tokens.now) (omega arith)) (search rules)

pub operand-returns-in_default-clause-reads : goal.operand-returns-in_default-clause-reads
operand-returns-in_default-clause-reads t c = rw (deeper shallow c.args.depth spec.cast c.args.nesting (lexemes c.args.tokens.now) (omega arith)) (search rules)

pub operation-returns-in_err-e-clause-reads : goal.operation-returns-in_err-e-clause-reads
operation-returns-in_err-e-clause-reads t c = rw (deeper shallow c.args.depth (spec.binary c.args.least) c.args.nesting (lexemes c.args.tokens.now) (omega arith)) (search rules)

pub operation-returns-clause-reads : goal.operation-returns-clause-reads
operation-returns-clause-reads t c = rw (deeper shallow c.args.depth (spec.binary c.args.least) c.args.nesting (lexemes c.args.tokens.now) (omega arith)) (search rules)

pub unary_operand-returns-in_err-tokens-in-LeftParen-clause-reads : goal.unary_operand-returns-in_err-tokens-in-LeftParen-clause-reads
unary_operand-returns-in_err-tokens-in-LeftParen-clause-reads t c = rw (deeper shallow c.args.depth spec.unary c.args.nesting (lexemes c.args.tokens.now) (omega arith)) (search rules)

pub unary_operand-returns-in-Increment-clause-reads : goal.unary_operand-returns-in-Increment-clause-reads
unary_operand-returns-in-Increment-clause-reads t c = rw (deeper shallow c.args.depth spec.unary c.args.nesting (lexemes c.args.tokens.now) (omega arith)) (search rules)

pub unary_operand-returns-in-Decrement-clause-reads : goal.unary_operand-returns-in-Decrement-clause-reads
unary_operand-returns-in-Decrement-clause-reads t c = rw (deeper shallow c.args.depth spec.unary c.args.nesting (lexemes c.args.tokens.now) (omega arith)) (search rules)

pub unary_operand-returns-in-Plus-clause-reads : goal.unary_operand-returns-in-Plus-clause-reads
unary_operand-returns-in-Plus-clause-reads t c = rw (deeper shallow c.args.depth spec.unary c.args.nesting (lexemes c.args.tokens.now) (omega arith)) (search rules)

pub unary_operand-returns-in-Minus-clause-reads : goal.unary_operand-returns-in-Minus-clause-reads
unary_operand-returns-in-Minus-clause-reads t c = rw (deeper shallow c.args.depth spec.unary c.args.nesting (lexemes c.args.tokens.now) (omega arith)) (search rules)

pub unary_operand-returns-in-Tilde-clause-reads : goal.unary_operand-returns-in-Tilde-clause-reads
unary_operand-returns-in-Tilde-clause-reads t c = rw (deeper shallow c.args.depth spec.unary c.args.nesting (lexemes c.args.tokens.now) (omega arith)) (search rules)

pub unary_operand-returns-in-Exclamation-clause-reads : goal.unary_operand-returns-in-Exclamation-clause-reads
unary_operand-returns-in-Exclamation-clause-reads t c = rw (deeper shallow c.args.depth spec.unary c.args.nesting (lexemes c.args.tokens.now) (omega arith)) (search rules)

pub unary_operand-returns-in_ok-tokens-in-LeftParen-clause-reads : goal.unary_operand-returns-in_ok-tokens-in-LeftParen-clause-reads
unary_operand-returns-in_ok-tokens-in-LeftParen-clause-reads t c = rw (deeper shallow c.args.depth spec.unary c.args.nesting (lexemes c.args.tokens.now) (omega arith)) (search rules)

pub unary_operand-returns-in_default-clause-reads : goal.unary_operand-returns-in_default-clause-reads
unary_operand-returns-in_default-clause-reads t c = rw (deeper shallow c.args.depth spec.unary c.args.nesting (lexemes c.args.tokens.now) (omega arith)) (search rules)

pub arguments-returns-in_err-e : goal.arguments-returns-in_err-e
arguments-returns-in_err-e t c = rw (sym c.loop-depth.invariant.same) (rw (deeper shallow c.loop-depth.depth (spec.in_call c.args.at c.loop-depth.name c.loop-depth.arguments) c.args.nesting (lexemes c.loop-depth.rest.now) (omega arith)) (search rules))

pub arguments-returns-in_err-goes_on : goal.arguments-returns-in_err-goes_on
arguments-returns-in_err-goes_on t c = rw (sym c.loop-depth.invariant.same) (rw (deeper shallow c.loop-depth.depth (spec.in_call c.args.at c.loop-depth.name c.loop-depth.arguments) c.args.nesting (lexemes c.loop-depth.rest.now) (omega arith)) (search rules))

pub arguments-returns-then-not-goes_on : goal.arguments-returns-then-not-goes_on
arguments-returns-then-not-goes_on t c = rw (sym c.loop-depth.invariant.same) (rw (deeper shallow c.loop-depth.depth (spec.in_call c.args.at c.loop-depth.name c.loop-depth.arguments) c.args.nesting (lexemes c.loop-depth.rest.now) (omega arith)) (search rules))

pub arguments-returns : goal.arguments-returns
arguments-returns t c = let none : c.loop-depth.depth ≡ 0 = omega arith in rw (sym c.loop-depth.invariant.same) (rw none (record { reads = refl }))
