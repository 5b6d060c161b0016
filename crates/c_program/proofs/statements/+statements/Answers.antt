-- A reading with calls left is one step, which ends in a call.
use Rattle.std.proofs.Common.{◌≡◌, refl, sym, rules, arith}
use Rattle.c_grammar.specs.Words.{lexemes}
use Rattle.c_reading.specs.Ahead.{shallow}
use Rattle.c_program.proofs.Deeper.{one_deeper, rest_deeper}
use Rattle.c_program.proofs.statements.+statements.Goals as goal

pub statement-returns-in_err-statement : goal.statement-returns-in_err-statement
statement-returns-in_err-statement t c = rw (one_deeper shallow c.args.depth c.args.nesting (lexemes c.args.tokens.now) (omega arith)) (search rules)

pub statements-returns-in_err-item : goal.statements-returns-in_err-item
statements-returns-in_err-item t c = rw (sym c.loop-depth.invariant.same) (rw (rest_deeper shallow c.loop-depth.depth c.loop-depth.statements c.args.nesting (lexemes c.loop-depth.rest.now) (omega arith)) (search rules))

pub statements-returns : goal.statements-returns
statements-returns t c = let none : c.loop-depth.depth ≡ 0 = omega arith in rw (sym c.loop-depth.invariant.same) (rw none (record { reads = refl }))
