-- The bound is enough.
use Rattle.std.proofs.Common.{ℕ, suc, ◌+◌, ◌*◌, length, subst, Err}
use Rattle.std.proofs.lemmas.List.{length-map}
use Rattle.c_tree.specs.declared.syntax.Syntax.{Syntax}
use Rattle.c_grammar.specs.Words.{lexemes}
use Rattle.c_reading.specs.declared.fault.Fault.{Fault}
use Rattle.c_reading.specs.declared.fault.Fault.TheVariants as fault
use Rattle.c_reading.specs.Parsers.{Read}
use Rattle.c_program.specs.Statements.{program}
use Rattle.c_reading.specs.Ahead.{Fails, NotOut, shallow}
use Rattle.c_reading.proofs.Enough.{Sure}
use Rattle.c_program.proofs.EnoughPrograms.{program_sure}
use Rattle.c_program.proofs.program.read.Goals as goal

not_out : {A : Type 0} (B : Type 0) (b : ℕ) (r : Read A) → Sure b r → (e : Fault) → Fails r e → NotOut {A = B} (Err e)
not_out B b r s fault.NoMemory h = tt
not_out B b r s (fault.Wrong n) h = tt
not_out B b r s (fault.Deep n) h = tt
not_out B b r s fault.Out h = subst (Sure b) h s

pub returns-in-Err-clause-ends : goal.returns-in-Err-clause-ends
returns-in-Err-clause-ends c = not_out Syntax _ _ (subst (λ n. Sure (suc (length (lexemes c.args.tokens.now))) (program shallow (8 * n + 16) (lexemes c.args.tokens.now))) (length-map c.args.tokens.now _) (program_sure shallow (lexemes c.args.tokens.now))) _ c.in-Err.ensures.reads
