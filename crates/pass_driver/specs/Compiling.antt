-- What compiling asks of a typed tree, and what it gives.
use Rattle.std.specs.Prelude.{◌≡◌, ℕ, ◌-◌, Bool, List, [], All}
use Rattle.behaviour.specs.Run.{AreBytes, Same}
use Rattle.vp_io.specs.declared.answers.Reason.{Reason}
use Rattle.rtl_tree.specs.declared.expressions.BinOp.{BinOp}
use Rattle.md_rows.specs.declared.description.RawDescription.{RawDescription}
use Rattle.c_tree.specs.declared.syntax.Syntax.{Syntax}
use Rattle.c_tree.specs.declared.typed.Typed.{Typed}
use Rattle.c_grammar.specs.Words.{Lexeme}
use Rattle.c_grammar.specs.Spelling.{Spelled}
use Rattle.c_typing.specs.Program.{IsTyped}
use Rattle.c_limits.specs.Limits.{limit_faults}
use Rattle.c_lacks.specs.Operators.{AreOperators}
use Rattle.c_lacks.specs.Lacks.{tree_lacks, IsSound}
use Rattle.c_meaning.specs.Settings.{setting_of}
use Rattle.c_meaning.specs.Run.{source_run, IsClean}
use Rattle.temp_code.specs.Realised.{AreRealised}
use Rattle.asm_program.specs.Programs.{Assembled}
use Rattle.asm_print.specs.Printable.{IsProgramFor}
use Rattle.machine_run.specs.Machine.{machine_run}
use Rattle.rtl_machine.specs.Loading.{code_of}
use Rattle.pass_driver.specs.declared.compiled.Dump.{Dump}
use Rattle.pass_driver.specs.declared.compiled.Compiled.{Compiled}

-- what breaks the limits of a description
abbrev pub limits_broken : RawDescription → Typed → List Reason
limits_broken d t = limit_faults [] d.word (d.memory - d.stack - d.base) t

-- the description has each operator of the tree
pub record HasOperators (d : RawDescription) (t : Typed) : Type 0 where
  pub has : BinOp → Bool
  pub operators : AreOperators d has
  pub lacks_none : IsSound (tree_lacks has t)

-- typing gives the tree for one that some tokens spell, it passes no limit, and the description has its operators
pub record MayBeCompiled (d : RawDescription) (t : Typed) : Type 0 where
  pub tokens : List Lexeme
  pub tree : Syntax
  pub spelled : Spelled tokens tree
  pub typed : IsTyped d.word tree t
  pub within : limits_broken d t ≡ []
  pub operators : HasOperators d t

-- on every input of bytes on which the source never fails, the program does on the described machine what the source does
abbrev pub DoesAsSource : RawDescription → Typed → Assembled → Type 0
DoesAsSource d t p = (input : List ℕ) → AreBytes input → IsClean (setting_of [] d.word d.stack) t input
    → Same (source_run (setting_of [] d.word d.stack) t input) (machine_run (code_of d p) input)

-- the program of a tree: it has an assembly text, and does what the source does; each transfer of each dump is that of an instruction
pub record IsCompiled (d : RawDescription) (t : Typed) (c : Compiled) : Type 0 where
  pub printable : IsProgramFor d c.program
  pub same : DoesAsSource d t c.program
  pub realised : All (λ (dump : Dump). All (λ part. AreRealised d part.code) dump.parts) c.dumps
