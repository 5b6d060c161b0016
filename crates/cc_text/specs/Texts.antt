-- What is compiled from a source.
use Rattle.std.specs.Prelude.{ℕ, List}
use Rattle.md_rows.specs.declared.description.RawDescription.{RawDescription}
use Rattle.c_tree.specs.declared.typed.Typed.{Typed}
use Rattle.asm_program.specs.Programs.{Assembled, IsText}
use Rattle.pass_driver.specs.Compiling.{DoesAsSource}
use Rattle.cc_text.specs.Sources.{IsSource}

-- THE HEADLINE, of bytes: the source is accepted, the bytes are an assembly text of the described machine, and on every input of bytes on
-- which the source never fails its program does what the source does
pub record IsCompiledTo (d : RawDescription) (source text : List ℕ) : Type 0 where
  pub tree : Typed
  pub accepted : IsSource d source tree
  pub program : Assembled
  pub is_text : IsText d text program
  pub same : DoesAsSource d tree program
