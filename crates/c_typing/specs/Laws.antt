-- Laws of the definitions alone.
use Rattle.std.specs.Prelude.{ℕ, ◌≡◌, true, Some, None}
use Rattle.c_tree.specs.declared.token.At.{At}
use Rattle.c_tree.specs.declared.syntax.Syntax.{Syntax}
use Rattle.c_typing.specs.declared.names.Fault.{Fault}
use Rattle.c_typing.specs.Faults.{Faults, Breaks, IsFirst, notes, clean}
use Rattle.c_typing.specs.Expressions.{is_sound}
use Rattle.c_typing.specs.Program.{program}

abbrev pub TellsFirst : Type 0
TellsFirst = (faults : Faults) (f : Fault) → notes None faults ≡ Some f → IsFirst faults f

abbrev pub TellsNone : Type 0
TellsNone = (faults : Faults) → notes None faults ≡ None → (rule : ℕ) (at : At) → Breaks faults rule at → ⊥

-- a source that breaks no rule has a typed tree
abbrev pub HasTree : Type 0
HasTree = (w : ℕ) (s : Syntax) → clean (program w s).faults ≡ true → is_sound (program w s).tree ≡ true
