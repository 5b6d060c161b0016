-- What the typing of a source answers.
use Rattle.std.specs.Prelude.{ℕ, ◌≡◌, Option, Some, None, Result, Ok, Err}
use Rattle.vp_io.specs.declared.answers.Reason.{Reason}
use Rattle.c_tree.specs.declared.fault.CFault.{CFault}
use Rattle.c_tree.specs.declared.fault.CFault.TheVariants as fault
use Rattle.c_tree.specs.declared.syntax.Syntax.{Syntax}
use Rattle.c_tree.specs.declared.typed.Typed.{Typed}
use Rattle.c_typing.specs.declared.names.Fault.{Fault}
use Rattle.c_typing.specs.Faults.{IsFirst}
use Rattle.c_typing.specs.Program.{program}

abbrev pub fault_of : Reason → Fault
fault_of r = record { rule = r.rule; at = record { line = r.line; column = r.column } }

-- the first rule that is broken; want of memory tells nothing
abbrev pub Refuses : ℕ → Syntax → CFault → Type 0
Refuses w s fault.NoMemory = Unit {0}
Refuses w s (fault.Bad r) = IsFirst (program w s).faults (fault_of r) × (r.detail ≡ 0)

-- where nothing was told there is a tree
abbrev pub HasAnswer : Option Fault → Option Typed → Type 0
HasAnswer None None = ⊥
HasAnswer _ _ = Unit {0}

abbrev pub Answers : Option Fault → Option Typed → Result Typed CFault → Type 0
Answers (Some f) tree (Err (fault.Bad r)) = (fault_of r ≡ f) × (r.detail ≡ 0)
Answers None (Some t) (Ok u) = u ≡ t
Answers _ _ _ = ⊥
