-- Which bytes are a source that is accepted for a description, and why others aren't.
use Rattle.std.specs.Prelude.{◌≡◌, ℕ, Bool, List, []}
use Rattle.rtl_tree.specs.declared.expressions.BinOp.{BinOp}
use Rattle.vp_io.specs.declared.answers.Reason.{Reason}
use Rattle.md_rows.specs.declared.description.RawDescription.{RawDescription}
use Rattle.c_tree.specs.declared.fault.CFault.{CFault}
use Rattle.c_tree.specs.declared.fault.CFault.TheVariants as fault
use Rattle.c_tree.specs.declared.syntax.Syntax.{Syntax}
use Rattle.c_tree.specs.declared.typed.Typed.{Typed}
use Rattle.c_source.specs.Source.{SpellsTree, IsRefused}
use Rattle.c_typing.specs.Program.{IsTyped, program}
use Rattle.c_limits.specs.Limits.{IsFirst}
use Rattle.c_lacks.specs.Operators.{AreOperators}
use Rattle.c_lacks.specs.Lacks.{tree_lacks, IsToldOf}
use Rattle.pass_driver.specs.Compiling.{limits_broken, HasOperators}

-- the bytes spell a tree that breaks no rule of typing, and this is the typed tree
pub record IsTypedSource (w : ℕ) (source : List ℕ) (t : Typed) : Type 0 where
  pub tree : Syntax
  pub spells : SpellsTree source tree
  pub typed : IsTyped w tree t

-- besides, it passes no limit, and the description has its operators
pub record IsSource (d : RawDescription) (source : List ℕ) (t : Typed) : Type 0 where
  pub typed : IsTypedSource d.word source t
  pub within : limits_broken d t ≡ []
  pub operators : HasOperators d t

abbrev pub IsAccepted : RawDescription → List ℕ → Type 0
IsAccepted d source = (t : Typed) × IsSource d source t

-- the first place where the tree has an operator that the description lacks
pub record LacksOperator (d : RawDescription) (t : Typed) (reason : Reason) : Type 0 where
  pub has : BinOp → Bool
  pub operators : AreOperators d has
  pub first : IsToldOf (tree_lacks has t) reason

-- the bytes aren't accepted, for this reason: they spell no tree; or they do, but it breaks a rule of typing; or it doesn't, but passes
-- a limit; or it passes none, but has an operator that the description lacks
pub data IsRefusedFor (d : RawDescription) (source : List ℕ) (reason : Reason) : Type 0 where
  by_spelling : IsRefused source reason → IsRefusedFor d source reason
  by_typing : (tree : Syntax) → SpellsTree source tree → IsToldOf (program d.word tree).faults reason → IsRefusedFor d source reason
  by_limits : (t : Typed) → IsTypedSource d.word source t → IsFirst (limits_broken d t) reason → IsRefusedFor d source reason
  by_operators : (t : Typed) → IsTypedSource d.word source t → limits_broken d t ≡ [] → LacksOperator d t reason → IsRefusedFor d source reason

-- want of memory tells nothing
abbrev pub Refuses : RawDescription → List ℕ → CFault → Type 0
Refuses d source fault.NoMemory = Unit {0}
Refuses d source (fault.Bad reason) = IsRefusedFor d source reason
