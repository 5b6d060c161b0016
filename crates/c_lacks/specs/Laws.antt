-- What is promised of sets of operators, and of trees that lack none.
use Rattle.std.specs.Prelude.{ℕ, ◌≡◌, Bool, true}
use Rattle.rtl_tree.specs.declared.expressions.BinOp.{BinOp}
use Rattle.md_rows.specs.declared.description.RawDescription.{RawDescription}
use Rattle.md_check.specs.Checking.{HasBits}
use Rattle.c_tree.specs.declared.typed.Typed.{Typed}
use Rattle.naive_fits.specs.Expandable.{AreThere}
use Rattle.c_lacks.specs.Operators.{AreOperators, has_in}
use Rattle.c_lacks.specs.Lacks.{tree_lacks, IsSound}
use Rattle.naive_regular.specs.Operators.{operators_there}

-- what `operators` tells of a description are its operators
abbrev pub SetsAreOperators : Type 0
SetsAreOperators = (d : RawDescription) (bits : ℕ) → HasBits d bits 10 → AreOperators d (has_in bits)

-- and code may use them
abbrev pub OperatorsAreThere : Type 0
OperatorsAreThere = (d : RawDescription) (has : BinOp → Bool) → AreOperators d has → AreThere d has

-- a tree that lacks none has all that it needs
abbrev pub NoneIsLacked : Type 0
NoneIsLacked = (has : BinOp → Bool) (t : Typed) → IsSound (tree_lacks has t) → operators_there has t ≡ true
