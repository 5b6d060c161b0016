-- What a call takes of the stack, as lowering asks it.
use Rattle.std.proofs.Common.{◌≡◌, ℕ}
use Rattle.c_tree.specs.declared.typed.Function.{Function}
use Rattle.c_meaning.specs.Parts.{Setting}
use Rattle.c_helpers.specs.declared.operator.Operator.{Operator}
use Rattle.c_helper_trees.specs.Trees.{function_of}
use Rattle.c_lowering.specs.Lowering.{Operators, lower_function}

-- a helper takes nothing of the stack, and a lowered function what it took
pub record IsFair (m : Setting) : Type 0 where
  pub helpers : (o : Operator) → m.takes (function_of m.bits o) ≡ 0
  pub lowered : (p : Operators) (n : ℕ) (f : Function) → m.takes (lower_function p n f) ≡ m.takes f
