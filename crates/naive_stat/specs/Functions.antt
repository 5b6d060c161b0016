-- The operations of a function, as they were made.
use Rattle.std.specs.Prelude.{◌≡◌, ℕ, ◌+◌, [], ◌∷◌, ◌++◌}
use Rattle.c_tree.specs.declared.typed.Function.{Function}
use Rattle.c_tree.specs.declared.typed.Typed.{Typed}
use Rattle.naive_code.specs.Functions.{function_ops, function_labels, body_steps}
use Rattle.naive_expr.specs.declared.emission.Emitter.{Emitter}
use Rattle.naive_expr.specs.Emitted.{emitted}

pub record AreOperationsOf (w pushed : ℕ) (t : Typed) (f : Function) (label : ℕ) (out : Emitter) : Type 0 where
  pub ops : emitted out ≡ function_ops [] w pushed t f label
  pub depths : out.depths ≡ (body_steps [] w t f).depths ++ 0 ∷ []
  pub next : out.next_label ≡ label + function_labels [] w t f
