-- What an emitter has gathered, and what was appended to it.
use Rattle.std.specs.Prelude.{◌≡◌, ℕ, ◌+◌, List, ◌++◌, map}
use Rattle.naive_code.specs.Operations.{Op}
use Rattle.naive_code.specs.Expressions.{Value, Test}
use Rattle.naive_expr.specs.declared.emission.Emitter.{Emitter}
use Rattle.naive_expr.specs.declared.emission.Jump.{Jump}
use Rattle.naive_expr.specs.Seen.{op_of}

unfoldable pub emitted : Emitter → List Op
emitted e = map op_of e.ops

-- operations were appended, and temporaries of these depths, so many, and so many labels taken
pub record Adds (old new : Emitter) (os : List Op) (ds : List ℕ) (temps labels : ℕ) : Type 0 where
  pub ops : emitted new ≡ emitted old ++ os
  pub depths : new.depths ≡ old.depths ++ ds
  pub temp : new.next_temp ≡ old.next_temp + temps
  pub label : new.next_label ≡ old.next_label + labels

-- what brings a value to a temporary
abbrev pub Brings : (old new : Emitter) → Value → (depth : ℕ) → Type 0
Brings old new v d = Adds old new (v.ops old.next_temp old.next_label) (v.depths d) v.temps v.labels

-- what jumps by a truth
abbrev pub Decides : (old new : Emitter) → Test → Jump → (depth : ℕ) → Type 0
Decides old new t j d = Adds old new (t.ops j.sense j.target j.next old.next_temp old.next_label) (t.depths d) t.temps t.labels
