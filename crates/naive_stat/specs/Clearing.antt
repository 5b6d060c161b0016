-- The loop that clears elements of an array.
use Rattle.std.specs.Prelude.{ℕ, ◌+◌, List, [], ◌∷◌, ◌++◌}
use Rattle.rtl_word.specs.declared.Rel.TheVariants.{Ne}
use Rattle.c_tree.specs.declared.types.CType.{CType}
use Rattle.naive_code.specs.Operations.{Falls, Branches, Op, Close, constant, add, read_stack}
use Rattle.naive_code.specs.Expressions.{put_at}

-- a turn: the element at the address in t
abbrev pub turn_ops : CType → (t label : ℕ) → List Op
turn_ops of t l = Close Falls l ∷ (put_at of t (t + 4) ++ add t (t + 5) ∷ Close (Branches Ne t (t + 1) l) (l + 1) ∷ [])

abbrev pub cleared_ops : CType → (step from to t label : ℕ) → List Op
cleared_ops of step from to t l =
    read_stack t ∷ read_stack (t + 1) ∷ constant (t + 2) from ∷ add t (t + 2) ∷ constant (t + 3) to ∷ add (t + 1) (t + 3)
    ∷ constant (t + 4) 0 ∷ constant (t + 5) step ∷ turn_ops of t l
