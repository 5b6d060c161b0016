-- How many transfers naive code takes at most.
use Rattle.std.specs.Prelude.{◌≡◌, ◌≤◌, ℕ, ◌+◌, ◌*◌, true, List, [], ◌∷◌, length, Contains}
use Rattle.c_tree.specs.declared.typed.Function.{Function}
use Rattle.c_tree.specs.declared.typed.Typed.{Typed}
use Rattle.c_limits.specs.Weights.{function_weight}
use Rattle.naive_code.specs.Operations.{Stop, Falls, Jumps, Branches, Calls, Returns, Op, Make, Meet, Scale, Extend, Close}
use Rattle.naive_code.specs.Functions.{function_ops}
use Rattle.naive_run.specs.Standing.{Shaped, ways}
use Rattle.naive_counts.specs.Names.{names_scalars}

-- the transfers with which a block ends; a branch by a flag is a comparison and a jump; a return counts as many as are said
abbrev pub most_at_end : (per_return : ℕ) → Stop → ℕ
most_at_end per Falls = 0
most_at_end per (Jumps l) = 1
most_at_end per (Branches r a b l) = 2
most_at_end per (Calls f) = 1
most_at_end per Returns = per

-- the transfers of an operation, in the longest of its ways
abbrev pub most : (per_return : ℕ) → Op → ℕ
most per (Make p o) = 1
most per (Meet a b) = 2
most per (Scale a spare) = 2
most per (Extend a spare) = 3
most per (Close stop l) = most_at_end per stop

abbrev pub most_with : (per_return : ℕ) → List Op → ℕ
most_with per [] = 0
most_with per (o ∷ os) = most per o + most_with per os

-- their transfers alone: a return has none
abbrev pub most_in : List Op → ℕ
most_in os = most_with 0 os

-- no way to do an operation is longer
abbrev pub WaysAreCounted : Type 0
WaysAreCounted = (w per : ℕ) (o : Op) (way : List Shaped) → Contains (ways w o) way → length way ≤ most per o

-- A function whose names are those of scalars has no more transfers than it weighs, with 16 to spare.
abbrev pub IsWithinWeight : Type 0
IsWithinWeight =
    (kept : List ℕ) (w pushed : ℕ) (t : Typed) (f : Function) (label : ℕ) → names_scalars t f f.body ≡ true
    → most_in (function_ops kept w pushed t f label) + 16 ≤ function_weight kept f

-- Each return may count as three transfers and one for each kept register, and two for each of these are to spare besides.
abbrev pub AreReturnsWithinWeight : Type 0
AreReturnsWithinWeight =
    (kept : List ℕ) (w pushed : ℕ) (t : Typed) (f : Function) (label per : ℕ) → names_scalars t f f.body ≡ true → per ≤ 3 + length kept
    → most_with per (function_ops kept w pushed t f label) + 16 + 2 * length kept ≤ function_weight kept f
