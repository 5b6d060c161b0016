-- What stands in the holes of a row, as far as it is known, and what putting a value in a hole leaves.
use Rattle.std.specs.Prelude.{ℕ, Bool, false, cond, ◌==◌, List, [], ◌∷◌, slice_get, set, Option, Some, None}
use Rattle.rtl_tree.specs.Trees.{Tree, Number, Symbol, CodeLabel, Read}
use Rattle.rtl_tree.specs.Same.{same_cell, same_label}
use Rattle.rtl_tree.specs.declared.cells.Cell.TheVariants.{Hard, Temp}
use Rattle.md_rows.specs.declared.row.Hole.{Hole}
use Rattle.md_rows.specs.declared.instance.Bound.{Bound}
use Rattle.md_rows.specs.declared.instance.Bound.TheVariants.{Reg, Num, Sym, Label}
use Rattle.md_rows.specs.Fits.{fits}

-- what stands in each hole, as far as it is known
abbrev pub Slots : Type 0
Slots = List (Option Bound)

-- no hole is known yet
abbrev pub no_slots : Slots
no_slots = None ∷ None ∷ None ∷ None ∷ None ∷ None ∷ None ∷ None ∷ []

-- which values fit which holes
abbrev pub Fit : Type 0
Fit = ℕ → Bound → Bool

abbrev pub same_bound : Bound → Bound → Bool
same_bound (Reg c) (Reg d) = same_cell c d
same_bound (Num n) (Num m) = n == m
same_bound (Sym n) (Sym m) = n == m
same_bound (Label l) (Label m) = same_label l m
same_bound _ _ = false

-- the value that a leaf can give a hole
abbrev pub bound_of : Tree → Option Bound
bound_of (Number n) = Some (Num n)
bound_of (Symbol n) = Some (Sym n)
bound_of (CodeLabel l) = Some (Label l)
bound_of (Read (Hard k)) = Some (Reg (Hard k))
bound_of (Read (Temp k)) = Some (Reg (Temp k))
bound_of _ = None

-- whether a value fits a hole of a list of holes
abbrev pub fit_at : ℕ → ℕ → Option Hole → Bound → Bool
fit_at w g (Some hole) v = fits w g hole v
fit_at w g None v = false

abbrev pub fit_of : ℕ → ℕ → List Hole → Fit
fit_of w g holes h v = fit_at w g (slice_get holes h) v

-- puts a value in a hole that is free and that it fits, or that has it already
abbrev pub put_in : Fit → ℕ → Bound → Slots → Option Bound → Option Slots
put_in f h v s (Some u) = cond (same_bound u v) (Some s) None
put_in f h v s None = cond (f h v) (Some (set s h (Some v))) None

abbrev pub put_slot : Fit → ℕ → Bound → Slots → Option (Option Bound) → Option Slots
put_slot f h v s (Some held) = put_in f h v s held
put_slot f h v s None = None

unfoldable pub put : Fit → ℕ → Option Bound → Slots → Option Slots
put f h (Some v) s = put_slot f h v s (slice_get s h)
put f h None s = None
