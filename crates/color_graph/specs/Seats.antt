-- Seats of temporaries as lists.
use Rattle.std.specs.Prelude.{◌≡◌, ℕ, zero, suc, ◌<◌, Bool, false, List, [], ◌∷◌, slice_index_or, Option, None}
use Rattle.color_code.specs.Colors.{Seats}
use Rattle.color_graph.specs.declared.seating.Colouring.{Colouring}

abbrev pub seats_in : List (Option ℕ) → Seats
seats_in list k = slice_index_or list k None

abbrev pub seats_of : Colouring → Seats
seats_of c = seats_in c.seats.items

-- the numbers below n, the greatest first
abbrev pub below : ℕ → List ℕ
below zero = []
below (suc n) = n ∷ below n

-- so many numbers from n on
abbrev pub numbers : ℕ → ℕ → List ℕ
numbers n zero = []
numbers n (suc count) = n ∷ numbers (suc n) count

-- the marks of registers say which are held
abbrev pub AreMarks : List Bool → (ℕ → Bool) → Type 0
AreMarks marks held = (c : ℕ) → c < 256 → slice_index_or marks c false ≡ held c
