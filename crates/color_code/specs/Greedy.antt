-- Temporaries get their colours one after the other, each the first that none of its neighbours has got before.
use Rattle.std.specs.Prelude.{◌≢◌, ◌↔◌, ◌≡◌, ℕ, if◌then◌else◌, ◌==◌, ◌&&◌, Bool, true, false, List, [], ◌∷◌, Option, Some, None}
use Rattle.std.specs.List.{list_any}
use Rattle.temp_machine.specs.Routines.{Routine, Target}
use Rattle.temp_machine.specs.Live.{AreLiveAtOnce, LivesOverCall}
use Rattle.color_code.specs.Colors.{Seats}

abbrev pub has_color : Option ℕ → ℕ → Bool
has_color (Some r) c = r == c
has_color None c = false

-- no temporary is in a register yet
abbrev pub no_seats : Seats
no_seats k = None

abbrev pub with_seat : Seats → ℕ → Option ℕ → Seats
with_seat seats k seat j = if k == j then seat else seats j

-- which temporaries conflict, and which live over a call
pub record Conflicts : Type 0 where
  pub between : ℕ → ℕ → Bool
  pub over_call : ℕ → Bool

-- as the routine has it
pub record AreConflicts (t : Target) (r : Routine) (x : Conflicts) : Type 0 where
  pub between : (i j : ℕ) → i ≢ j → (x.between i j ≡ true) ↔ AreLiveAtOnce t r i j
  pub over_call : (i : ℕ) → (x.over_call i ≡ true) ↔ LivesOverCall t r i

module _ (x : Conflicts) (colors : List ℕ) where
  -- a neighbour among those that were done holds the colour
  abbrev pub is_held : Seats → List ℕ → ℕ → ℕ → Bool
  is_held seats done k c = list_any (λ j. x.between k j && has_color (seats j) c) done

  abbrev pub first_free : Seats → List ℕ → ℕ → List ℕ → Option ℕ
  first_free seats done k [] = None
  first_free seats done k (c ∷ cs) = if is_held seats done k c then first_free seats done k cs else Some c

  abbrev pub seat_for : Seats → List ℕ → ℕ → Option ℕ
  seat_for seats done k = if x.over_call k then None else first_free seats done k colors

  abbrev pub greedy : List ℕ → List ℕ → Seats → Seats
  greedy [] done seats = seats
  greedy (k ∷ ks) done seats = greedy ks (k ∷ done) (with_seat seats k (seat_for seats done k))
