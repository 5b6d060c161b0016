-- A turn on what is held is a turn of the definition.
use Rattle.std.specs.Prelude.{ℕ, ◌≡◌, ◌++◌, List, length, slice_get, Option, Some, All}
use Rattle.rtl_tree.specs.Moves.{Move}
use Rattle.rtl_value.specs.declared.state.State.{State}
use Rattle.machine_run.specs.Machine.{Code, MachineState, turn}
use Rattle.machine_turn.specs.Held.{IsSideOf}
use Rattle.machine_effect.specs.Turns.{turn_on, takes_at, bytes_taken, EndMeans}
use Rattle.machine_effect.specs.Standing.{Stands, TurnIs}

-- a transfer that the machine makes; it may name objects and labels
abbrev pub IsMade : ℕ → List Move → Type 0
IsMade w ms = All (λ m. IsSideOf (Unit {0}) w m.to m.value) ms

-- on the byte that is taken, and all that may follow it
abbrev pub TurnIsTurn : Type 0
TurnIsTurn =
    (p : Code) → All (IsMade p.word) p.transfers → (place : ℕ) (s : State) → length s.registers ≡ 64 → length s.flags ≡ 8
    → (given : Option ℕ) (more : List ℕ) (m : MachineState)
    → Stands p.word place s (bytes_taken (takes_at (slice_get p.transfers place)) given ++ more) m
    → EndMeans (takes_at (slice_get p.transfers place)) given more
    → TurnIs p.word more m (turn p m) (turn_on p.word (slice_get p.transfers place) given place s)
