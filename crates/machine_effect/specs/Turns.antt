-- What one turn comes to, on registers, flags and memory.
use Rattle.std.specs.Prelude.{ℕ, suc, ◌++◌, ◌≡◌, Bool, true, false, List, [], ◌∷◌, Option, Some, None, Result, Ok, Err}
use Rattle.rtl_tree.specs.Moves.{Move}
use Rattle.rtl_value.specs.declared.state.Trap.{Trap}
use Rattle.rtl_value.specs.declared.state.Trap.TheVariants.{Place}
use Rattle.rtl_value.specs.declared.state.State.{State}
use Rattle.rtl_effect.specs.Effects.{takes}
use Rattle.machine_run.specs.Machine.{byte_out}
use Rattle.machine_turn.specs.Turn.{Made, made_by, memory_with}

-- a turn goes on at a place, ends with a status, or traps; `out` is what was printed
pub data Turned : Type 0 where
  On : State → (place : ℕ) → (out : List ℕ) → Turned
  Ends : (out : List ℕ) → (status : ℕ) → Turned
  TrapsBy : Trap → Turned

-- the program counter reads as the number of the next instruction
abbrev pub at_place : ℕ → State → State
at_place place s = record s { next_place = suc place }

-- the state with all that a transfer made
abbrev pub after_made : Made → State → State
after_made d s = record s { registers = d.registers; flags = d.flags; memory = memory_with d.outcome.stored s.memory }

abbrev pub halted_by : Option ℕ → Made → State → Turned
halted_by None d s = On (after_made d s) d.outcome.place (byte_out d.outcome.printed)
halted_by (Some status) d s = Ends (byte_out d.outcome.printed) status

abbrev pub turned_by : Result Made Trap → State → Turned
turned_by (Ok d) s = halted_by d.outcome.status d s
turned_by (Err trap) s = TrapsBy trap

-- one turn at a place: the transfer of its instruction, given the byte that it takes of the input, or a trap where there is none
abbrev pub turn_on : ℕ → Option (List Move) → Option ℕ → ℕ → State → Turned
turn_on w (Some ms) given place s = turned_by (made_by w given ms (at_place place s)) (at_place place s)
turn_on w None given place s = TrapsBy Place

abbrev pub takes_at : Option (List Move) → Bool
takes_at (Some ms) = takes ms
takes_at None = false

-- the bytes that are taken, where a byte is, given the one that was there
abbrev pub bytes_taken : Bool → Option ℕ → List ℕ
bytes_taken true (Some b) = b ∷ []
bytes_taken true None = []
bytes_taken false given = []

-- where a byte is taken and none was there, none follows
abbrev pub EndMeans : Bool → Option ℕ → List ℕ → Type 0
EndMeans true None more = more ≡ []
EndMeans true (Some b) more = Unit {0}
EndMeans false given more = Unit {0}
