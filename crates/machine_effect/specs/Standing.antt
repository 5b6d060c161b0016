-- What a machine holds, beside a state of the definition.
use Rattle.std.specs.Prelude.{ℕ, ◌<◌, ◌≡◌, ◌++◌, true, List, length, slice_get, slice_index, Some}
use Rattle.behaviour.specs.Behaviour.{Trapped}
use Rattle.behaviour.specs.Steps.{Move as Turn, Goes, Stops, Fails}
use Rattle.rtl_tree.specs.declared.cells.Cell.{Cell}
use Rattle.rtl_tree.specs.declared.cells.Cell.TheVariants.{Input}
use Rattle.rtl_tree.specs.declared.cells.Lab.{Lab}
use Rattle.rtl_value.specs.declared.state.State.{State}
use Rattle.rtl_value.specs.Values.{cell_of, label_of}
use Rattle.rtl_effect.specs.Views.{View, mark_of}
use Rattle.rtl_effect.specs.Effects.{next_in}
use Rattle.machine_run.specs.Machine.{MachineState, trap_number, view_at}
use Rattle.machine_turn.specs.Held.{IsCellRead}
use Rattle.machine_effect.specs.Turns.{Turned, On, Ends, TrapsBy, at_place}

-- the view has what the state holds, and no more
pub record Shows (w : ℕ) (s : State) (v : View) : Type 0 where
  pub cells : (c : Cell) → IsCellRead c → v.cells c ≡ Some (cell_of w s c)
  pub flags : (k : ℕ) → v.flags k ≡ mark_of (slice_get s.flags k)
  pub size : v.size ≡ length s.memory
  pub bytes : (a : ℕ) → a < length s.memory → v.bytes a ≡ Some (slice_index s.memory a)
  pub reach : (a : ℕ) → v.reach a ≡ true
  pub symbols : (n : ℕ) → v.symbols n ≡ slice_index s.symbols n
  pub labels : (l : Lab) → v.labels l ≡ Some (label_of s l)
  pub targets : (l : Lab) → v.targets l ≡ Some (label_of s l)
  pub places : (n : ℕ) → v.places n ≡ Some n

-- the definition's state is at this place, shows this, and has this input before it
pub record Stands (w place : ℕ) (s : State) (input : List ℕ) (m : MachineState) : Type 0 where
  pub place_is : m.place ≡ place
  pub shows : Shows w (at_place place s) (view_at place m.view)
  pub input_is : m.view.input ≡ input
  pub next : m.view.cells Input ≡ Some (next_in w input)

-- a turn of the definition comes to the same
abbrev pub TurnIs : ℕ → List ℕ → MachineState → Turn MachineState → Turned → Type 0
TurnIs w more m t (On s place out) = (n : MachineState) × (t ≡ Goes n) × Stands w place s more n × (n.printed ≡ m.printed ++ out)
TurnIs w more m t (Ends out status) = t ≡ Stops (m.printed ++ out) status
TurnIs w more m t (TrapsBy trap) = t ≡ Fails m.printed (Trapped (trap_number trap) m.place)
