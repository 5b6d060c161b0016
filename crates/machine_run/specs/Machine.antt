-- What a program of a described machine does.
use Rattle.std.specs.Prelude.{ℕ, suc, ◌-◌, nat_le, if◌then◌else◌, true, List, [], ◌∷◌, ◌++◌, slice_get, slice_index, Option, Some, None, Result, Ok, Err}
use Rattle.behaviour.specs.Behaviour.{Trapped, Wild as WildRun}
use Rattle.behaviour.specs.Run.{Run}
use Rattle.behaviour.specs.Steps.{Move as Turn, Goes, Stops, Fails, run_by}
use Rattle.rtl_tree.specs.declared.cells.Cell.{Cell}
use Rattle.rtl_tree.specs.declared.cells.Cell.TheVariants.{Pc, Input}
use Rattle.rtl_tree.specs.declared.cells.Lab.{Lab}
use Rattle.rtl_tree.specs.Moves.{Move}
use Rattle.rtl_value.specs.declared.state.Trap.{Trap}
use Rattle.rtl_value.specs.declared.state.Trap.TheVariants.{Divide, Shift, Address, Align, LostFlag, Place}
use Rattle.rtl_value.specs.declared.state.LabelAt.{LabelAt}
use Rattle.rtl_value.specs.Values.{place_of_label, number_or_zero}
use Rattle.rtl_effect.specs.Views.{View, Stop, Traps, Wild, Gone}
use Rattle.rtl_effect.specs.Effects.{Done, effect, next_in}

abbrev pub trap_number : Trap → ℕ
trap_number Divide = 1
trap_number Shift = 2
trap_number Address = 3
trap_number Align = 4
trap_number LostFlag = 5
trap_number Place = 6

-- a program of a machine: the bits of a word, the bytes of memory, where the data stand and which they are, the addresses of objects,
-- the places of labels, and the transfer of each line
pub record Code : Type 0 where
  pub word : ℕ
  pub size : ℕ
  pub base : ℕ
  pub bytes : List ℕ
  pub symbols : List ℕ
  pub labels : List LabelAt
  pub transfers : List (List Move)

-- the machine between two instructions: the number of the next one, what it sees, and what was printed
pub record MachineState : Type 0 where
  pub place : ℕ
  pub view : View
  pub printed : List ℕ

-- at the start registers hold 0
abbrev pub start_cell : ℕ → List ℕ → Cell → Option ℕ
start_cell w input Input = Some (next_in w input)
start_cell w input _ = Some 0

-- the place of a label as a word; 0 for one that is nowhere
abbrev pub label_in : List LabelAt → Lab → ℕ
label_in labels l = number_or_zero (place_of_label labels l)

-- memory holds the data, and 0 elsewhere
abbrev pub start_byte : Code → ℕ → ℕ
start_byte p a = if nat_le p.base a then slice_index p.bytes (a - p.base) else 0

-- no flag can be tested before it is set, and a jump to a word goes to the place of that number
abbrev pub start_view : Code → List ℕ → View
start_view p input = record {
  cells = start_cell p.word input;
  flags = λ n. Gone;
  size = p.size;
  bytes = λ a. Some (start_byte p a);
  reach = λ a. true;
  symbols = λ n. slice_index p.symbols n;
  labels = λ l. Some (label_in p.labels l);
  targets = λ l. Some (label_in p.labels l);
  places = λ n. Some n;
  input = input;
}

-- execution begins at the first instruction, and nothing is printed yet
abbrev pub start : Code → List ℕ → MachineState
start p input = record { place = 0; view = start_view p input; printed = [] }

-- the program counter reads as the number of the next instruction
abbrev pub cell_with_next : ℕ → (Cell → Option ℕ) → Cell → Option ℕ
cell_with_next next cells Pc = Some next
cell_with_next next cells c = cells c

abbrev pub view_at : ℕ → View → View
view_at place v = record v { cells = cell_with_next (suc place) v.cells }

-- the byte that goes to the output, if one does
abbrev pub byte_out : Option ℕ → List ℕ
byte_out None = []
byte_out (Some byte) = byte ∷ []

abbrev pub moved : Option ℕ → View → List ℕ → Turn MachineState
moved (Some place) v printed = Goes (record { place = place; view = v; printed = printed })
moved None v printed = Fails printed WildRun

abbrev pub halted : Option ℕ → Option ℕ → View → List ℕ → Turn MachineState
halted (Some status) place v printed = Stops printed status
halted None place v printed = moved place v printed

-- the byte that is printed comes before the end; a trap keeps the place of its instruction
abbrev pub after_effect : MachineState → Result Done Stop → Turn MachineState
after_effect s (Ok done) = halted done.halt done.place done.view (s.printed ++ byte_out done.output)
after_effect s (Err (Traps trap)) = Fails s.printed (Trapped (trap_number trap) s.place)
after_effect s (Err Wild) = Fails s.printed WildRun

-- the whole transfer of one instruction is made; a place without an instruction traps there
abbrev pub turn_of : ℕ → Option (List Move) → MachineState → Turn MachineState
turn_of w (Some ms) s = after_effect s (effect w ms (view_at s.place s.view))
turn_of w None s = Fails s.printed (Trapped (trap_number Place) s.place)

abbrev pub turn : Code → MachineState → Turn MachineState
turn p s = turn_of p.word (slice_get p.transfers s.place) s

-- what is seen of the program on this input within so many turns
abbrev pub machine_run : Code → List ℕ → Run
machine_run p input n = run_by (turn p) (λ s. s.printed) n (start p input)
