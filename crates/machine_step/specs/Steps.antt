-- What a step over a source and a sink comes to.
use Rattle.std.specs.Prelude.{ℕ, ◌≡◌, ◌<◌, ◌≤◌, ◌^◌, ◌++◌, List, [], true, false, Bool, length, slice_get, Option, Some, None, Result, Ok, Err, All}
use Rattle.std.specs.Io.KnownBytes.{Consumes, IsAtEnd}
use Rattle.vp_io.specs.Counts.{Rose}
use Rattle.rtl_tree.specs.Moves.{Move}
use Rattle.rtl_value.specs.declared.state.Trap.{Trap}
use Rattle.rtl_value.specs.declared.state.Trap.TheVariants.{Place}
use Rattle.rtl_value.specs.declared.state.State.{State}
use Rattle.machine_run.specs.Machine.{trap_number}
use Rattle.machine_devices.specs.Devices.{Prints}
use Rattle.machine_turn.specs.Held.{IsHeld, IsMadeMove, state_of}
use Rattle.machine_turn.specs.Turn.{tested_by}
use Rattle.machine_effect.specs.Turns.{Turned, On, Ends, TrapsBy, at_place, turn_on, takes_at, bytes_taken}
use Rattle.machine_step.specs.declared.running.Running.{Running}
use Rattle.machine_step.specs.declared.running.Stop.{Stop}
use Rattle.machine_step.specs.declared.running.Stop.TheVariants.{Ended, Trapped, Spent, ReadFault, WriteFault}

-- all that is held is a word, and fewer than 4,096 bytes wait
pub record IsReady (w : ℕ) (m : Running) : Type 0 where
  pub held : IsHeld w m.held
  pub room : length m.waiting < 4096

-- transfers that a machine makes, and whose places are words
pub record IsCode (w : ℕ) (code : List (List Move)) : Type 0 where
  pub made : All (λ ms. All (IsMadeMove w) ms) code
  pub short : length code < 2 ^ w

abbrev pub out_of : Turned → List ℕ
out_of (On s place out) = out
out_of (Ends out status) = out
out_of (TrapsBy trap) = []

abbrev pub GoesTo : Turned → Running → Type 0
GoesTo (On s place out) n = (s ≡ state_of n.held) × (place ≡ n.place)
GoesTo _ n = ⊥

abbrev pub EndsAs : Turned → ℕ → Type 0
EndsAs (Ends out status) n = status ≡ n
EndsAs _ n = ⊥

-- some last bytes are lost
abbrev pub PrintsPart : Option (List ℕ) → List ℕ → Option (List ℕ) → List ℕ → Type 0
PrintsPart old waited new out = (lost : List ℕ) × Prints old waited new lost out

-- what is answered for a turn that doesn't trap, and what is printed by then; a machine that stops has nothing left to write, but where
-- the write fails, which leaves out some last bytes
abbrev pub Answers : Turned → List ℕ → Running → Option (List ℕ) → Option (List ℕ) → Option Stop → Type 0
Answers t waited n written written' None = GoesTo t n × Prints written waited written' n.waiting (out_of t) × (n.stopped ≡ None)
Answers t waited n written written' (Some (Ended status)) = EndsAs t status × Prints written waited written' [] (out_of t) × (n.stopped ≡ Some (Ended status))
Answers t waited n written written' (Some WriteFault) = PrintsPart written waited written' (out_of t) × (n.stopped ≡ Some WriteFault)
Answers t waited n written written' (Some _) = ⊥

-- the machine stops as it was to stop, with all written, or by the write
pub data HaltIs (written written' : Option (List ℕ)) (waited : List ℕ) (writes writes' : ℕ) (stop result : Stop) : Type 0 where
  as_meant : result ≡ stop → Prints written waited written' [] [] → writes ≤ writes' → HaltIs written written' waited writes writes' stop result
  by_write : (lost : List ℕ) → result ≡ WriteFault → Prints written waited written' lost [] → Rose writes writes' → HaltIs written written' waited writes writes' stop result

-- all but what waits and why the machine stopped stays
pub record KeepsHeld (m n : Running) : Type 0 where
  pub held : n.held ≡ m.held
  pub place : n.place ≡ m.place
  pub reader : n.reader ≡ m.reader

abbrev pub CausesOf : ℕ → ℕ → ℕ → ℕ → Option Stop → Type 0
CausesOf reads reads' writes writes' (Some ReadFault) = Rose reads reads'
CausesOf reads reads' writes writes' (Some WriteFault) = Rose writes writes'
CausesOf reads reads' writes writes' _ = Unit {0}

-- counts of faults never fall, and that of a fault has risen
pub record HasCauses (reads reads' writes writes' : ℕ) (result : Option Stop) : Type 0 where
  pub reads_later : reads ≤ reads'
  pub writes_later : writes ≤ writes'
  pub cause : CausesOf reads reads' writes writes' result

-- where a byte was asked for and none given, the end was seen
abbrev pub SawEnd : Bool → Option ℕ → Bool → Type 0
SawEnd true None ended = ended ≡ true
SawEnd _ _ ended = Unit {0}

-- the mark of the seen end stays, and nothing is taken then; it is set anew where a read met the end, at which nothing was left
abbrev pub MarkMoves : Bool → Bool → ℕ → ℕ → Option (List ℕ) → Option (List ℕ) → List ℕ → Type 0
MarkMoves true now ends ends' left left' taken = (now ≡ true) × (taken ≡ []) × (ends' ≡ ends) × (left' ≡ left)
MarkMoves false true ends ends' left left' taken = Rose ends ends' × IsAtEnd left'
MarkMoves false false ends ends' left left' taken = ends' ≡ ends

-- the bytes that a line takes of the source
pub record Takes (takes : Bool) (left left' : Option (List ℕ)) (before now : Bool) (ends ends' : ℕ) (given : Option ℕ) : Type 0 where
  pub consumes : Consumes left left' (bytes_taken takes given)
  pub saw : SawEnd takes given now
  pub mark : MarkMoves before now ends ends' left left' (bytes_taken takes given)

-- the first trap of the instruction that is next
abbrev pub tested_on : ℕ → Option (List Move) → ℕ → State → Result (Unit {0}) Trap
tested_on w (Some ms) place s = tested_by w ms (at_place place s)
tested_on w None place s = Err Place

-- the turn of the instruction that is next, given the byte that it takes
pub record ByTurn (w : ℕ) (line : Option (List Move)) (m n : Running) (left left' written written' : Option (List ℕ)) (ends ends' : ℕ) (result : Option Stop) : Type 0 where
  pub given : Option ℕ
  pub takes : Takes (takes_at line) left left' m.reader.ended n.reader.ended ends ends' given
  pub answers : Answers (turn_on w line given m.place (state_of m.held)) m.waiting n written written' result

-- a trap, by which no byte is taken
pub record ByTrap (w : ℕ) (line : Option (List Move)) (m n : Running) (left left' written written' : Option (List ℕ)) (ends ends' writes writes' : ℕ) (result : Option Stop) : Type 0 where
  pub trap : Trap
  pub traps : tested_on w line m.place (state_of m.held) ≡ Err trap
  pub stop : Stop
  pub halts : HaltIs written written' m.waiting writes writes' (Trapped (trap_number trap) m.place) stop
  pub result_is : result ≡ Some stop
  pub stopped : n.stopped ≡ Some stop
  pub consumes : Consumes left left' []
  pub mark : MarkMoves m.reader.ended n.reader.ended ends ends' left left' []

-- a fault of the read, before which all was written, or of the write before it
abbrev pub FaultIs : List ℕ → Option (List ℕ) → Option (List ℕ) → Stop → Type 0
FaultIs waited written written' ReadFault = Prints written waited written' [] []
FaultIs waited written written' WriteFault = PrintsPart written waited written' []
FaultIs waited written written' _ = ⊥

pub record ByFault (line : Option (List Move)) (m n : Running) (left left' written written' : Option (List ℕ)) (ends ends' : ℕ) (result : Option Stop) : Type 0 where
  pub takes : takes_at line ≡ true
  pub stop : Stop
  pub fault : FaultIs m.waiting written written' stop
  pub result_is : result ≡ Some stop
  pub stopped : n.stopped ≡ Some stop
  pub consumes : Consumes left left' []
  pub mark : MarkMoves m.reader.ended n.reader.ended ends ends' left left' []

-- what a step of a machine that hasn't stopped comes to
pub data StepIs (w : ℕ) (line : Option (List Move)) (m n : Running) (left left' written written' : Option (List ℕ)) (ends ends' writes writes' : ℕ) (result : Option Stop) : Type 0 where
  by_turn : ByTurn w line m n left left' written written' ends ends' result → StepIs w line m n left left' written written' ends ends' writes writes' result
  by_trap : ByTrap w line m n left left' written written' ends ends' writes writes' result → StepIs w line m n left left' written written' ends ends' writes writes' result
  by_fault : ByFault line m n left left' written written' ends ends' result → StepIs w line m n left left' written written' ends ends' writes writes' result

-- an instruction that takes no byte is made, or traps
pub data AloneIs (w : ℕ) (line : Option (List Move)) (m n : Running) (written written' : Option (List ℕ)) (writes writes' : ℕ) (result : Option Stop) : Type 0 where
  made_alone : Answers (turn_on w line None m.place (state_of m.held)) m.waiting n written written' result → n.reader ≡ m.reader
      → AloneIs w line m n written written' writes writes' result
  trapped_alone : (trap : Trap) (stop : Stop) → tested_on w line m.place (state_of m.held) ≡ Err trap
      → HaltIs written written' m.waiting writes writes' (Trapped (trap_number trap) m.place) stop → result ≡ Some stop → n.stopped ≡ Some stop → n.reader ≡ m.reader
      → AloneIs w line m n written written' writes writes' result

-- what was held, the place and why the machine stopped stay
pub record KeepsRunning (m n : Running) : Type 0 where
  pub held : n.held ≡ m.held
  pub place : n.place ≡ m.place
  pub stopped : n.stopped ≡ m.stopped

-- the fault of a read or of the write before it
abbrev pub fault_of : Result (Option ℕ) Stop → Option Stop
fault_of (Ok given) = None
fault_of (Err stop) = Some stop

-- the byte for an instruction that takes one, or the fault
abbrev pub TakeIs : Running → Running → Option (List ℕ) → Option (List ℕ) → Option (List ℕ) → Option (List ℕ) → ℕ → ℕ → Result (Option ℕ) Stop → Type 0
TakeIs m n left left' written written' ends ends' (Ok given) =
    Takes true left left' m.reader.ended n.reader.ended ends ends' given × Prints written m.waiting written' n.waiting []
TakeIs m n left left' written written' ends ends' (Err stop) =
    FaultIs m.waiting written written' stop × Consumes left left' [] × MarkMoves m.reader.ended n.reader.ended ends ends' left left' []
