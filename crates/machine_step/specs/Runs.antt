-- What steps come to is what the definition's run comes to, on the input that was taken and all that may follow.
use Rattle.std.specs.Prelude.{ℕ, ◌+◌, ◌≡◌, ◌≤◌, ◌++◌, List, [], map, slice_get, slice_index, true, Option, Some, None, All}
use Rattle.std.specs.Io.KnownBytes.{Consumes}
use Rattle.behaviour.specs.Behaviour.{Ended as EndedBy, Failed, Trapped as TrappedBy, output}
use Rattle.behaviour.specs.Steps.{run_by}
use Rattle.rtl_tree.specs.Moves.{Goal, ToCell, ToMemory, Move}
use Rattle.rtl_tree.specs.Trees.{Tree, Number, Symbol, CodeLabel, Load, Unary, Binary}
use Rattle.rtl_value.specs.declared.state.State.{State}
use Rattle.machine_run.specs.Machine.{Code, MachineState, label_in, start, turn, machine_run}
use Rattle.machine_devices.specs.Devices.{Prints}
use Rattle.machine_turn.specs.Held.{state_of}
use Rattle.machine_effect.specs.Turns.{takes_at}
use Rattle.machine_effect.specs.Law.{IsMade}
use Rattle.machine_effect.specs.Standing.{Stands}
use Rattle.machine_step.specs.declared.running.Running.{Running}
use Rattle.machine_step.specs.declared.running.Stop.{Stop}
use Rattle.machine_step.specs.declared.running.Stop.TheVariants.{Ended, Trapped, Spent, ReadFault, WriteFault}
use Rattle.machine_step.specs.Steps.{MarkMoves}

-- a machine that has stopped answers why, and nothing changes
abbrev pub StaysStopped : Running → Running → Option Stop → Type 0
StaysStopped m n result = (stop : Stop) → m.stopped ≡ Some stop → (result ≡ Some stop) × (n ≡ m)

-- the machine has noted why it stopped; one that spent its turns goes on
abbrev pub StopIsNoted : Running → Stop → Type 0
StopIsNoted n Spent = n.stopped ≡ None
StopIsNoted n stop = n.stopped ≡ Some stop

-- a tree with the addresses of objects and the places of labels in place of their names
abbrev pub linked : Code → Tree → Tree
linked p (Symbol n) = Number (slice_index p.symbols n)
linked p (CodeLabel l) = Number (label_in p.labels l)
linked p (Load d a) = Load d (linked p a)
linked p (Unary o a) = Unary o (linked p a)
linked p (Binary o a b) = Binary o (linked p a) (linked p b)
linked p t = t

abbrev pub linked_goal : Code → Goal → Goal
linked_goal p (ToCell c) = ToCell c
linked_goal p (ToMemory d a) = ToMemory d (linked p a)

abbrev pub linked_move : Code → Move → Move
linked_move p m = record { to = linked_goal p m.to; value = linked p m.value }

abbrev pub linked_moves : Code → List Move → List Move
linked_moves p ms = map (linked_move p) ms

-- the code is that of the program, and the machine makes each transfer of it
pub record IsCodeOf (w : ℕ) (p : Code) (code : List (List Move)) : Type 0 where
  pub word : p.word ≡ w
  pub made : All (IsMade w) p.transfers
  pub code_is : code ≡ map (linked_moves p) p.transfers

abbrev pub named : Code → State → State
named p s = record s { symbols = p.symbols; labels = p.labels }

-- the run has come, in so many turns, to where the machine stands, with this input before it
pub record Comes (w : ℕ) (p : Code) (input : List ℕ) (turns : ℕ) (m : Running) (more out : List ℕ) : Type 0 where
  pub state : MachineState
  pub leads : (j : ℕ) → run_by (turn p) (λ s. s.printed) (turns + j) (start p input) ≡ run_by (turn p) (λ s. s.printed) j state
  pub stands : Stands w m.place (named p (state_of m.held)) more state
  pub printed_is : state.printed ≡ out

-- where the end of the input was seen, nothing follows
abbrev pub MayFollow : Running → List ℕ → Type 0
MayFollow m more = m.reader.ended ≡ true → more ≡ []

-- on the bytes that were taken, and all that may follow them, the run has come to where the machine stands
abbrev pub HasRun : ℕ → Code → Running → List ℕ → List ℕ → ℕ → Type 0
HasRun w p m taken out turns = (more : List ℕ) → MayFollow m more → Comes w p (taken ++ more) turns m more out

-- the run, with this input, has come in so many turns to an instruction that takes a byte
pub record ReachesInput (p : Code) (input : List ℕ) (turns : ℕ) (out : List ℕ) : Type 0 where
  pub state : MachineState
  pub leads : (j : ℕ) → run_by (turn p) (λ s. s.printed) (turns + j) (start p input) ≡ run_by (turn p) (λ s. s.printed) j state
  pub printed_is : state.printed ≡ out
  pub takes : takes_at (slice_get p.transfers state.place) ≡ true

-- in so many turns the run has printed `out`, and stands as the machine's answer says, on the bytes that were taken and all that may follow;
-- `rest` is what isn't written of it
abbrev pub RunIs : ℕ → Code → Running → List ℕ → List ℕ → ℕ → List ℕ → Option Stop → Type 0
RunIs w p n taken out turns rest None = (rest ≡ n.waiting) × HasRun w p n taken out turns
RunIs w p n taken out turns rest (Some Spent) = (rest ≡ []) × (n.waiting ≡ []) × HasRun w p n taken out turns
RunIs w p n taken out turns rest (Some (Ended status)) =
    (rest ≡ []) × ((more : List ℕ) → MayFollow n more → machine_run p (taken ++ more) turns ≡ EndedBy out status)
RunIs w p n taken out turns rest (Some (Trapped kind place)) =
    (rest ≡ []) × ((more : List ℕ) → MayFollow n more → machine_run p (taken ++ more) turns ≡ Failed out (TrappedBy kind place))
RunIs w p n taken out turns rest (Some ReadFault) = (rest ≡ []) × ((more : List ℕ) → MayFollow n more → ReachesInput p (taken ++ more) turns out)
RunIs w p n taken out turns rest (Some WriteFault) = (more : List ℕ) → MayFollow n more → output (machine_run p (taken ++ more) turns) ≡ out

-- a machine that goes on has made all turns
abbrev pub MadeAll : Option Stop → ℕ → ℕ → Type 0
MadeAll None made steps = made ≡ steps
MadeAll (Some Spent) made steps = made ≡ steps
MadeAll (Some _) made steps = Unit {0}

-- what is known of a call that makes up to so many turns, of a machine that had run for some turns already: the bytes that it took and
-- printed, and how the run then stands
pub record Ran (w : ℕ) (p : Code) (m n : Running) (left left' written written' : Option (List ℕ)) (ends ends' : ℕ) (taken out : List ℕ) (turns steps : ℕ)
    (result : Option Stop) : Type 0 where
  pub bytes : List ℕ
  pub printed : List ℕ
  pub rest : List ℕ
  pub made : ℕ
  pub within : made ≤ steps
  pub all : MadeAll result made steps
  pub consumes : Consumes left left' bytes
  pub prints : Prints written m.waiting written' rest printed
  pub mark : MarkMoves m.reader.ended n.reader.ended ends ends' left left' bytes
  pub run : RunIs w p n (taken ++ bytes) (out ++ printed) (turns + made) rest result

-- for each program whose code this is, and all that it had done before
abbrev pub AllRan : ℕ → List (List Move) → Running → Running → Option (List ℕ) → Option (List ℕ) → Option (List ℕ) → Option (List ℕ) → ℕ → ℕ → ℕ → Option Stop → Type 0
AllRan w code m n left left' written written' ends ends' steps result =
    (p : Code) → IsCodeOf w p code → (taken out : List ℕ) (turns : ℕ) → HasRun w p m taken out turns
    → Ran w p m n left left' written written' ends ends' taken out turns steps result
