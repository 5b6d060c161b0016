-- Laws of coloured code inside a body.
use Rattle.std.specs.Prelude.{◌≡◌, ℕ, Bool, List, ◌++◌, Ok}
use Rattle.rtl_tree.specs.declared.cells.Cell.{Cell}
use Rattle.rtl_tree.specs.Moves.{Move}
use Rattle.behaviour.specs.Behaviour.{Wild as WildRun}
use Rattle.behaviour.specs.Steps.{Move as Step, Stops, Fails}
use Rattle.rtl_effect.specs.Views.{View}
use Rattle.rtl_effect.specs.Effects.{Done, effect}
use Rattle.temp_machine.specs.Routines.{Routine, Target}
use Rattle.temp_machine.specs.Machine.{State, body_made}
use Rattle.color_code.specs.Colors.{Seats}
use Rattle.color_renaming.specs.Renaming.{with_registers}
use Rattle.color_spilling.specs.Passing.{Passes, IsPlaced}
use Rattle.color_transfer.specs.Colored.{AreColoredParts}
use Rattle.color_transfer.specs.Code.{AreColored}
use Rattle.color_holding.specs.Holding.{Holds, IsStill}
use Rattle.color_holding.specs.Places.{AreGeneral, IsPlace, ArePlaces}

module _ (t : Target) (r : Routine) (seats : Seats) (base : ℕ) where
  -- what loads, a transfer and stores do in coloured code, where the old transfer did this
  pub record IsKept (later : Cell → Bool) (loads : List (List Move)) (middle : List Move) (stores : List (List Move)) (v z : View) (d : Done) : Type 0 where
    pub loaded : View
    pub passes : Passes t.word loads z loaded
    pub made : Done
    pub is : effect t.word middle loaded ≡ Ok made
    pub place : made.place ≡ d.place
    pub output : made.output ≡ d.output
    pub halt : made.halt ≡ d.halt
    pub after : View
    pub stored : Passes t.word stores made.view after
    pub holds : Holds t r seats base later d.view after
    pub still : IsStill t r seats base v z d.view after

  -- The old body fails, or both stop alike, or both are made to their ends with the same output, and their views hold together there.
  pub data AreBodiesAlike (body new : List (List Move)) (later : Cell → Bool) (v z : View) (out : List ℕ) : Type 0 where
    old_fails : (printed : List ℕ) → ((go : View → List ℕ → Step State) → body_made t.word body v out go ≡ Fails printed WildRun) → AreBodiesAlike body new later v z out
    both_stop : (printed : List ℕ) (status : ℕ) → ((go : View → List ℕ → Step State) → body_made t.word body v out go ≡ Stops printed status)
        → ((tail : List (List Move)) (go : View → List ℕ → Step State) → body_made t.word (new ++ tail) z out go ≡ Stops printed status) → AreBodiesAlike body new later v z out
    both_go : (x y : View) (printed : List ℕ) → ((go : View → List ℕ → Step State) → body_made t.word body v out go ≡ go x printed)
        → ((tail : List (List Move)) (go : View → List ℕ → Step State) → body_made t.word (new ++ tail) z out go ≡ body_made t.word tail y printed go)
        → Holds t r seats base later x y → IsStill t r seats base v z x y → AreBodiesAlike body new later v z out

-- A coloured transfer keeps what the old one does: `made` is what is made for a transfer of the old code, `new` the same with registers.
abbrev pub TransferKeeps : Type 0
TransferKeeps =
    (t : Target) (r : Routine) (seats : Seats) (base : ℕ) (ms made new : List Move) (before later : Cell → Bool) (loads stores : List (List Move)) (middle : List Move)
    (parts : AreColoredParts t r seats ms loads middle stores) (v z : View) (d : Done) → new ≡ with_registers parts.register made
    → IsPlaced t r base → AreGeneral t seats → IsPlace t r seats ms made before later → Holds t r seats base before v z → effect t.word made v ≡ Ok d
    → IsKept t r seats base later loads new stores v z d

-- a coloured body keeps what the old one does
abbrev pub BodyKeeps : Type 0
BodyKeeps =
    (t : Target) (r : Routine) (seats : Seats) (base : ℕ) (body new : List (List Move)) (before later : Cell → Bool) (v z : View) (out : List ℕ)
    → IsPlaced t r base → AreGeneral t seats → AreColored t r seats body new → ArePlaces t r seats body before later → Holds t r seats base before v z
    → AreBodiesAlike t r seats base body new later v z out
