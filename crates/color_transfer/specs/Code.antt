-- Coloured routines and images.
use Rattle.std.specs.Prelude.{◌≡◌, ℕ, false, List, [], ◌∷◌, ◌++◌}
use Rattle.std.specs.List.{AllZip}
use Rattle.rtl_tree.specs.Moves.{Move}
use Rattle.temp_machine.specs.Routines.{Exit, Falls, Jumps, Branches, Calls, Returns, BasicBlock, Routine, Image, Target}
use Rattle.temp_machine.specs.Cells.{has_temporaries}
use Rattle.color_code.specs.Colors.{Seats}
use Rattle.color_transfer.specs.Colored.{AreColoredParts, IsColored}

module _ (t : Target) (r : Routine) (seats : Seats) where
  -- a body, transfer by transfer
  pub data AreColored : List (List Move) → List (List Move) → Type 0 where
    no_transfer : AreColored [] []
    a_transfer : (ms : List Move) (new rest further : List (List Move)) → IsColored t r seats ms new → AreColored rest further → AreColored (ms ∷ rest) (new ++ further)

  -- an end, behind the loads of its operands: it sets no temporary
  pub data IsColoredExit : Exit → List (List Move) → Exit → Type 0 where
    falls : IsColoredExit Falls [] Falls
    jumps : (ms : List Move) (loads : List (List Move)) (new : List Move) → AreColoredParts t r seats ms loads new [] → IsColoredExit (Jumps ms) loads (Jumps new)
    branches : (ms : List Move) (loads : List (List Move)) (new : List Move) → AreColoredParts t r seats ms loads new [] → IsColoredExit (Branches ms) loads (Branches new)
    calls : (ms : List Move) → IsColoredExit (Calls ms) [] (Calls ms)
    returns : IsColoredExit Returns [] Returns

  pub record IsColoredBlock (old new : BasicBlock) : Type 0 where
    pub body : List (List Move)
    pub loads : List (List Move)
    pub label : new.label ≡ old.label
    pub colored : AreColored old.body body
    pub is : new.body ≡ body ++ loads
    pub exit : IsColoredExit old.exit loads new.exit

-- block by block, and no temporary is left
pub record IsColoredRoutine (t : Target) (seats : Seats) (old new : Routine) : Type 0 where
  pub params : new.params ≡ old.params
  pub frame : new.frame ≡ old.frame
  pub first_home : new.first_home ≡ old.first_home
  pub slots : new.slots ≡ old.slots
  pub homes : new.homes ≡ old.homes
  pub blocks : AllZip (IsColoredBlock t old seats) old.blocks new.blocks
  pub plain : has_temporaries new ≡ false

-- routine by routine, by where each one's temporaries are
pub record IsColoredImage (t : Target) (seats : ℕ → Seats) (old new : Image) : Type 0 where
  pub routines : (f : ℕ) → IsColoredRoutine t (seats f) (old.routines f) (new.routines f)
  pub main : new.main ≡ old.main
  pub symbols : new.symbols ≡ old.symbols
  pub bytes : new.bytes ≡ old.bytes
