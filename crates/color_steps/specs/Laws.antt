-- Laws of coloured code as a whole.
use Rattle.std.specs.Prelude.{◌≡◌, ℕ, ◌<◌, List, [], length}
use Rattle.temp_machine.specs.Routines.{Image, Target}
use Rattle.temp_machine.specs.Keeps.{Keeps}
use Rattle.temp_machine.specs.Units.{IsTarget, IsImage}
use Rattle.color_code.specs.Colors.{Seats}
use Rattle.color_transfer.specs.Code.{IsColoredImage}
use Rattle.color_holding.specs.Places.{AreGeneral}
use Rattle.color_table.specs.Tables.{Table, IsExact, IsColorable, AreCalm}

-- an image, and what it is when the temporaries of each routine are in general registers and homes
pub record IsColoredProgram (t : Target) (old new : Image) (colors : ℕ → List ℕ) (seats : ℕ → Seats) (live : ℕ → Table) : Type 0 where
  pub none_kept : t.kept ≡ []
  pub target : IsTarget t
  pub image : IsImage t old
  pub colored : IsColoredImage t seats old new
  pub general : (f : ℕ) → AreGeneral t (seats f)
  pub colorable : (f : ℕ) → 0 < length (old.routines f).blocks → IsColorable t (old.routines f) (colors f) (seats f)
  pub exact : (f : ℕ) → 0 < length (old.routines f).blocks → IsExact t (old.routines f) (live f)
  pub calm : (f : ℕ) → 0 < length (old.routines f).blocks → AreCalm t (old.routines f) (live f)

-- coloured code keeps what the old code does
abbrev pub KeepsColored : Type 0
KeepsColored =
    (t : Target) (old new : Image) (colors : ℕ → List ℕ) (seats : ℕ → Seats) (live : ℕ → Table) → IsColoredProgram t old new colors seats live → Keeps t new old
