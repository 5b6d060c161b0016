-- A unit of naive codes is such as each pass may ask.
use Rattle.std.specs.Prelude.{◌≡◌, ℕ, ◌+◌, ◌<◌, ◌≤◌, List, [], ◌∷◌, slice_get, Some, None, All}
use Rattle.md_rows.specs.declared.description.RawDescription.{RawDescription}
use Rattle.md_shapes.specs.Shapes.{Frame as Fixed}
use Rattle.md_covers.specs.Covers.{frame_in}
use Rattle.md_check.specs.Checking.{IsChecked}
use Rattle.c_tree.specs.declared.typed.Function.{Function}
use Rattle.c_tree.specs.declared.typed.Typed.{Typed}
use Rattle.temp_machine.specs.Routines.{Image}
use Rattle.temp_machine.specs.Units.{IsImage}
use Rattle.temp_code.specs.declared.code.Code.{Code}
use Rattle.temp_code.specs.Routines.{routine_of}
use Rattle.temp_laws.specs.Targets.{target_of}
use Rattle.naive_code.specs.Functions.{function_labels}
use Rattle.naive_run.specs.Law.{IsSoundTarget}
use Rattle.naive_builder.specs.Appending.{opened}
use Rattle.naive_forms.specs.Codes.{IsNaive, IsProper, ops_in}

abbrev pub IsAmong : (first count : ℕ) → ℕ → Type 0
IsAmong first count l = (first ≤ l) × (l < first + count)

-- each function of the source, with its number g, has its naive code, whose first block has the label `first g`; labels go on from one function to
-- the next; there are no other routines
pub record AreCodes (kept : List ℕ) (d : RawDescription) (m : Fixed) (t : Typed) (first : ℕ → ℕ) (u : Image) : Type 0 where
  pub main : (f : Function) × (slice_get t.functions u.main ≡ Some f)
  pub code : (g : ℕ) (f : Function) → slice_get t.functions g ≡ Some f → (c : Code) × IsNaive kept d m t f (first g) c × (u.routines g ≡ routine_of c)
  pub proper : (g : ℕ) (f : Function) → slice_get t.functions g ≡ Some f → IsProper kept d m t f (first g)
  pub none : (g : ℕ) → slice_get t.functions g ≡ None → (u.routines g).blocks ≡ []
  pub own : (g : ℕ) (f : Function) → slice_get t.functions g ≡ Some f
      → All (IsAmong (first g) (function_labels kept d.word t f)) (first g ∷ opened (ops_in kept d m t f (first g)))
  pub apart : (g h : ℕ) (f : Function) → g < h → slice_get t.functions g ≡ Some f → first g + function_labels kept d.word t f ≤ first h

abbrev pub UnitsAreImages : Type 0
UnitsAreImages =
    (w : ℕ) (d : RawDescription) (m : Fixed) (kept : List ℕ) (t : Typed) (first : ℕ → ℕ) (u : Image) → IsChecked w d → frame_in d ≡ Some m
    → IsSoundTarget (target_of d m kept) u → AreCodes kept d m t first u → IsImage (target_of d m kept) u
