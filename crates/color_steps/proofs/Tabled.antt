-- An exact table of what is live is one by which the code may be coloured.
use Rattle.std.proofs.Common.{◌≡◌, ℕ, ◌<◌, List, length, Some, refl, inl, inr}
use Rattle.std.specs.Prelude.{slice_get}
use Rattle.temp_machine.specs.Routines.{Exit, Falls, Jumps, Branches, Calls, Returns, BasicBlock, Routine, Image, Target}
use Rattle.color_code.specs.Colors.{Seats}
use Rattle.color_table.specs.Tables.{Table, IsExact, behind, IsCarried}
use Rattle.color_table.proofs.Blocks.{bodies_are_places, jumps_are_places}
use Rattle.color_table.proofs.Carrying.{exact_is_carried}
use Rattle.color_steps.specs.Laws.{IsColoredProgram}
use Rattle.color_steps.proofs.Tables.{IsEndPlace, IsTabled, IsTabledImage}

module _ (t : Target) (old new : Image) (colors : ℕ → List ℕ) (seats : ℕ → Seats) (live : ℕ → Table) (is : IsColoredProgram t old new colors seats live) (f : ℕ) (stands : 0 < length (old.routines f).blocks) where
  abbrev code : Routine
  code = old.routines f

  exact : IsExact t code (live f)
  exact = is.exact f stands

  carried : IsCarried t code (seats f) (live f)
  carried = exact_is_carried t code (colors f) (seats f) (live f) (is.colorable f stands) exact

  ends : (k : ℕ) (b : BasicBlock) → slice_get code.blocks k ≡ Some b → (e : Exit) → b.exit ≡ e → IsEndPlace t code (seats f) (live f) k b e
  ends k b has Falls q = carried.falls k b has q
  ends k b has (Jumps ms) q = record {
    later = behind t.word code (live f) k;
    place = jumps_are_places t code (colors f) (seats f) (live f) k b ms (is.colorable f stands) exact (is.calm f stands) has (inl q);
    onward = carried.onward k;
  }
  ends k b has (Branches ms) q = record {
    later = behind t.word code (live f) k;
    place = jumps_are_places t code (colors f) (seats f) (live f) k b ms (is.colorable f stands) exact (is.calm f stands) has (inr q);
    onward = carried.onward k;
  }
  ends k b has (Calls ms) q = carried.calls k b ms has q
  ends k b has Returns q = tt

  tabled : IsTabled t code (seats f) (live f)
  tabled = record {
    general = is.general f;
    bodies = λ k b has. bodies_are_places t code (colors f) (seats f) (live f) k b (is.colorable f stands) exact (is.calm f stands) has;
    ends = λ k b has. ends k b has b.exit refl;
    living = λ k i on. carried.living (record { block = k; at = 0 }) i on;
  }

pub tabled_image : (t : Target) (old new : Image) (colors : ℕ → List ℕ) (seats : ℕ → Seats) (live : ℕ → Table) → IsColoredProgram t old new colors seats live → IsTabledImage t old new seats live
tabled_image t old new colors seats live is = record {
  none_kept = is.none_kept;
  target = is.target;
  image = is.image;
  colored = is.colored;
  tabled = λ f stands. tabled t old new colors seats live is f stands;
}
