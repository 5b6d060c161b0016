-- The search is exact.
use Rattle.std.proofs.Common.{◌≡◌, ℕ, List, length, Option, Some, None, sym}
use Rattle.std.specs.Prelude.{MatchOption}
use Rattle.rtl_tree.specs.Moves.{Move}
use Rattle.md_rows.specs.declared.row.Hole.{Hole}
use Rattle.md_rows.specs.declared.instance.Bound.{Bound}
use Rattle.md_match.specs.Slots.{Slots, fit_of, no_slots}
use Rattle.md_match.specs.Searches.{Marks, no_marks, Search, is_idle, match_all}
use Rattle.md_match.specs.Does.{Does, IsRow, IsDone}
use Rattle.md_match.proofs.Done.{found_done}
use Rattle.md_match.proofs.Undone.{none_done}

pub exact : (w g : ℕ) (holes : List Hole) (t : Search) (es : List Move) (o : Option Slots)
    → t.fit ≡ fit_of w g holes → t.count ≡ length holes → IsRow holes t.row → o ≡ match_all t es no_marks no_slots
    → MatchOption o ((b : List Bound) (marks : Marks) → ¬ Does w g holes (is_idle t.flags t.barred) t.row es b marks)
    (IsDone w g holes (is_idle t.flags t.barred) t.row es)
exact w g holes t es (Some u) fit count row e = found_done w g holes t es u fit count row (sym e)
exact w g holes t es None fit count row e = none_done w g holes t es fit count row (sym e)
