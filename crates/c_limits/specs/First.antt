-- The first so far, by one reason after another.
use Rattle.std.specs.Prelude.{Option, Some, None, List, [], ◌∷◌, if◌then◌else◌}
use Rattle.vp_io.specs.declared.answers.Reason.{Reason}
use Rattle.c_limits.specs.Limits.{comes_before}

abbrev pub note : Option Reason → Reason → Option Reason
note None r = Some r
note (Some x) r = Some (if comes_before r x then r else x)

abbrev pub first_of : Option Reason → List Reason → Option Reason
first_of first [] = first
first_of first (r ∷ rs) = first_of (note first r) rs
