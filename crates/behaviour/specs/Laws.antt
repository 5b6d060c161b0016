-- Laws of runs.
use Rattle.std.specs.Prelude.{◌≡◌, ◌↔◌, ℕ, List}
use Rattle.behaviour.specs.Behaviour.{Behaviour, Ended}
use Rattle.behaviour.specs.Run.{Run, IsRun, NeverFails, Same, AreBytes, Keep, constant, Reach, IsFollowedBy}

abbrev pub ConstantIsRun : Type 0
ConstantIsRun = (seen : Behaviour) → IsRun (constant seen)

-- a run is the same as itself exactly where it never fails
abbrev pub SameIsReflexive : Type 0
SameIsReflexive = (r : Run) → NeverFails r ↔ Same r r

abbrev pub SameIsTransitive : Type 0
SameIsTransitive = (source middle target : Run) → Same source middle → Same middle target → Same source target

-- two runs that are the same, and both end, end alike
abbrev pub SameEndsAlike : Type 0
SameEndsAlike =
    (source target : Run) → IsRun target → Same source target → (n m : ℕ) (out out' : List ℕ) (status status' : ℕ)
    → source n ≡ Ended out status → target m ≡ Ended out' status' → (out ≡ out') × (status ≡ status')

-- runs that come as far as any bound with the same output, or end alike, are the same
abbrev pub ReachIsSame : Type 0
ReachIsSame =
    (source target : Run) → IsRun source → IsRun target
    → ((bound : ℕ) → Reach bound source target) → Same source target

-- a target that follows its source at each bound is the same
abbrev pub FollowedIsSame : Type 0
FollowedIsSame =
    (source target : Run) → IsRun source → IsRun target → NeverFails source
    → ((bound : ℕ) → IsFollowedBy bound (source bound) target) → Same source target

-- runs that end alike are the same
abbrev pub EndedIsSame : Type 0
EndedIsSame =
    (source target : Run) → IsRun source → IsRun target → (n m : ℕ) (out : List ℕ) (status : ℕ)
    → source n ≡ Ended out status → target m ≡ Ended out status → Same source target

abbrev pub KeepIsReflexive : Type 0
KeepIsReflexive = (program : List ℕ → Run) → Keep program program

abbrev pub KeepIsTransitive : Type 0
KeepIsTransitive = (old middle new : List ℕ → Run) → Keep middle old → Keep new middle → Keep new old

-- what keeps a target that is the same as a source is the same as it
abbrev pub KeepKeepsSame : Type 0
KeepKeepsSame =
    (source : Run) (old new : List ℕ → Run) (input : List ℕ)
    → AreBytes input → Same source (old input) → Keep new old → Same source (new input)
