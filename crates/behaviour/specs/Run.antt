-- Runs of programs, and when a target does what its source does.
use Rattle.std.specs.Prelude.{◌≡◌, ◌≢◌, ℕ, ◌≤◌, ◌<◌, List}
use Rattle.std.specs.List.{All}
use Rattle.behaviour.specs.Behaviour.{Wrong, Behaviour, Running, Ended, Failed, output, IsPrefix, IsExtendedBy}

-- what is seen at each bound
abbrev pub Run : Type 0
Run = ℕ → Behaviour

-- the same is seen at each bound
abbrev pub constant : Behaviour → Run
constant seen bound = seen

pub record IsRun (r : Run) : Type 0 where
  pub extends : (n m : ℕ) → n ≤ m → IsExtendedBy (r n) (r m)

pub record NeverFails (r : Run) : Type 0 where
  pub at : (n : ℕ) (out : List ℕ) (why : Wrong) → r n ≢ Failed out why

-- the source allows this behaviour of its target
pub record Allows (source : Run) (seen : Behaviour) : Type 0 where
  pub no_failure : (out : List ℕ) (why : Wrong) → seen ≢ Failed out why
  pub no_other_output : (n : ℕ) × IsPrefix (output seen) (output (source n))
  pub no_other_end : (out : List ℕ) (status : ℕ) → seen ≡ Ended out status → (n : ℕ) × (source n ≡ Ended out status)

-- where the source ends, the target ends alike
abbrev pub EndsAlike : Run → Run → Type 0
EndsAlike source target = (n : ℕ) (out : List ℕ) (status : ℕ) → source n ≡ Ended out status → (m : ℕ) × (target m ≡ Ended out status)

-- the target never fails, prints nothing else, and ends only as the source does
abbrev pub DoesNothingElse : Run → Run → Type 0
DoesNothingElse source target = (m : ℕ) → Allows source (target m)

-- all that the source prints, the target prints
abbrev pub PrintsAll : Run → Run → Type 0
PrintsAll source target = (n : ℕ) → (m : ℕ) × IsPrefix (output (source n)) (output (target m))

-- the target does what its source does; of use for sources that never fail
pub record Same (source target : Run) : Type 0 where
  pub ends : EndsAlike source target
  pub nothing_else : DoesNothingElse source target
  pub prints : PrintsAll source target

-- what a program reads is a list of bytes
abbrev pub AreBytes : List ℕ → Type 0
AreBytes input = All (λ byte. byte < 256) input

-- on each input of bytes on which the old program never fails, the new one doesn't either, and does the same
pub record Keep (new old : List ℕ → Run) : Type 0 where
  pub never_fails : (input : List ℕ) → AreBytes input → NeverFails (old input) → NeverFails (new input)
  pub same : (input : List ℕ) → AreBytes input → NeverFails (old input) → Same (old input) (new input)

-- both runs come at least as far as the bound with the same output, or both end alike
pub data Reach (bound : ℕ) (a b : Run) : Type 0 where
  both_run : (n m : ℕ) (out : List ℕ) → bound ≤ n → bound ≤ m → a n ≡ Running out → b m ≡ Running out → Reach bound a b
  both_end : (n m : ℕ) (out : List ℕ) (status : ℕ) → a n ≡ Ended out status → b m ≡ Ended out status → Reach bound a b

-- what was seen at the bound, the target shows too: at the bound or later, or by ending alike; of a failure nothing is asked
abbrev pub IsFollowedBy : ℕ → Behaviour → Run → Type 0
IsFollowedBy bound (Running out) target = (m : ℕ) × (bound ≤ m) × (target m ≡ Running out)
IsFollowedBy bound (Ended out status) target = (m : ℕ) × (target m ≡ Ended out status)
IsFollowedBy bound (Failed out why) target = Unit {0}
