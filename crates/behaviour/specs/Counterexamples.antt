-- Pairs of runs that are not the same, and what the parts of `Same` and the bytes of `Keep` are for.
use Rattle.std.specs.Prelude.{◌≢◌, ℕ, ◌%◌, List, [], ◌∷◌, map}
use Rattle.behaviour.specs.Behaviour.{Wrong, Running, Ended, Failed}
use Rattle.behaviour.specs.Run.{Run, NeverFails, EndsAlike, DoesNothingElse, PrintsAll, Same, Keep, constant}

-- neither of a run that ends and one that goes on is the same as the other
abbrev pub EndingIsNotRunning : Type 0
EndingIsNotRunning =
    (out : List ℕ) (status : ℕ)
    → (¬ Same (constant (Ended out status)) (constant (Running out)))
    × (¬ Same (constant (Running out)) (constant (Ended out status)))

abbrev pub StatusesDiffer : Type 0
StatusesDiffer =
    (out : List ℕ) (status status' : ℕ)
    → status ≢ status' → ¬ Same (constant (Ended out status)) (constant (Ended out status'))

-- a target may print neither less than its source nor more
abbrev pub OutputsDiffer : Type 0
OutputsDiffer =
    (byte : ℕ)
    → (¬ Same (constant (Running (byte ∷ []))) (constant (Running [])))
    × (¬ Same (constant (Running [])) (constant (Running (byte ∷ []))))

-- no run has a target that fails
abbrev pub FailedIsNoTarget : Type 0
FailedIsNoTarget = (source : Run) (out : List ℕ) (why : Wrong) → ¬ Same source (constant (Failed out why))

-- a target that goes on for ever where its source ends keeps the other two parts
abbrev pub EndsAlikeIsNeeded : Type 0
EndsAlikeIsNeeded =
    (out : List ℕ) (status : ℕ)
    → DoesNothingElse (constant (Ended out status)) (constant (Running out)) × PrintsAll (constant (Ended out status)) (constant (Running out))
    × (¬ EndsAlike (constant (Ended out status)) (constant (Running out)))

-- a target that prints more keeps the other two parts, and so does one that fails
abbrev pub NothingElseIsNeeded : Type 0
NothingElseIsNeeded =
    (byte : ℕ) (why : Wrong)
    → EndsAlike (constant (Running [])) (constant (Running (byte ∷ []))) × PrintsAll (constant (Running [])) (constant (Running (byte ∷ [])))
    × (¬ DoesNothingElse (constant (Running [])) (constant (Running (byte ∷ []))))
    × EndsAlike (constant (Running [])) (constant (Failed [] why)) × PrintsAll (constant (Running [])) (constant (Failed [] why))
    × (¬ DoesNothingElse (constant (Running [])) (constant (Failed [] why)))

-- a target that never prints keeps the other two parts
abbrev pub PrintsAllIsNeeded : Type 0
PrintsAllIsNeeded =
    (byte : ℕ)
    → EndsAlike (constant (Running (byte ∷ []))) (constant (Running [])) × DoesNothingElse (constant (Running (byte ∷ []))) (constant (Running []))
    × (¬ PrintsAll (constant (Running (byte ∷ []))) (constant (Running [])))

-- prints its input
abbrev pub echo : List ℕ → Run
echo input = constant (Running input)

-- prints its input after each number was held in a byte
abbrev pub echo_bytes : List ℕ → Run
echo_bytes input = constant (Running (map (λ n. n % 256) input))

-- the one keeps the other, though on a list with a number that is no byte they are not the same
abbrev pub KeepIsOfBytes : Type 0
KeepIsOfBytes = Keep echo_bytes echo × NeverFails (echo (256 ∷ [])) × (¬ Same (echo (256 ∷ [])) (echo_bytes (256 ∷ [])))
