-- Laws of what a greater bound shows.
use Rattle.std.specs.Prelude.{◌≡◌, ℕ, ◌≤◌, List}
use Rattle.behaviour.specs.Behaviour.{Ended, Failed, output, IsPrefix, Wrong}
use Rattle.behaviour.specs.Run.{IsRun}
use Rattle.c_tree.specs.declared.typed.Typed.{Typed}
use Rattle.c_meaning.specs.Parts.{Setting}
use Rattle.c_meaning.specs.Run.{source_run, IsClean}

abbrev pub EndsStand : Type 0
EndsStand =
    (m : Setting) (t : Typed) (input : List ℕ) (n k : ℕ) → n ≤ k → (out : List ℕ) (status : ℕ)
    → source_run m t input n ≡ Ended out status → source_run m t input k ≡ Ended out status

abbrev pub FailuresStand : Type 0
FailuresStand =
    (m : Setting) (t : Typed) (input : List ℕ) (n k : ℕ) → n ≤ k → (out : List ℕ) (why : Wrong)
    → source_run m t input n ≡ Failed out why → source_run m t input k ≡ Failed out why

abbrev pub OutputGrows : Type 0
OutputGrows =
    (m : Setting) (t : Typed) (input : List ℕ) (n k : ℕ) → n ≤ k
    → IsPrefix (output (source_run m t input n)) (output (source_run m t input k))

abbrev pub SourceIsRun : Type 0
SourceIsRun = (m : Setting) (t : Typed) (input : List ℕ) → IsRun (source_run m t input)

abbrev pub EndedIsClean : Type 0
EndedIsClean =
    (m : Setting) (t : Typed) (input : List ℕ) (n : ℕ) (out : List ℕ) (status : ℕ)
    → source_run m t input n ≡ Ended out status → IsClean m t input
