-- Bytes that wait to be written, and bytes that are taken of a source until its end was seen.
use Rattle.std.specs.Prelude.{ℕ, ◌≡◌, List, [], ◌∷◌, ◌++◌, true, false, Bool, Option, Some, None, Result, Ok}
use Rattle.std.specs.Io.KnownBytes.{Appends, Consumes, IsAtEnd}
use Rattle.vp_io.specs.Counts.{Rose}

-- what waited, with these bytes behind, is what was written since and then what waits now
abbrev pub Prints : Option (List ℕ) → List ℕ → Option (List ℕ) → List ℕ → List ℕ → Type 0
Prints old waited new waits out = (now : List ℕ) × Appends old new now × (waited ++ out ≡ now ++ waits)

-- a byte is taken, or nothing is: at the end, or where the read failed
abbrev pub TakesByte : {E : Type 0} → Option (List ℕ) → Option (List ℕ) → Result (Option ℕ) E → Type 0
TakesByte old new (Ok (Some b)) = Consumes old new (b ∷ [])
TakesByte old new _ = Consumes old new []

-- an answer without a byte tells that the end was seen, now or before
abbrev pub TellsEnd : {E : Type 0} → Bool → Result (Option ℕ) E → Type 0
TellsEnd ended (Ok None) = ended ≡ true
TellsEnd ended _ = ended ≡ false

-- the end is seen where a read has met it, and there nothing was left
abbrev pub SeesEnd : Bool → Bool → ℕ → ℕ → Option (List ℕ) → Type 0
SeesEnd false true ends ends' left' = Rose ends ends' × IsAtEnd left'
SeesEnd _ _ ends ends' left' = ends' ≡ ends
