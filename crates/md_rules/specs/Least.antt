-- The least line at which something holds.
use Rattle.std.specs.Prelude.{◌≤◌, ℕ, Bool, List, [], ◌∷◌, ◌++◌, Option, Some, None, if◌then◌else◌}
use Rattle.md_text.specs.Forms.{Form}
use Rattle.md_text.specs.Declarations.{Declaration}
pub use Rattle.md_text.specs.Numbered.{IsNumbered}

-- the least number for which P holds, or none for which it does
abbrev pub IsLeast : (ℕ → Type 0) → Option ℕ → Type 0
IsLeast P None = (n : ℕ) → P n → ⊥
IsLeast P (Some n) = P n × ((m : ℕ) → P m → n ≤ m)

-- the line of the first declaration that a test of it and those before breaks
abbrev pub first_broken : (List Declaration → Form → Bool) → List Declaration → List Declaration → Option ℕ
first_broken test before [] = None
first_broken test before (d ∷ ds) = if test before d.form then Some d.line else first_broken test (before ++ d ∷ []) ds
