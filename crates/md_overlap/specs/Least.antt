-- The least number, and the least pair of numbers, for which something holds.
use Rattle.std.specs.Prelude.{◌≡◌, ◌⊎◌, ℕ, ◌<◌, ◌≤◌, Option, Some, None}
use Rattle.md_overlap.specs.declared.told.Overlapping.{Overlapping}

-- the least number for which P holds, or none for which it does
abbrev pub IsLeast : (ℕ → Type 0) → Option ℕ → Type 0
IsLeast P None = (n : ℕ) → P n → ⊥
IsLeast P (Some n) = P n × ((m : ℕ) → P m → n ≤ m)

-- the first numbers decide, and the second ones where those are one
abbrev pub NoLater : ℕ → ℕ → ℕ → ℕ → Type 0
NoLater a b c d = (a < c) ⊎ ((a ≡ c) × (b ≤ d))

-- the least pair for which P holds, or none for which it does
abbrev pub IsLeastPair : (ℕ → ℕ → Type 0) → Option Overlapping → Type 0
IsLeastPair P None = (a b : ℕ) → P a b → ⊥
IsLeastPair P (Some o) = P o.line o.earlier × ((a b : ℕ) → P a b → NoLater o.line o.earlier a b)
