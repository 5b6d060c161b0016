-- Names of C: letters, digits and underscores, no digit first (C11 6.4.2.1).
use Rattle.std.specs.Prelude.{ℕ, ◌<◌, ◌≤◌, ◌≡◌, ◌≢◌, ◌⊎◌, List, ◌∷◌, Vec, length, map, All, AllPairs}
use Rattle.std.proofs.Common.{Global}
use Rattle.std.specs.Char.{IsAsciiDigit}

-- an underscore, a digit, or a letter of either case
abbrev pub IsNameByte : ℕ → Type 0
IsNameByte c = (c ≡ 95) ⊎ IsAsciiDigit c ⊎ ((65 ≤ c) × (c ≤ 90)) ⊎ ((97 ≤ c) × (c ≤ 122))

-- a C name of 1 to 63 bytes
pub record IsName (n : List ℕ) : Type 0 where
  pub nonempty : 0 < length n
  pub long : length n ≤ 63
  pub bytes : All IsNameByte n
  pub first : (c : ℕ) (cs : List ℕ) → n ≡ c ∷ cs → ¬ IsAsciiDigit c

-- at most 65,536 different names
pub record AreNames (ns : List (List ℕ)) : Type 0 where
  pub names : All IsName ns
  pub different : AllPairs (λ m n. m ≢ n) ns
  pub many : length ns ≤ 65536

-- the names that are kept as vectors
abbrev pub names_of : List (Vec ℕ Global) → List (List ℕ)
names_of vs = map (λ v. v.items) vs
