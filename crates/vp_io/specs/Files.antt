-- What is known of files by name, and how the counts of their faults move.
use Rattle.std.specs.Prelude.{◌≡◌, ◌≢◌, ℕ, ◌^◌, ◌<◌, ◌≤◌, List, length, take, drop, Option, None, Some, Result, IfOk, ⊤}
use Rattle.vp_io.specs.Counts.{Rose}

-- the bytes of the file under each name, where the object tells them
abbrev pub Told : Type 0
Told = Option (List ℕ → List ℕ)

-- where files are told, the one under this name has P
abbrev pub OfFile : Told → List ℕ → (List ℕ → Type 0) → Type 0
OfFile None name P = ⊤
OfFile (Some files) name P = P (files name)

-- the n bytes of the file from a place on were given, and none only at its end
pub record Gives (file : List ℕ) (at n : ℕ) (into : List ℕ) : Type 0 where
  pub bytes : take n into ≡ take n (drop at file)
  pub end : n ≡ 0 → length file ≤ at

-- a fetch of this name from a place on gave bytes of the told file
abbrev pub FetchGives : {E : Type 0} → Told → List ℕ → ℕ → Result ℕ E → List ℕ → Type 0
FetchGives told name at result into = OfFile told name (λ file. IfOk result (λ n. Gives file at n into))

-- how often an object of files has failed, in all and by fetches of each name
pub record FaultCounts : Type 0 where
  pub total : ℕ
  pub of : List ℕ → ℕ

-- the counts of faults and calls have 64 bits
pub record CountsFit (faults : FaultCounts) (calls : ℕ) : Type 0 where
  pub total : faults.total < 2 ^ 64
  pub of : (name : List ℕ) → faults.of name < 2 ^ 64
  pub calls_fit : calls < 2 ^ 64

-- only this name was fetched: no count has fallen, and those of other names stand still
pub record CountsOnly (name : List ℕ) (before now : FaultCounts) : Type 0 where
  pub total : before.total ≤ now.total
  pub of_name : before.of name ≤ now.of name
  pub others : (other : List ℕ) → other ≢ name → now.of other ≡ before.of other

-- the count has risen by a fetch of this name: the count in all, and, where files are told, the name's own
pub record RoseBy (told : Told) (name : List ℕ) (before now : FaultCounts) : Type 0 where
  pub total : Rose before.total now.total
  pub of_name : OfFile told name (λ _. Rose (before.of name) (now.of name))
