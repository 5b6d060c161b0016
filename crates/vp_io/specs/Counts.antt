-- How the counts of an object move.
use Rattle.std.specs.Prelude.{◌≡◌, ℕ, ◌+◌, ◌-◌, ◌^◌, ◌<◌, ◌≤◌, min, Result, OnErr, MatchResult}

-- one more; a count has 64 bits and stands still at their end
abbrev pub next_count : ℕ → ℕ
next_count n = min (n + 1) (2 ^ 64 - 1)

-- the count has risen; one that stands at its end counts as risen
abbrev pub Rose : ℕ → ℕ → Type 0
Rose before now = next_count before ≤ now

-- the count of faults never falls, and has risen where the call failed
pub record HasCause {T E : Type 0} (before now : ℕ) (result : Result T E) : Type 0 where
  pub later : before ≤ now
  pub failed : OnErr result (Rose before now)

-- the count of ends rises by an answer of 0, and by no other answer
abbrev pub CountsEnds : {E : Type 0} → ℕ → ℕ → Result ℕ E → Type 0
CountsEnds before now result = MatchResult result (λ n. (n ≡ 0 → (before ≤ now) × Rose before now) × (0 < n → now ≡ before)) (λ _. now ≡ before)
