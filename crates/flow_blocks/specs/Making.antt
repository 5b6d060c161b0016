-- A flow as far as it is made.
use Rattle.std.specs.Prelude.{◌≡◌, ℕ, ◌+◌, ◌<◌, ◌==◌, ◌&&◌, nat_lt, Bool, if◌then◌else◌, List, [], ◌∷◌, ◌++◌, length, slice_get, All, AllPairs, Contains}
use Rattle.std.specs.List.{list_any}
use Rattle.std.specs.Global.{Vec}
use Rattle.temp_machine.specs.Routines.{BasicBlock}
use Rattle.temp_machine.specs.Flow.{successors_at}
use Rattle.flow_blocks.specs.declared.flows.Next.{Next}
use Rattle.flow_blocks.specs.Flows.{positions_of, next_in, items_in}

-- the successors of the blocks before position n
abbrev pub AreSuccessorsTo : ℕ → ℕ → List BasicBlock → List Next → Type 0
AreSuccessorsTo n w blocks next = (k : ℕ) → k < n → next_in (slice_get next k) ≡ successors_at w blocks k (slice_get blocks k)

abbrev pub AreSuccessors : ℕ → List BasicBlock → List Next → Type 0
AreSuccessors w blocks next = (length next ≡ length blocks) × AreSuccessorsTo (length blocks) w blocks next

abbrev pub listed : List (Vec ℕ) → ℕ → List ℕ
listed lists k = items_in (slice_get lists k)

abbrev pub is_among : ℕ → List ℕ → Bool
is_among k ks = list_any (λ j. j == k) ks

-- a list as it was, or with one more at its end
abbrev pub with_one : Bool → List ℕ → ℕ → List ℕ
with_one more ks j = if more then ks ++ j ∷ [] else ks

-- of n lists, each has in their order the positions before i that lead to its own
pub record ArePreviousTo (i n : ℕ) (next : List Next) (lists : ℕ → List ℕ) : Type 0 where
  pub each : (k j : ℕ) → k < n → Contains (lists k) j → Contains (next_in (slice_get next j)) k
  pub all : (k j : ℕ) → k < n → j < i → Contains (next_in (slice_get next j)) k → Contains (lists k) j
  pub below : (k : ℕ) → All (λ j. j < i) (lists k)
  pub ordered : (k : ℕ) → AllPairs (λ i j. i < j) (lists k)
