-- What a flow tells of a routine: the blocks that follow each block, and those that lead to it.
use Rattle.std.specs.Prelude.{◌≡◌, ◌↔◌, ℕ, ◌<◌, List, [], ◌∷◌, length, slice_get, Option, Some, None, AllPairs, Contains}
use Rattle.std.specs.Global.{Vec}
use Rattle.temp_machine.specs.Routines.{Routine}
use Rattle.temp_machine.specs.Flow.{successors}
use Rattle.flow_blocks.specs.declared.flows.Next.{Next}
use Rattle.flow_blocks.specs.declared.flows.Next.TheVariants.{Nowhere, One, Two}
use Rattle.flow_blocks.specs.declared.flows.Flow.{Flow}

abbrev pub positions_of : Next → List ℕ
positions_of Nowhere = []
positions_of (One k) = k ∷ []
positions_of (Two j k) = j ∷ k ∷ []

abbrev pub next_in : Option Next → List ℕ
next_in None = []
next_in (Some n) = positions_of n

abbrev pub items_in : Option (Vec ℕ) → List ℕ
items_in None = []
items_in (Some v) = v.items

abbrev pub next_at : Flow → ℕ → List ℕ
next_at f k = next_in (slice_get f.next k)

abbrev pub previous_at : Flow → ℕ → List ℕ
previous_at f k = items_in (slice_get f.previous.items k)

-- the successors of each block, and its predecessors in their order, each once
pub record IsFlow (w : ℕ) (r : Routine) (f : Flow) : Type 0 where
  pub next : (k : ℕ) → next_at f k ≡ successors w r k
  pub previous : (k j : ℕ) → k < length r.blocks → Contains (previous_at f k) j ↔ Contains (successors w r j) k
  pub ordered : (k : ℕ) → AllPairs (λ i j. i < j) (previous_at f k)
