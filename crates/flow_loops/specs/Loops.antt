-- The list of the loops of a routine.
use Rattle.std.specs.Prelude.{◌≡◌, ◌⊎◌, ℕ, ◌<◌, List, All, AllPairs, Contains}
use Rattle.temp_machine.specs.Routines.{Routine}
use Rattle.temp_machine.specs.Flow.{IsLoop}
use Rattle.temp_code.specs.declared.code.LoopMark.{LoopMark}

-- by the first block, and then by the last
abbrev pub ComesBefore : LoopMark → LoopMark → Type 0
ComesBefore m n = (m.first < n.first) ⊎ ((m.first ≡ n.first) × (m.last < n.last))

-- each of the list is a loop, each loop is in the list, and they stand in their order
pub record AreLoops (w : ℕ) (r : Routine) (marks : List LoopMark) : Type 0 where
  pub each : All (λ m. IsLoop w r m.before m.first m.last) marks
  pub all : (before first last : ℕ) → IsLoop w r before first last → Contains marks (record { before = before; first = first; last = last })
  pub ordered : AllPairs ComesBefore marks
