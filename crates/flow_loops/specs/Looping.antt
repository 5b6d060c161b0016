-- The loops of a routine, one by one, by tests of its flow.
use Rattle.std.specs.Prelude.{ℕ, zero, suc, ◌-◌, ◌==◌, ◌&&◌, ◌||◌, nat_le, Bool, true, false, if◌then◌else◌, List, [], ◌++◌, map, slice_get, Option, Some, None}
use Rattle.std.specs.List.{list_all, filter}
use Rattle.temp_machine.specs.Routines.{Exit, Falls, BasicBlock}
use Rattle.temp_code.specs.declared.code.LoopMark.{LoopMark}
use Rattle.flow_blocks.specs.declared.flows.Flow.{Flow}
use Rattle.flow_blocks.specs.Flows.{previous_at}

abbrev pub is_fall : Exit → Bool
is_fall Falls = true
is_fall _ = false

abbrev pub falls_by : Option BasicBlock → Bool
falls_by (Some b) = is_fall b.exit
falls_by None = false

-- the block at a position ends with a fall
abbrev pub falls_at : List BasicBlock → ℕ → Bool
falls_at blocks k = falls_by (slice_get blocks k)

-- a block lies in the run from `first` to `last` or is the one before it
abbrev pub is_near : ℕ → ℕ → ℕ → Bool
is_near first last k = (k == first - 1) || (nat_le first k && nat_le k last)

-- of n numbers from k on
abbrev pub holds_along : (ℕ → Bool) → ℕ → ℕ → Bool
holds_along p k zero = true
holds_along p k (suc n) = p k && holds_along p (suc k) n

-- all that leads into the run lies in it or just before it
abbrev pub is_entered_once : Flow → ℕ → ℕ → Bool
is_entered_once f first last = holds_along (λ k. list_all (is_near first last) (previous_at f k)) first (suc last - first)

abbrev pub closes_loop : Flow → ℕ → ℕ → Bool
closes_loop f first last = nat_le first last && is_entered_once f first last

abbrev pub mark : ℕ → ℕ → LoopMark
mark first last = record { before = first - 1; first = first; last = last }

-- the loops that begin at a block
abbrev pub marks_at : Flow → ℕ → List LoopMark
marks_at f first = map (mark first) (filter (closes_loop f first) (previous_at f first))

-- those that begin behind the first n blocks that fall
abbrev pub marks_to : Flow → List BasicBlock → ℕ → List LoopMark
marks_to f blocks zero = []
marks_to f blocks (suc n) = marks_to f blocks n ++ (if falls_at blocks n then marks_at f (suc n) else [])
