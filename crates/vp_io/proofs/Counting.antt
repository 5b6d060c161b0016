-- Counts over several calls.
use Rattle.std.proofs.Common.{ℕ, ◌≤◌, List, Some, None, arith}
use Rattle.vp_io.specs.Counts.{Rose}
use Rattle.vp_io.specs.Files.{Told, FaultCounts, RoseBy}

-- a count that has not fallen, and then has risen, has risen
pub rose_after : (a b c : ℕ) → a ≤ b → Rose b c → Rose a c
rose_after a b c le rose = omega arith

-- a fault by a fetch of a name, after calls at which no count of that name fell
pub rose_by_after : (told : Told) (name : List ℕ) (a b c : FaultCounts) → a.total ≤ b.total → a.of name ≤ b.of name → RoseBy told name b c → RoseBy told name a c
rose_by_after None name a b c total of_name rose = record { total = rose_after a.total b.total c.total total rose.total; of_name = tt }
rose_by_after (Some files) name a b c total of_name rose = record { total = rose_after a.total b.total c.total total rose.total; of_name = rose_after (a.of name) (b.of name) (c.of name) of_name rose.of_name }
