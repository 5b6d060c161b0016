-- The table of what is live.
use Rattle.std.proofs.Common.{◌≡◌, inl, inr, Bool, true, ◌||◌}
use Rattle.rtl_tree.specs.declared.cells.Cell.{Cell}
use Rattle.temp_machine.specs.Routines.{Routine, Target}
use Rattle.temp_machine.specs.Live.{Place, is_always_live, IsLive, always, read}
use Rattle.temp_machine.specs.Tidy.{transfers_of}
use Rattle.color_table.specs.Tables.{Table}
use Rattle.live_decided.specs.Decided.{LivenessIsDecided}
use Rattle.live_decided.proofs.Lists.{In, here, or_cases, or_left, or_right}
use Rattle.live_decided.proofs.Paths.{reaches, does_reach, reached}
use Rattle.live_decided.proofs.Nodes.{Node, edge, accept, read_reaches, reaches_read, cells_in, cells_from, nodes, closed}

module _ (t : Target) (r : Routine) where
  abbrev is_read : Place → Cell → Bool
  is_read p c = reaches Node (edge t r) (accept t r) (nodes t r c) (record { place = p; cell = c })

  abbrev live : Table
  live p c = is_always_live t r c || is_read p c

  live_so : (p : Place) (c : Cell) → live p c ≡ true → IsLive t r c p
  live_so p c e = elim (or_cases (is_always_live t r c) (is_read p c) e) [
    | inl a ↦ always a
    | inr b ↦ read (reaches_read t r (record { place = p; cell = c }) (does_reach Node (edge t r) (accept t r) (nodes t r c) (record { place = p; cell = c }) b))
  ]

  so_live : (p : Place) (c : Cell) → IsLive t r c p → live p c ≡ true
  so_live p c (always a) = or_left (is_always_live t r c) (is_read p c) a
  so_live p c (read b) = or_right (is_always_live t r c) (is_read p c)
      (reached Node (edge t r) (accept t r) (λ n. In n.cell (cells_from t r c)) (nodes t r c) (closed t r c) (record { place = p; cell = c })
      (here c (cells_in t r (transfers_of r.blocks))) (read_reaches t r c p b))

pub decided : LivenessIsDecided
decided t r = (live t r, λ p c. (live_so t r p c, so_live t r p c))
