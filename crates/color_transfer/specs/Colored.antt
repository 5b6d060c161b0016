-- What stands in coloured code for a transfer of the old code.
use Rattle.std.specs.Prelude.{◌≡◌, ◌≢◌, ◌↔◌, ℕ, ◌≤◌, true, List, ◌∷◌, ◌++◌, length, Some, None, AllPairs}
use Rattle.rtl_tree.specs.declared.cells.Cell.TheVariants.{Temp}
use Rattle.rtl_tree.specs.Same.{same_cell}
use Rattle.rtl_tree.specs.Moves.{Move}
use Rattle.temp_machine.specs.Routines.{Routine, Target}
use Rattle.temp_machine.specs.Cells.{reads, sets, mentions}
use Rattle.temp_machine.specs.Tidy.{is_among, room_of}
use Rattle.color_code.specs.Colors.{Seats}
use Rattle.color_renaming.specs.Renaming.{with_registers}
use Rattle.color_spilling.specs.Spilling.{AreLoads, AreStores}

-- a temporary stands in a transfer
abbrev pub Stands : List Move → ℕ → Type 0
Stands ms k = mentions (same_cell (Temp k)) ms ≡ true

-- the temporaries in homes that have a property, each once
pub record AreAtHome (seats : Seats) (Has : ℕ → Type 0) (ks : List ℕ) : Type 0 where
  pub are : (k : ℕ) → (is_among k ks ≡ true) ↔ (Has k × (seats k ≡ None))
  pub differ : AllPairs (λ j k. j ≢ k) ks

-- the temporaries of a transfer that are in homes are, while it is made, in different general registers that are nobody's colours
pub record IsScratch (t : Target) (seats : Seats) (register : ℕ → ℕ) (ms : List Move) : Type 0 where
  pub general : (k : ℕ) → Stands ms k → seats k ≡ None → t.general (register k) ≡ true
  pub no_color : (j k c : ℕ) → Stands ms k → seats k ≡ None → seats j ≡ Some c → register k ≢ c
  pub differ : (j k : ℕ) → Stands ms j → Stands ms k → seats j ≡ None → seats k ≡ None → j ≢ k → register j ≢ register k

-- the loads of the operands that are in homes, the transfer with registers put in, and the stores of the results that are in homes
pub record AreColoredParts (t : Target) (r : Routine) (seats : Seats) (ms : List Move) (loads : List (List Move)) (middle : List Move) (stores : List (List Move)) : Type 0 where
  pub register : ℕ → ℕ
  pub operands : List ℕ
  pub results : List ℕ
  pub renamed : middle ≡ with_registers register ms
  pub seated : (k c : ℕ) → seats k ≡ Some c → register k ≡ c
  pub at_home : AreAtHome seats (λ k. reads (Temp k) ms ≡ true) operands
  pub to_home : AreAtHome seats (λ k. sets (Temp k) ms ≡ true) results
  pub are_loads : AreLoads t r register operands loads
  pub are_stores : AreStores t r register results stores
  pub scratch : IsScratch t seats register ms

-- one after the other
pub record IsColored (t : Target) (r : Routine) (seats : Seats) (ms : List Move) (new : List (List Move)) : Type 0 where
  pub loads : List (List Move)
  pub middle : List Move
  pub stores : List (List Move)
  pub is : new ≡ loads ++ (middle ∷ stores)
  pub parts : AreColoredParts t r seats ms loads middle stores

-- that takes at most the transfer's room
abbrev pub ColoredFits : Type 0
ColoredFits = (t : Target) (r : Routine) (seats : Seats) (ms : List Move) (new : List (List Move)) → IsColored t r seats ms new → length new ≤ room_of ms
