-- A transfer whose temporary is in its home, with views that meet all that the law on coloured transfers asks.
use Rattle.std.specs.Prelude.{◌≡◌, ℕ, ◌==◌, ◌||◌, if◌then◌else◌, Bool, true, false, zero, suc, List, [], ◌∷◌, Option, Some, None, Ok}
use Rattle.rtl_tree.specs.declared.cells.Cell.{Cell}
use Rattle.rtl_tree.specs.declared.cells.Cell.TheVariants.{Hard, Temp, Flag, Pc, Input}
use Rattle.rtl_tree.specs.declared.expressions.BinOp.TheVariants.{Add}
use Rattle.rtl_tree.specs.Trees.{Number, Read, Binary}
use Rattle.rtl_tree.specs.Moves.{ToCell, Move}
use Rattle.rtl_effect.specs.Views.{Gone, View}
use Rattle.rtl_effect.specs.Effects.{Done, effect}
use Rattle.temp_machine.specs.Routines.{Returns, Routine, Target}
use Rattle.color_code.specs.Colors.{Seats}
use Rattle.color_renaming.specs.Renaming.{with_registers}
use Rattle.color_spilling.specs.Spilling.{load_moves, store_moves}
use Rattle.color_spilling.specs.Passing.{IsPlaced}
use Rattle.color_transfer.specs.Colored.{AreColoredParts}
use Rattle.color_holding.specs.Holding.{Holds}
use Rattle.color_holding.specs.Places.{AreGeneral, IsPlace}
use Rattle.color_holding.specs.Laws.{IsKept}

abbrev pub target : Target
target = record { word = 16; memory = 4096; base = 256; stack = 1024; sp = 6; result = 0; link = None; general = λ n. n == 1 || n == 2; kept = [] }

-- t0 = t0 + 1
abbrev pub step : List Move
step = record { to = ToCell (Temp 0); value = Binary Add (Read (Temp 0)) (Number 1) } ∷ []

abbrev pub routine : Routine
routine = record { params = 0; frame = 38; first_home = 6; slots = 16; homes = 0 ∷ []; blocks = record { label = 0; body = step ∷ []; exit = Returns } ∷ [] }

abbrev pub at_home : Seats
at_home k = None

abbrev pub live : Cell → Bool
live (Temp zero) = true
live (Temp (suc k)) = false
live (Flag n) = false
live _ = true

-- the temporary is 5, and so is its home
abbrev pub old_cells : Cell → Option ℕ
old_cells (Temp k) = Some 5
old_cells (Hard n) = None
old_cells Pc = None
old_cells Input = Some 65535
old_cells _ = Some 0

abbrev pub new_cells : Cell → Option ℕ
new_cells (Hard n) = if n == 6 then Some 2048 else None
new_cells (Temp n) = None
new_cells Pc = None
new_cells Input = Some 65535
new_cells _ = Some 0

abbrev pub new_bytes : ℕ → Option ℕ
new_bytes a = if a == 2054 then Some 5 else Some 0

abbrev pub old_view : View
old_view = record {
  cells = old_cells;
  flags = λ n. Gone;
  size = 4096;
  bytes = λ a. None;
  reach = λ a. false;
  symbols = λ n. 0;
  labels = λ l. None;
  targets = λ l. None;
  places = λ n. None;
  input = [];
}

abbrev pub new_view : View
new_view = record {
  cells = new_cells;
  flags = λ n. Gone;
  size = 4096;
  bytes = new_bytes;
  reach = λ a. true;
  symbols = λ n. 0;
  labels = λ l. None;
  targets = λ l. None;
  places = λ n. None;
  input = [];
}

-- all premises hold, so the load, the transfer and the store keep it
pub record IsWorked : Type 0 where
  pub placed : IsPlaced target routine 2048
  pub general : AreGeneral target at_home
  pub parts : AreColoredParts target routine at_home step (load_moves 6 1 6 ∷ []) (with_registers (λ k. 1) step) (store_moves 6 1 6 ∷ [])
  pub place : IsPlace target routine at_home step step live live
  pub holds : Holds target routine at_home 2048 live old_view new_view
  pub done : Done
  pub does : effect 16 step old_view ≡ Ok done
  pub six : done.view.cells (Temp 0) ≡ Some 6
  pub kept : IsKept target routine at_home 2048 live (load_moves 6 1 6 ∷ []) (with_registers (λ k. 1) step) (store_moves 6 1 6 ∷ []) old_view new_view done
