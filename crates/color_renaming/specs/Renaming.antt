-- A transfer with registers in place of its temporaries.
use Rattle.std.specs.Prelude.{ℕ, List, map, Option}
use Rattle.rtl_tree.specs.declared.cells.Cell.{Cell}
use Rattle.rtl_tree.specs.declared.cells.Cell.TheVariants.{Hard, Temp}
use Rattle.rtl_tree.specs.Trees.{Tree, Read, Load, Unary, Binary}
use Rattle.rtl_tree.specs.Moves.{Goal, ToCell, ToMemory, Move}
use Rattle.rtl_effect.specs.Views.{View}

module _ (register : ℕ → ℕ) where
  abbrev pub cell_with : Cell → Cell
  cell_with (Temp k) = Hard (register k)
  cell_with c = c

  abbrev pub tree_with : Tree → Tree
  tree_with (Read c) = Read (cell_with c)
  tree_with (Load d a) = Load d (tree_with a)
  tree_with (Unary o a) = Unary o (tree_with a)
  tree_with (Binary o a b) = Binary o (tree_with a) (tree_with b)
  tree_with a = a

  abbrev pub goal_with : Goal → Goal
  goal_with (ToCell c) = ToCell (cell_with c)
  goal_with (ToMemory d a) = ToMemory d (tree_with a)

  abbrev pub with_registers : List Move → List Move
  with_registers ms = map (λ m. record { to = goal_with m.to; value = tree_with m.value }) ms

  abbrev pub cells_back : View → Cell → Option ℕ
  cells_back v (Temp k) = v.cells (Hard (register k))
  cells_back v c = v.cells c

  -- the view in which the word of each register stands in its temporary
  abbrev pub with_temporaries : View → View
  with_temporaries v = record {
    cells = cells_back v;
    flags = v.flags;
    size = v.size;
    bytes = v.bytes;
    reach = v.reach;
    symbols = v.symbols;
    labels = v.labels;
    targets = v.targets;
    places = v.places;
    input = v.input;
  }
