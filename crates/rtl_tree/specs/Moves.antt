-- An assignment without the addresses of its boxes.
use Rattle.rtl_tree.specs.Trees.{Tree, tree_of}
use Rattle.rtl_tree.specs.declared.cells.Cell.{Cell}
use Rattle.rtl_tree.specs.declared.expressions.Width.{Width}
use Rattle.rtl_tree.specs.declared.transfers.Place.{Place}
use Rattle.rtl_tree.specs.declared.transfers.Place.TheVariants.{Cell as At, Mem}

-- where an assignment goes: to a cell, or to memory at an address
pub data Goal : Type 0 where
  ToCell : Cell → Goal
  ToMemory : Width → Tree → Goal

abbrev pub goal_of : Place → Goal
goal_of (At c) = ToCell c
goal_of (Mem w a) = ToMemory w (tree_of a)

-- one assignment
pub record Move : Type 0 where
  pub to : Goal
  pub value : Tree
