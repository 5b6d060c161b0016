-- Leaves of rows, filled.
use Rattle.std.specs.Prelude.{Bool, true, false, ◌==◌, Option, Some, None}
use Rattle.rtl_tree.specs.Trees.{Tree, Number as NumberTree, Symbol as SymbolTree, CodeLabel, Read, NoPair, AnyNumber, AnyName}
use Rattle.rtl_tree.specs.Same.{same_cell, same_label}
use Rattle.md_match.specs.declared.acceptance.Leaf.{Leaf}
use Rattle.md_match.specs.declared.acceptance.Leaf.TheVariants.{Number, Symbol, Label, Cell, Lost, NumberHole, NameHole}

abbrev pub leaf_tree : Leaf → Tree
leaf_tree (Number n) = NumberTree n
leaf_tree (Symbol n) = SymbolTree n
leaf_tree (Label l) = CodeLabel l
leaf_tree (Cell c) = Read c
leaf_tree Lost = NoPair
leaf_tree (NumberHole h) = AnyNumber h
leaf_tree (NameHole h) = AnyName h

-- the leaf that a tree is, if it is one
abbrev pub leaf_kind : Tree → Option Leaf
leaf_kind (NumberTree n) = Some (Number n)
leaf_kind (SymbolTree n) = Some (Symbol n)
leaf_kind (CodeLabel l) = Some (Label l)
leaf_kind (Read c) = Some (Cell c)
leaf_kind NoPair = Some Lost
leaf_kind (AnyNumber h) = Some (NumberHole h)
leaf_kind (AnyName h) = Some (NameHole h)
leaf_kind t = None

abbrev pub same_leaf : Leaf → Leaf → Bool
same_leaf (Number m) (Number n) = m == n
same_leaf (Symbol m) (Symbol n) = m == n
same_leaf (Label l) (Label m) = same_label l m
same_leaf (Cell c) (Cell d) = same_cell c d
same_leaf Lost Lost = true
same_leaf (NumberHole m) (NumberHole n) = m == n
same_leaf (NameHole m) (NameHole n) = m == n
same_leaf _ _ = false

-- two leaves that are one; no other trees are
abbrev pub same_leaves : Option Leaf → Option Leaf → Bool
same_leaves (Some k) (Some l) = same_leaf k l
same_leaves _ _ = false
