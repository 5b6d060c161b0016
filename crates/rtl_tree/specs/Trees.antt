-- A tree without the addresses of its boxes.
use Rattle.std.specs.Prelude.{ℕ}
use Rattle.rtl_tree.specs.declared.cells.Cell.{Cell}
use Rattle.rtl_tree.specs.declared.cells.Lab.{Lab}
use Rattle.rtl_tree.specs.declared.expressions.Width.{Width}
use Rattle.rtl_tree.specs.declared.expressions.UnOp.{UnOp}
use Rattle.rtl_tree.specs.declared.expressions.BinOp.{BinOp}
use Rattle.rtl_tree.specs.declared.expressions.Expr.{Expr}
use Rattle.rtl_tree.specs.declared.expressions.Expr.TheVariants.{Num, Sym, Label, Cell as Leaf, Mem', Un', Bin', Lost, NumHole, NameHole}

pub data Tree : Type 0 where
  Number : ℕ → Tree
  Symbol : ℕ → Tree
  CodeLabel : Lab → Tree
  Read : Cell → Tree
  Load : Width → Tree → Tree
  Unary : UnOp → Tree → Tree
  Binary : BinOp → Tree → Tree → Tree
  NoPair : Tree
  AnyNumber : ℕ → Tree
  AnyName : ℕ → Tree

-- the tree that an expression is
abbrev pub tree_of : Expr → Tree
tree_of (Num n) = Number n
tree_of (Sym n) = Symbol n
tree_of (Label l) = CodeLabel l
tree_of (Leaf c) = Read c
tree_of (Mem' w p a) = Load w (tree_of a)
tree_of (Un' o p a) = Unary o (tree_of a)
tree_of (Bin' o p a q b) = Binary o (tree_of a) (tree_of b)
tree_of Lost = NoPair
tree_of (NumHole n) = AnyNumber n
tree_of (NameHole n) = AnyName n
