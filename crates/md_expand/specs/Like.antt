-- Trees as they are but for the numbers of their holes.
use Rattle.std.specs.Prelude.{ℕ, Option, Some, None}
use Rattle.rtl_tree.specs.declared.cells.Cell.TheVariants.{Hole}
use Rattle.rtl_tree.specs.declared.expressions.Width.{Width}
use Rattle.rtl_tree.specs.declared.expressions.UnOp.{UnOp}
use Rattle.rtl_tree.specs.declared.expressions.BinOp.{BinOp}
use Rattle.rtl_tree.specs.Trees.{Tree, Read, Load, Unary, Binary, AnyNumber, AnyName}

-- trees that are equal but for the numbers of their holes
pub data IsLike : Tree → Tree → Type 0 where
  equal : (a : Tree) → IsLike a a
  registers : (m n : ℕ) → IsLike (Read (Hole m)) (Read (Hole n))
  numbers : (m n : ℕ) → IsLike (AnyNumber m) (AnyNumber n)
  names : (m n : ℕ) → IsLike (AnyName m) (AnyName n)
  loads : (w : Width) (a b : Tree) → IsLike a b → IsLike (Load w a) (Load w b)
  unaries : (o : UnOp) (a b : Tree) → IsLike a b → IsLike (Unary o a) (Unary o b)
  binaries : (o : BinOp) (a b c d : Tree) → IsLike a c → IsLike b d → IsLike (Binary o a b) (Binary o c d)

-- the number of the register hole that a tree is
abbrev pub hole_in : Tree → Option ℕ
hole_in (Read (Hole n)) = Some n
hole_in t = None
