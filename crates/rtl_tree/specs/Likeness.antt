-- Trees that are equal up to the order of operands that commute.
use Rattle.std.specs.Prelude.{◌≡◌, Bool, true, false}
use Rattle.rtl_word.specs.declared.Rel.TheVariants.{Eq, Ne}
use Rattle.rtl_tree.specs.declared.expressions.Width.{Width}
use Rattle.rtl_tree.specs.declared.expressions.UnOp.{UnOp}
use Rattle.rtl_tree.specs.declared.expressions.BinOp.{BinOp}
use Rattle.rtl_tree.specs.declared.expressions.BinOp.TheVariants.{Add, Mul, And, Or, Xor, Cmp}
use Rattle.rtl_tree.specs.Trees.{Tree, Load, Unary, Binary}

-- whether the operands may be swapped
abbrev pub commutes : BinOp → Bool
commutes Add = true
commutes Mul = true
commutes And = true
commutes Or = true
commutes Xor = true
commutes (Cmp Eq) = true
commutes (Cmp Ne) = true
commutes _ = false

pub data IsAlike : Tree → Tree → Type 0 where
  equal : (a : Tree) → IsAlike a a
  loads : (w : Width) (a b : Tree) → IsAlike a b → IsAlike (Load w a) (Load w b)
  unaries : (o : UnOp) (a b : Tree) → IsAlike a b → IsAlike (Unary o a) (Unary o b)
  straight : (o : BinOp) (a b c d : Tree) → IsAlike a c → IsAlike b d → IsAlike (Binary o a b) (Binary o c d)
  crossed : (o : BinOp) (a b c d : Tree) → commutes o ≡ true → IsAlike a d → IsAlike b c → IsAlike (Binary o a b) (Binary o c d)
