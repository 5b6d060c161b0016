-- Each tree has a size.
use Rattle.std.proofs.Common.{◌<◌, arith}
use Rattle.rtl_tree.specs.Trees.{Tree, Number, Symbol, CodeLabel, Read, Load, Unary, Binary, NoPair, AnyNumber, AnyName}
use Rattle.md_match.specs.Find.{size}

pub has_size : (t : Tree) → 0 < size t
has_size (Number n) = omega arith
has_size (Symbol n) = omega arith
has_size (CodeLabel l) = omega arith
has_size (Read c) = omega arith
has_size (Load w a) = omega arith
has_size (Unary o a) = omega arith
has_size (Binary o a b) = omega arith
has_size NoPair = omega arith
has_size (AnyNumber n) = omega arith
has_size (AnyName n) = omega arith
