-- A tree put for each occurrence of a cell.
use Rattle.std.specs.Prelude.{if◌then◌else◌}
use Rattle.rtl_tree.specs.declared.cells.Cell.{Cell}
use Rattle.rtl_tree.specs.Trees.{Tree, Number, Symbol, CodeLabel, Read, Load, Unary, Binary, NoPair, AnyNumber, AnyName}
use Rattle.rtl_tree.specs.Same.{same_cell}

abbrev pub put_for : Cell → Tree → Tree → Tree
put_for c by (Read d) = if same_cell d c then by else Read d
put_for c by (Load w a) = Load w (put_for c by a)
put_for c by (Unary o a) = Unary o (put_for c by a)
put_for c by (Binary o a b) = Binary o (put_for c by a) (put_for c by b)
put_for c by (Number n) = Number n
put_for c by (Symbol n) = Symbol n
put_for c by (CodeLabel l) = CodeLabel l
put_for c by NoPair = NoPair
put_for c by (AnyNumber n) = AnyNumber n
put_for c by (AnyName n) = AnyName n
