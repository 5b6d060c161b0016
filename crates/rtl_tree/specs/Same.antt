-- Tests of equality that compute.
use Rattle.std.specs.Prelude.{Bool, true, false, ◌==◌, ◌&&◌}
use Rattle.rtl_word.specs.declared.Rel.{Rel}
use Rattle.rtl_word.specs.declared.Rel.TheVariants.{Eq, Ne, Lt, Le, Gt, Ge, Ltu, Leu, Gtu, Geu}
use Rattle.rtl_tree.specs.declared.cells.Cell.{Cell}
use Rattle.rtl_tree.specs.declared.cells.Cell.TheVariants.{Hard, Temp, Flag, Pc, Input, Output, Halt, Hole}
use Rattle.rtl_tree.specs.declared.cells.Lab.{Lab}
use Rattle.rtl_tree.specs.declared.cells.Lab.TheVariants.{Block, Function}
use Rattle.rtl_tree.specs.declared.expressions.Width.{Width}
use Rattle.rtl_tree.specs.declared.expressions.Width.TheVariants.{Byte, Full}
use Rattle.rtl_tree.specs.declared.expressions.UnOp.{UnOp}
use Rattle.rtl_tree.specs.declared.expressions.UnOp.TheVariants.{Neg, Not, Sxb, Test}
use Rattle.rtl_tree.specs.declared.expressions.BinOp.{BinOp}
use Rattle.rtl_tree.specs.declared.expressions.BinOp.TheVariants.{Add, Sub, Mul, Div, Divu, Rem, Remu, And, Or, Xor, Shl, Shr, Shru, Cmp, Pair, When}
use Rattle.rtl_tree.specs.Trees.{Tree, Number, Symbol, CodeLabel, Read, Load, Unary, Binary, NoPair, AnyNumber, AnyName}

abbrev pub same_cell : Cell → Cell → Bool
same_cell (Hard m) (Hard n) = m == n
same_cell (Temp m) (Temp n) = m == n
same_cell (Flag m) (Flag n) = m == n
same_cell Pc Pc = true
same_cell Input Input = true
same_cell Output Output = true
same_cell Halt Halt = true
same_cell (Hole m) (Hole n) = m == n
same_cell _ _ = false

abbrev pub same_label : Lab → Lab → Bool
same_label (Block m) (Block n) = m == n
same_label (Function m) (Function n) = m == n
same_label _ _ = false

abbrev pub same_width : Width → Width → Bool
same_width Byte Byte = true
same_width Full Full = true
same_width _ _ = false

abbrev pub same_relation : Rel → Rel → Bool
same_relation Eq Eq = true
same_relation Ne Ne = true
same_relation Lt Lt = true
same_relation Le Le = true
same_relation Gt Gt = true
same_relation Ge Ge = true
same_relation Ltu Ltu = true
same_relation Leu Leu = true
same_relation Gtu Gtu = true
same_relation Geu Geu = true
same_relation _ _ = false

abbrev pub same_unary : UnOp → UnOp → Bool
same_unary Neg Neg = true
same_unary Not Not = true
same_unary Sxb Sxb = true
same_unary (Test q) (Test r) = same_relation q r
same_unary _ _ = false

abbrev pub same_binary : BinOp → BinOp → Bool
same_binary Add Add = true
same_binary Sub Sub = true
same_binary Mul Mul = true
same_binary Div Div = true
same_binary Divu Divu = true
same_binary Rem Rem = true
same_binary Remu Remu = true
same_binary And And = true
same_binary Or Or = true
same_binary Xor Xor = true
same_binary Shl Shl = true
same_binary Shr Shr = true
same_binary Shru Shru = true
same_binary (Cmp q) (Cmp r) = same_relation q r
same_binary Pair Pair = true
same_binary When When = true
same_binary _ _ = false

abbrev pub same_tree : Tree → Tree → Bool
same_tree (Number m) (Number n) = m == n
same_tree (Symbol m) (Symbol n) = m == n
same_tree (CodeLabel l) (CodeLabel m) = same_label l m
same_tree (Read c) (Read d) = same_cell c d
same_tree (Load v a) (Load w b) = same_width v w && same_tree a b
same_tree (Unary o a) (Unary p b) = same_unary o p && same_tree a b
same_tree (Binary o a b) (Binary p c d) = same_binary o p && (same_tree a c && same_tree b d)
same_tree NoPair NoPair = true
same_tree (AnyNumber m) (AnyNumber n) = m == n
same_tree (AnyName m) (AnyName n) = m == n
same_tree _ _ = false
