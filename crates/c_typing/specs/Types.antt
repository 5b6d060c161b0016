-- Types of expressions and conversions (C11 6.3.1).
use Rattle.std.specs.Prelude.{Bool, true, false, ◌||◌, if◌then◌else◌}
use Rattle.c_tree.specs.declared.token.At.{At}
use Rattle.c_tree.specs.declared.types.CType.{CType}
use Rattle.c_tree.specs.declared.types.CType.TheVariants as type
use Rattle.c_tree.specs.declared.typed.Head.{Head}
use Rattle.c_tree.specs.declared.typed.TypedExpr.{TypedExpr}
use Rattle.c_tree.specs.declared.typed.TypedExpr.TheVariants as tree
use Rattle.c_tree.specs.declared.syntax.TypeWords.{TypeWords}
use Rattle.c_tree.specs.declared.syntax.TypeWords.TheVariants as words
use Rattle.c_tree.specs.declared.syntax.BinaryOperator.{BinaryOperator}
use Rattle.c_tree.specs.declared.syntax.BinaryOperator.TheVariants as binary
use Rattle.c_tree.specs.declared.syntax.UnaryOperator.{UnaryOperator}
use Rattle.c_tree.specs.declared.syntax.UnaryOperator.TheVariants as unary
use Rattle.c_tree.specs.declared.syntax.Arithmetic.{Arithmetic}
use Rattle.c_tree.specs.declared.syntax.Arithmetic.TheVariants as arithmetic
use Rattle.c_tree.specs.Heads.{head_of}

abbrev pub head : CType → At → Head
head t p = record { of = t; at = p }

abbrev pub same_type : CType → CType → Bool
same_type type.Schar type.Schar = true
same_type type.Uchar type.Uchar = true
same_type type.Int type.Int = true
same_type type.Unsigned type.Unsigned = true
same_type type.Void type.Void = true
same_type _ _ = false

-- the words of a type in any order (C11 6.7.2); plain `char` is signed
unfoldable pub type_of_words : TypeWords → CType
type_of_words words.Char = type.Schar
type_of_words words.SignedChar = type.Schar
type_of_words words.CharSigned = type.Schar
type_of_words words.UnsignedChar = type.Uchar
type_of_words words.CharUnsigned = type.Uchar
type_of_words words.Int = type.Int
type_of_words words.Signed = type.Int
type_of_words words.SignedInt = type.Int
type_of_words words.IntSigned = type.Int
type_of_words words.Unsigned = type.Unsigned
type_of_words words.UnsignedInt = type.Unsigned
type_of_words words.IntUnsigned = type.Unsigned

-- the integer promotions (C11 6.3.1.1)
unfoldable pub promoted : CType → CType
promoted type.Schar = type.Int
promoted type.Uchar = type.Int
promoted type.Int = type.Int
promoted type.Unsigned = type.Unsigned
promoted type.Void = type.Void

-- the usual arithmetic conversions (C11 6.3.1.8)
abbrev pub usual_promoted : CType → CType → CType
usual_promoted type.Unsigned b = type.Unsigned
usual_promoted _ type.Unsigned = type.Unsigned
usual_promoted _ _ = type.Int

unfoldable pub usual : CType → CType → CType
usual a b = usual_promoted (promoted a) (promoted b)

-- a conversion where the type isn't this one already
unfoldable pub converted : CType → TypedExpr → TypedExpr
converted t e = if same_type (head_of e).of t then e else tree.Convert (head t (head_of e).at) e

-- ---- the types of operands and results, from those of the operands as they stand

abbrev pub is_shift : BinaryOperator → Bool
is_shift binary.ShiftLeft = true
is_shift binary.ShiftRight = true
is_shift _ = false

abbrev pub is_logical : BinaryOperator → Bool
is_logical binary.LogicalOr = true
is_logical binary.LogicalAnd = true
is_logical _ = false

abbrev pub is_relation : BinaryOperator → Bool
is_relation binary.Equal = true
is_relation binary.NotEqual = true
is_relation binary.Less = true
is_relation binary.Greater = true
is_relation binary.LessEqual = true
is_relation binary.GreaterEqual = true
is_relation _ = false

-- `&&` and `||` compare each operand with 0 (C11 6.5.13p3), a shift promotes each (6.5.7p3), the others convert both to one type
abbrev pub left_type : BinaryOperator → CType → CType → CType
left_type o a b = if is_logical o then a else (if is_shift o then promoted a else usual a b)

abbrev pub right_type : BinaryOperator → CType → CType → CType
right_type o a b = if is_logical o then b else (if is_shift o then promoted b else usual a b)

abbrev pub binary_type : BinaryOperator → CType → CType → CType
binary_type o a b = if is_logical o || is_relation o then type.Int else left_type o a b

abbrev pub is_not : UnaryOperator → Bool
is_not unary.Not = true
is_not _ = false

-- `!` compares its operand with 0, the others promote it (C11 6.5.3.3)
abbrev pub operand_type : UnaryOperator → CType → CType
operand_type o t = if is_not o then t else promoted t

abbrev pub unary_type : UnaryOperator → CType → CType
unary_type o t = if is_not o then type.Int else promoted t

-- the right value of a compound assignment (C11 6.5.16.2)
abbrev pub shifts : Arithmetic → Bool
shifts arithmetic.ShiftLeft = true
shifts arithmetic.ShiftRight = true
shifts _ = false

abbrev pub compound_type : Arithmetic → CType → CType → CType
compound_type o a b = if shifts o then promoted b else usual a b

-- the last operands of `?:` (C11 6.5.15p5): both void, or both in the usual type
abbrev pub conditional_type : CType → CType → CType
conditional_type type.Void b = type.Void
conditional_type type.Schar b = usual type.Schar b
conditional_type type.Uchar b = usual type.Uchar b
conditional_type type.Int b = usual type.Int b
conditional_type type.Unsigned b = usual type.Unsigned b
