-- What is asked of a tree while it is read, and which operator or type a sign stands for.
use Rattle.std.specs.Prelude.{Bool, true, false, Option, Some, None}
use Rattle.c_tree.specs.declared.syntax.Expr.{Expr, out-Expr}
use Rattle.c_tree.specs.declared.syntax.Expr.TheOpen.{Expr-F, Comma, Assign, Conditional, Binary, Cast, Unary, Before, After, Name, Element, Call, Number, Character, Paren}
use Rattle.c_tree.specs.declared.syntax.BinaryOperator.{BinaryOperator}
use Rattle.c_tree.specs.declared.syntax.BinaryOperator.TheVariants as binary
use Rattle.c_tree.specs.declared.syntax.Arithmetic.TheVariants as arithmetic
use Rattle.c_tree.specs.declared.syntax.AssignOperator.{AssignOperator}
use Rattle.c_tree.specs.declared.syntax.AssignOperator.TheVariants as assign
use Rattle.c_tree.specs.declared.syntax.TypeWords.{TypeWords}
use Rattle.c_tree.specs.declared.syntax.TypeWords.TheVariants as words
use Rattle.c_grammar.specs.declared.sign.Sign.{Sign}
use Rattle.c_grammar.specs.declared.sign.Sign.TheVariants as sign

abbrev pub is_unary_in : {A : Type 0} → Expr-F A → Bool
is_unary_in (Comma at a b) = false
is_unary_in (Assign at a o b) = false
is_unary_in (Conditional at a b c) = false
is_unary_in (Binary at a o b) = false
is_unary_in (Cast at w e) = false
is_unary_in _ = true

-- a unary expression (C11 6.5.3), which may stand on the left of an assignment
unfoldable pub is_unary : Expr → Bool
is_unary e = is_unary_in (out-Expr e)

unfoldable pub binary_of : Sign → Option BinaryOperator
binary_of sign.LogicalOr = Some binary.LogicalOr
binary_of sign.LogicalAnd = Some binary.LogicalAnd
binary_of sign.Bar = Some binary.Or
binary_of sign.Caret = Some binary.Xor
binary_of sign.Ampersand = Some binary.And
binary_of sign.Equal = Some binary.Equal
binary_of sign.NotEqual = Some binary.NotEqual
binary_of sign.Less = Some binary.Less
binary_of sign.Greater = Some binary.Greater
binary_of sign.LessEqual = Some binary.LessEqual
binary_of sign.GreaterEqual = Some binary.GreaterEqual
binary_of sign.ShiftLeft = Some binary.ShiftLeft
binary_of sign.ShiftRight = Some binary.ShiftRight
binary_of sign.Plus = Some binary.Add
binary_of sign.Minus = Some binary.Subtract
binary_of sign.Star = Some binary.Multiply
binary_of sign.Slash = Some binary.Divide
binary_of sign.Percent = Some binary.Remainder
binary_of _ = None

unfoldable pub assign_of : Sign → Option AssignOperator
assign_of sign.Assign = Some assign.Plain
assign_of sign.AssignAdd = Some (assign.Compound arithmetic.Add)
assign_of sign.AssignSubtract = Some (assign.Compound arithmetic.Subtract)
assign_of sign.AssignMultiply = Some (assign.Compound arithmetic.Multiply)
assign_of sign.AssignDivide = Some (assign.Compound arithmetic.Divide)
assign_of sign.AssignRemainder = Some (assign.Compound arithmetic.Remainder)
assign_of sign.AssignAnd = Some (assign.Compound arithmetic.And)
assign_of sign.AssignXor = Some (assign.Compound arithmetic.Xor)
assign_of sign.AssignOr = Some (assign.Compound arithmetic.Or)
assign_of sign.AssignShiftLeft = Some (assign.Compound arithmetic.ShiftLeft)
assign_of sign.AssignShiftRight = Some (assign.Compound arithmetic.ShiftRight)
assign_of _ = None

-- the type that the word alone stands for
unfoldable pub type_of : Sign → Option TypeWords
type_of sign.Char = Some words.Char
type_of sign.Int = Some words.Int
type_of sign.Signed = Some words.Signed
type_of sign.Unsigned = Some words.Unsigned
type_of _ = None

-- the type with this word behind it
unfoldable pub joined : TypeWords → Sign → Option TypeWords
joined words.Char sign.Signed = Some words.CharSigned
joined words.Char sign.Unsigned = Some words.CharUnsigned
joined words.Int sign.Signed = Some words.IntSigned
joined words.Int sign.Unsigned = Some words.IntUnsigned
joined words.Signed sign.Char = Some words.SignedChar
joined words.Signed sign.Int = Some words.SignedInt
joined words.Unsigned sign.Char = Some words.UnsignedChar
joined words.Unsigned sign.Int = Some words.UnsignedInt
joined _ _ = None

-- a declaration begins with this word
unfoldable pub begins_declaration : Sign → Bool
begins_declaration sign.Void = true
begins_declaration sign.Char = true
begins_declaration sign.Int = true
begins_declaration sign.Signed = true
begins_declaration sign.Unsigned = true
begins_declaration _ = false
