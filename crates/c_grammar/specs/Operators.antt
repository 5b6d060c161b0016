-- How operators and types are spelled, and how operators bind (C11 6.5).
use Rattle.std.specs.Prelude.{ℕ, List, [], ◌∷◌}
use Rattle.c_tree.specs.declared.syntax.BinaryOperator.{BinaryOperator}
use Rattle.c_tree.specs.declared.syntax.BinaryOperator.TheVariants as binary
use Rattle.c_tree.specs.declared.syntax.Arithmetic.{Arithmetic}
use Rattle.c_tree.specs.declared.syntax.Arithmetic.TheVariants as arithmetic
use Rattle.c_tree.specs.declared.syntax.AssignOperator.{AssignOperator}
use Rattle.c_tree.specs.declared.syntax.AssignOperator.TheVariants as assign
use Rattle.c_tree.specs.declared.syntax.UnaryOperator.{UnaryOperator}
use Rattle.c_tree.specs.declared.syntax.UnaryOperator.TheVariants as unary
use Rattle.c_tree.specs.declared.syntax.StepOperator.{StepOperator}
use Rattle.c_tree.specs.declared.syntax.StepOperator.TheVariants as step
use Rattle.c_tree.specs.declared.syntax.TypeWords.{TypeWords}
use Rattle.c_tree.specs.declared.syntax.TypeWords.TheVariants as words
use Rattle.c_grammar.specs.declared.sign.Sign.{Sign}
use Rattle.c_grammar.specs.declared.sign.Sign.TheVariants as sign

-- Levels of expressions: 0 expr, 1 assign, 2 conditional, 3 to 12 the binary operators, 13 cast, 14 unary, 15 postfix, 16 primary
abbrev pub precedence : BinaryOperator → ℕ
precedence binary.LogicalOr = 3
precedence binary.LogicalAnd = 4
precedence binary.Or = 5
precedence binary.Xor = 6
precedence binary.And = 7
precedence binary.Equal = 8
precedence binary.NotEqual = 8
precedence binary.Less = 9
precedence binary.Greater = 9
precedence binary.LessEqual = 9
precedence binary.GreaterEqual = 9
precedence binary.ShiftLeft = 10
precedence binary.ShiftRight = 10
precedence binary.Add = 11
precedence binary.Subtract = 11
precedence binary.Multiply = 12
precedence binary.Divide = 12
precedence binary.Remainder = 12

abbrev pub binary_sign : BinaryOperator → Sign
binary_sign binary.LogicalOr = sign.LogicalOr
binary_sign binary.LogicalAnd = sign.LogicalAnd
binary_sign binary.Or = sign.Bar
binary_sign binary.Xor = sign.Caret
binary_sign binary.And = sign.Ampersand
binary_sign binary.Equal = sign.Equal
binary_sign binary.NotEqual = sign.NotEqual
binary_sign binary.Less = sign.Less
binary_sign binary.Greater = sign.Greater
binary_sign binary.LessEqual = sign.LessEqual
binary_sign binary.GreaterEqual = sign.GreaterEqual
binary_sign binary.ShiftLeft = sign.ShiftLeft
binary_sign binary.ShiftRight = sign.ShiftRight
binary_sign binary.Add = sign.Plus
binary_sign binary.Subtract = sign.Minus
binary_sign binary.Multiply = sign.Star
binary_sign binary.Divide = sign.Slash
binary_sign binary.Remainder = sign.Percent

abbrev pub arithmetic_sign : Arithmetic → Sign
arithmetic_sign arithmetic.Add = sign.AssignAdd
arithmetic_sign arithmetic.Subtract = sign.AssignSubtract
arithmetic_sign arithmetic.Multiply = sign.AssignMultiply
arithmetic_sign arithmetic.Divide = sign.AssignDivide
arithmetic_sign arithmetic.Remainder = sign.AssignRemainder
arithmetic_sign arithmetic.And = sign.AssignAnd
arithmetic_sign arithmetic.Xor = sign.AssignXor
arithmetic_sign arithmetic.Or = sign.AssignOr
arithmetic_sign arithmetic.ShiftLeft = sign.AssignShiftLeft
arithmetic_sign arithmetic.ShiftRight = sign.AssignShiftRight

abbrev pub assign_sign : AssignOperator → Sign
assign_sign assign.Plain = sign.Assign
assign_sign (assign.Compound o) = arithmetic_sign o

abbrev pub unary_sign : UnaryOperator → Sign
unary_sign unary.Plus = sign.Plus
unary_sign unary.Minus = sign.Minus
unary_sign unary.Complement = sign.Tilde
unary_sign unary.Not = sign.Exclamation

abbrev pub step_sign : StepOperator → Sign
step_sign step.Increment = sign.Increment
step_sign step.Decrement = sign.Decrement

-- C11 6.7.2
abbrev pub type_signs : TypeWords → List Sign
type_signs words.Char = sign.Char ∷ []
type_signs words.SignedChar = sign.Signed ∷ sign.Char ∷ []
type_signs words.CharSigned = sign.Char ∷ sign.Signed ∷ []
type_signs words.UnsignedChar = sign.Unsigned ∷ sign.Char ∷ []
type_signs words.CharUnsigned = sign.Char ∷ sign.Unsigned ∷ []
type_signs words.Int = sign.Int ∷ []
type_signs words.Signed = sign.Signed ∷ []
type_signs words.SignedInt = sign.Signed ∷ sign.Int ∷ []
type_signs words.IntSigned = sign.Int ∷ sign.Signed ∷ []
type_signs words.Unsigned = sign.Unsigned ∷ []
type_signs words.UnsignedInt = sign.Unsigned ∷ sign.Int ∷ []
type_signs words.IntUnsigned = sign.Int ∷ sign.Unsigned ∷ []
