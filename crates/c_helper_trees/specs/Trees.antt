-- The helpers as functions of the typed tree.
use Rattle.std.specs.Prelude.{ℕ, zero, suc, ◌+◌, List, [], ◌∷◌, length, Some, None, codes}
use Rattle.c_tree.specs.declared.token.At.{At}
use Rattle.c_tree.specs.declared.types.CType.TheVariants as type
use Rattle.c_tree.specs.declared.syntax.BinaryOperator.{BinaryOperator}
use Rattle.c_tree.specs.declared.syntax.BinaryOperator.TheVariants as binary
use Rattle.c_tree.specs.declared.typed.Variable.{Variable}
use Rattle.c_tree.specs.declared.typed.Variable.TheVariants as variable
use Rattle.c_tree.specs.declared.typed.Head.{Head}
use Rattle.c_tree.specs.declared.typed.Object.{Object}
use Rattle.c_tree.specs.declared.typed.TypedExpr.{TypedExpr}
use Rattle.c_tree.specs.declared.typed.TypedExpr.TheVariants as tree
use Rattle.c_tree.specs.declared.typed.LocalInit.TheVariants as init
use Rattle.c_tree.specs.declared.typed.Local.{Local}
use Rattle.c_tree.specs.declared.typed.Stat.{Stat}
use Rattle.c_tree.specs.declared.typed.Stat.TheVariants as stat
use Rattle.c_tree.specs.declared.typed.Function.{Function}
use Rattle.c_helpers.specs.Code as code
use Rattle.c_helpers.specs.Code.{◌then◌}
use Rattle.c_helpers.specs.declared.operator.Operator.{Operator}
use Rattle.c_helpers.specs.declared.operator.Operator.TheVariants.{Multiply, Divide, DivideUnsigned, Remainder, RemainderUnsigned, ShiftLeft, ShiftRight, ShiftRightUnsigned, Xor}
use Rattle.c_helpers.specs.Operators.{helper_of}

-- nothing is told of a helper
abbrev pub origin : At
origin = record { line = 1; column = 1 }

abbrev pub word_head : Head
word_head = record { of = type.Unsigned; at = origin }

abbrev pub int_head : Head
int_head = record { of = type.Int; at = origin }

abbrev pub variable_of : ℕ → Variable
variable_of zero = variable.Parameter 0
variable_of (suc zero) = variable.Parameter 1
variable_of (suc (suc k)) = variable.Local k

abbrev pub operator_of : code.Basic → BinaryOperator
operator_of code.plus = binary.Add
operator_of code.minus = binary.Subtract
operator_of code.both = binary.And
operator_of code.either = binary.Or

abbrev pub term_tree : code.Term → TypedExpr
term_tree (code.number n) = tree.Constant word_head n
term_tree (code.variable x) = tree.Object word_head (variable_of x)
term_tree (code.combine o s t) = tree.Binary word_head (term_tree s) (operator_of o) (term_tree t)

abbrev pub test_tree : code.Test → TypedExpr
test_tree (code.is_set t) = term_tree t
test_tree (code.at_least s t) = tree.Binary int_head (term_tree s) binary.GreaterEqual (term_tree t)
test_tree (code.above s t) = tree.Binary int_head (term_tree s) binary.Greater (term_tree t)

abbrev pub code_tree : code.Code → Stat
code_tree (code.put x t) = stat.Evaluate origin (Some (tree.Assign word_head (tree.Object word_head (variable_of x)) (term_tree t)))
code_tree (p then q) = stat.Block origin (code_tree p ∷ code_tree q ∷ [])
code_tree (code.when t p) = stat.If origin (test_tree t) (code_tree p) None
code_tree (code.while t p) = stat.While origin (test_tree t) (code_tree p)

-- the declaration of the locals from the k-th on
abbrev pub locals : ℕ → List ℕ → List Local
locals k [] = []
locals k (v ∷ vs) = record { number = k; init = init.Value (tree.Constant word_head v) } ∷ locals (suc k) vs

abbrev pub body_of : code.Helper → Stat
body_of h = stat.Block origin (stat.Declare origin (locals 0 h.inits) ∷ code_tree h.code ∷ stat.Return origin (Some (term_tree h.result)) ∷ [])

-- variables are named from `a` on
abbrev pub object : ℕ → Object
object k = record { name = (97 + k) ∷ []; element = type.Unsigned; length = None; at = origin }

-- so many variables from the k-th on
abbrev pub objects : ℕ → ℕ → List Object
objects k zero = []
objects k (suc n) = object k ∷ objects (suc k) n

abbrev pub name_of : Operator → List ℕ
name_of Multiply = codes "__mul"
name_of Divide = codes "__div"
name_of DivideUnsigned = codes "__divu"
name_of Remainder = codes "__rem"
name_of RemainderUnsigned = codes "__remu"
name_of ShiftLeft = codes "__shl"
name_of ShiftRight = codes "__shr"
name_of ShiftRightUnsigned = codes "__shru"
name_of Xor = codes "__xor"

abbrev pub function_by : List ℕ → code.Helper → Function
function_by name h = record { name = name; result = type.Unsigned; params = objects 0 2; locals = objects 2 (length h.inits); body = body_of h; at = origin }

abbrev pub function_of : ℕ → Operator → Function
function_of w o = function_by (name_of o) (helper_of w o)
