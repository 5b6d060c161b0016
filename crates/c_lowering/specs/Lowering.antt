-- LOWERING: operators become calls of helpers, which stand behind the program's functions.
use Rattle.std.specs.Prelude.{ℕ, ◌+◌, List, [], ◌∷◌, ◌++◌, map, length, Option, Some, None, Bool, if◌then◌else◌}
use Rattle.c_tree.specs.declared.types.CType.{CType}
use Rattle.c_tree.specs.declared.types.CType.TheVariants as type
use Rattle.c_tree.specs.declared.syntax.Arithmetic.{Arithmetic}
use Rattle.c_tree.specs.declared.syntax.Arithmetic.TheVariants as arithmetic
use Rattle.c_tree.specs.declared.syntax.BinaryOperator.{BinaryOperator}
use Rattle.c_tree.specs.declared.typed.Head.{Head}
use Rattle.c_tree.specs.declared.typed.Callee.TheVariants as callee
use Rattle.c_tree.specs.declared.typed.Operation.{Operation}
use Rattle.c_tree.specs.declared.typed.Operation.TheVariants as operation
use Rattle.c_tree.specs.declared.typed.TypedExpr.{TypedExpr}
use Rattle.c_tree.specs.declared.typed.TypedExpr.TheVariants as tree
use Rattle.c_tree.specs.declared.typed.TypedExpr.TheOpen.{TypedExpr-F, Comma, Assign, Compound, Conditional, Binary, Unary, Before, After, Constant, Object, Element, Call, Convert}
use Rattle.c_tree.specs.declared.typed.TypedExpr.TheFolds.{fold-TypedExpr}
use Rattle.c_tree.specs.declared.typed.LocalInit.{LocalInit}
use Rattle.c_tree.specs.declared.typed.LocalInit.TheVariants as init
use Rattle.c_tree.specs.declared.typed.Local.{Local}
use Rattle.c_tree.specs.declared.typed.Start.{Start}
use Rattle.c_tree.specs.declared.typed.Start.TheVariants as start
use Rattle.c_tree.specs.declared.typed.Stat.{Stat}
use Rattle.c_tree.specs.declared.typed.Stat.TheVariants as stat
use Rattle.c_tree.specs.declared.typed.Stat.TheOpen as s
use Rattle.c_tree.specs.declared.typed.Stat.TheFolds.{fold-Stat}
use Rattle.c_tree.specs.declared.typed.Function.{Function}
use Rattle.c_tree.specs.declared.typed.Typed.{Typed}
use Rattle.c_meaning.specs.Operators.{Sort, computes, sort_of, computed_in}
use Rattle.c_helpers.specs.declared.operator.Operator.{Operator}
use Rattle.c_helpers.specs.declared.operator.Operator.TheVariants.{Multiply, Divide, DivideUnsigned, Remainder, RemainderUnsigned, ShiftLeft, ShiftRight, ShiftRightUnsigned, Xor}
use Rattle.c_helper_trees.specs.Trees.{function_of}

-- ---- the helpers of a program

-- a set of operators that have helpers
abbrev pub Operators : Type 0
Operators = Operator → Bool

abbrev pub chosen : Operators → List Operator → List Operator
chosen p [] = []
chosen p (o ∷ os) = if p o then o ∷ chosen p os else chosen p os

-- the operators whose helpers stand before that of one, where all have one
abbrev pub before : Operator → List Operator
before Multiply = []
before Divide = Multiply ∷ []
before DivideUnsigned = Multiply ∷ Divide ∷ []
before Remainder = Multiply ∷ Divide ∷ DivideUnsigned ∷ []
before RemainderUnsigned = Multiply ∷ Divide ∷ DivideUnsigned ∷ Remainder ∷ []
before ShiftLeft = Multiply ∷ Divide ∷ DivideUnsigned ∷ Remainder ∷ RemainderUnsigned ∷ []
before ShiftRight = Multiply ∷ Divide ∷ DivideUnsigned ∷ Remainder ∷ RemainderUnsigned ∷ ShiftLeft ∷ []
before ShiftRightUnsigned = Multiply ∷ Divide ∷ DivideUnsigned ∷ Remainder ∷ RemainderUnsigned ∷ ShiftLeft ∷ ShiftRight ∷ []
before Xor = Multiply ∷ Divide ∷ DivideUnsigned ∷ Remainder ∷ RemainderUnsigned ∷ ShiftLeft ∷ ShiftRight ∷ ShiftRightUnsigned ∷ []

abbrev pub all_operators : List Operator
all_operators = before Xor ++ Xor ∷ []

abbrev pub helpers : ℕ → Operators → List Function
helpers w p = map (function_of w) (chosen p all_operators)

-- ---- which helper stands for an operator

abbrev pub signed_helper : Arithmetic → Option Operator
signed_helper arithmetic.Multiply = Some Multiply
signed_helper arithmetic.Divide = Some Divide
signed_helper arithmetic.Remainder = Some Remainder
signed_helper arithmetic.ShiftLeft = Some ShiftLeft
signed_helper arithmetic.ShiftRight = Some ShiftRight
signed_helper arithmetic.Xor = Some Xor
signed_helper _ = None

abbrev pub unsigned_helper : Arithmetic → Option Operator
unsigned_helper arithmetic.Multiply = Some Multiply
unsigned_helper arithmetic.Divide = Some DivideUnsigned
unsigned_helper arithmetic.Remainder = Some RemainderUnsigned
unsigned_helper arithmetic.ShiftLeft = Some ShiftLeft
unsigned_helper arithmetic.ShiftRight = Some ShiftRightUnsigned
unsigned_helper arithmetic.Xor = Some Xor
unsigned_helper _ = None

-- of operands of this type
abbrev pub helper_for : CType → Arithmetic → Option Operator
helper_for type.Unsigned o = unsigned_helper o
helper_for _ o = signed_helper o

-- ---- trees

-- an expression that is lowered, and its type
pub record Lowered : Type 0 where
  pub of : CType
  pub tree : TypedExpr

-- where the operators of a set are lowered, in a program of n functions
module _ (p : Operators) (n : ℕ) where
  abbrev pub if_chosen : Option Operator → Option Operator
  if_chosen None = None
  if_chosen (Some k) = if p k then Some k else None

  abbrev pub wanted : CType → Arithmetic → Option Operator
  wanted t o = if_chosen (helper_for t o)

  abbrev pub wanted_by : CType → Sort → Option Operator
  wanted_by t (computes o) = wanted t o
  wanted_by t _ = None

  -- the number of an operator's helper
  abbrev pub number_of : Operator → ℕ
  number_of k = n + length (chosen p (before k))

  abbrev pub binary_by : Option Operator → Head → TypedExpr → BinaryOperator → TypedExpr → TypedExpr
  binary_by None h a o b = tree.Binary h a o b
  binary_by (Some k) h a o b = tree.Call h (callee.Defined (number_of k)) (a ∷ b ∷ [])

  abbrev pub operation_by : Option Operator → Arithmetic → Operation
  operation_by None o = operation.Operator o
  operation_by (Some k) o = operation.Helper (number_of k)

  abbrev pub operation_of : Operation → CType → CType → Operation
  operation_of (operation.Operator o) t u = operation_by (wanted (computed_in o t u) o) o
  operation_of (operation.Helper f) t u = operation.Helper f

  abbrev pub lowered : Head → TypedExpr → Lowered
  lowered h e = record { of = h.of; tree = e }

  abbrev pub tree_in : Lowered → TypedExpr
  tree_in e = e.tree

  abbrev pub lower_node : TypedExpr-F Lowered → Lowered
  lower_node (Comma h a b) = lowered h (tree.Comma h a.tree b.tree)
  lower_node (Assign h a b) = lowered h (tree.Assign h a.tree b.tree)
  lower_node (Compound h a o b) = lowered h (tree.Compound h a.tree (operation_of o a.of b.of) b.tree)
  lower_node (Conditional h a b c) = lowered h (tree.Conditional h a.tree b.tree c.tree)
  lower_node (Binary h a o b) = lowered h (binary_by (wanted_by a.of (sort_of o)) h a.tree o b.tree)
  lower_node (Unary h o a) = lowered h (tree.Unary h o a.tree)
  lower_node (Before h o a) = lowered h (tree.Before h o a.tree)
  lower_node (After h a o) = lowered h (tree.After h a.tree o)
  lower_node (Constant h v) = lowered h (tree.Constant h v)
  lower_node (Object h x) = lowered h (tree.Object h x)
  lower_node (Element h x i) = lowered h (tree.Element h x i.tree)
  lower_node (Call h f es) = lowered h (tree.Call h f (map tree_in es))
  lower_node (Convert h a) = lowered h (tree.Convert h a.tree)

  abbrev pub lower_expr : TypedExpr → TypedExpr
  lower_expr e = (fold-TypedExpr Lowered lower_node e).tree

  abbrev pub lower_option : Option TypedExpr → Option TypedExpr
  lower_option None = None
  lower_option (Some e) = Some (lower_expr e)

  abbrev pub lower_init : LocalInit → LocalInit
  lower_init init.Absent = init.Absent
  lower_init (init.Value e) = init.Value (lower_expr e)
  lower_init (init.List es) = init.List (map lower_expr es)

  abbrev pub lower_local : Local → Local
  lower_local l = record { number = l.number; init = lower_init l.init }

  abbrev pub lower_start : Start → Start
  lower_start start.Absent = start.Absent
  lower_start (start.Value e) = start.Value (lower_expr e)
  lower_start (start.Declared at ls) = start.Declared at (map lower_local ls)

  abbrev pub lower_statement : s.Stat-F Stat → Stat
  lower_statement (s.Block at ss) = stat.Block at ss
  lower_statement (s.Declare at ls) = stat.Declare at (map lower_local ls)
  lower_statement (s.Evaluate at e) = stat.Evaluate at (lower_option e)
  lower_statement (s.If at e a b) = stat.If at (lower_expr e) a b
  lower_statement (s.While at e a) = stat.While at (lower_expr e) a
  lower_statement (s.DoWhile at a e) = stat.DoWhile at a (lower_expr e)
  lower_statement (s.For at first test step a) = stat.For at (lower_start first) (lower_option test) (lower_option step) a
  lower_statement (s.Switch at e ss) = stat.Switch at (lower_expr e) ss
  lower_statement (s.Case at v a) = stat.Case at v a
  lower_statement (s.Default at a) = stat.Default at a
  lower_statement (s.Break at) = stat.Break at
  lower_statement (s.Continue at) = stat.Continue at
  lower_statement (s.Return at e) = stat.Return at (lower_option e)

  abbrev pub lower_stat : Stat → Stat
  lower_stat = fold-Stat Stat lower_statement

  abbrev pub lower_function : Function → Function
  lower_function f = record { name = f.name; result = f.result; params = f.params; locals = f.locals; body = lower_stat f.body; at = f.at }

abbrev pub lower : Operators → ℕ → Typed → Typed
lower p w t = record { statics = t.statics; functions = map (lower_function p (length t.functions)) t.functions ++ helpers w p }
