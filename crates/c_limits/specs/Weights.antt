-- What expressions, statements and functions weigh: no fewer than the transfers of their plain code.
use Rattle.std.specs.Prelude.{ℕ, ◌+◌, ◌*◌, List, [], ◌∷◌, length, map, Option, Some, None, nat_lt, if◌then◌else◌, slice_get}
use Rattle.c_tree.specs.declared.types.CType.{CType}
use Rattle.c_tree.specs.declared.types.CType.TheVariants as type
use Rattle.c_tree.specs.declared.syntax.Arithmetic.{Arithmetic}
use Rattle.c_tree.specs.declared.syntax.Arithmetic.TheVariants as arithmetic
use Rattle.c_tree.specs.declared.syntax.BinaryOperator.{BinaryOperator}
use Rattle.c_tree.specs.declared.syntax.BinaryOperator.TheVariants as binary
use Rattle.c_tree.specs.declared.syntax.UnaryOperator.{UnaryOperator}
use Rattle.c_tree.specs.declared.syntax.UnaryOperator.TheVariants as unary
use Rattle.c_tree.specs.declared.typed.Variable.{Variable}
use Rattle.c_tree.specs.declared.typed.Variable.TheVariants as variable
use Rattle.c_tree.specs.declared.typed.Operation.{Operation}
use Rattle.c_tree.specs.declared.typed.Operation.TheVariants as operation
use Rattle.c_tree.specs.declared.typed.Object.{Object}
use Rattle.c_tree.specs.declared.typed.TypedExpr.{TypedExpr}
use Rattle.c_tree.specs.declared.typed.TypedExpr.TheOpen.{TypedExpr-F, Comma, Assign, Compound, Conditional, Binary, Unary, Before, After, Constant, Object as Named, Element, Call, Convert}
use Rattle.c_tree.specs.declared.typed.TypedExpr.TheFolds.{fold-TypedExpr}
use Rattle.c_tree.specs.declared.typed.LocalInit.{LocalInit}
use Rattle.c_tree.specs.declared.typed.LocalInit.TheVariants as init
use Rattle.c_tree.specs.declared.typed.Local.{Local}
use Rattle.c_tree.specs.declared.typed.Start.{Start}
use Rattle.c_tree.specs.declared.typed.Start.TheVariants as start
use Rattle.c_tree.specs.declared.typed.Stat.{Stat}
use Rattle.c_tree.specs.declared.typed.Stat.TheOpen as stat
use Rattle.c_tree.specs.declared.typed.Stat.TheFolds.{fold-Stat}
use Rattle.c_tree.specs.declared.typed.Function.{Function}
use Rattle.c_limits.specs.declared.weight.Place.{Place}
use Rattle.c_limits.specs.declared.weight.Place.TheVariants as place
use Rattle.c_limits.specs.declared.weight.Weight.{Weight}
use Rattle.c_limits.specs.Sums.{or_0, total}

-- ---- places

-- a parameter is local
abbrev pub place_of : Variable → Place
place_of (variable.Static x) = place.Static
place_of (variable.Parameter x) = place.Local
place_of (variable.Local x) = place.Local

abbrev pub read_weight : Place → ℕ
read_weight place.Local = 1
read_weight place.Static = 2
read_weight place.Element = 12
read_weight place.None = 0

abbrev pub assigned_weight : Place → ℕ
assigned_weight place.Local = 2
assigned_weight place.Static = 3
assigned_weight place.Element = 12
assigned_weight place.None = 0

-- ---- operators

abbrev pub arithmetic_weight : Arithmetic → ℕ
arithmetic_weight arithmetic.Add = 2
arithmetic_weight arithmetic.Subtract = 2
arithmetic_weight arithmetic.And = 2
arithmetic_weight arithmetic.Or = 2
arithmetic_weight _ = 6

-- helpers stand for operators of weight 6
abbrev pub operation_weight : Operation → ℕ
operation_weight (operation.Operator o) = arithmetic_weight o
operation_weight (operation.Helper f) = 6

abbrev pub binary_weight : BinaryOperator → ℕ
binary_weight binary.Add = 2
binary_weight binary.Subtract = 2
binary_weight binary.And = 2
binary_weight binary.Or = 2
binary_weight binary.Multiply = 6
binary_weight binary.Divide = 6
binary_weight binary.Remainder = 6
binary_weight binary.ShiftLeft = 6
binary_weight binary.ShiftRight = 6
binary_weight binary.Xor = 6
binary_weight _ = 8

abbrev pub unary_weight : UnaryOperator → ℕ
unary_weight unary.Plus = 0
unary_weight unary.Minus = 2
unary_weight unary.Complement = 2
unary_weight unary.Not = 8

abbrev pub conversion_weight : CType → ℕ
conversion_weight type.Schar = 8
conversion_weight type.Uchar = 3
conversion_weight _ = 0

-- ---- expressions

abbrev pub value : ℕ → Weight
value total = record { place = place.None; inside = 0; total = total }

-- an object or an element, and the weight of its index
abbrev pub named : Place → ℕ → Weight
named p index = record { place = p; inside = index; total = read_weight p + index }

-- an assignment that computes: read, operator, assignment, and 4 more; an element's index counts once
abbrev pub changed : Weight → ℕ → ℕ
changed a operator = assigned_weight a.place + read_weight a.place + operator + 4 + a.inside

-- a weight of each, beside its own
abbrev pub each : ℕ → List Weight → ℕ
each n [] = 0
each n (a ∷ rest) = n + a.total + each n rest

abbrev pub expression_weight : TypedExpr-F Weight → Weight
expression_weight (Constant h v) = value 1
expression_weight (Named h x) = named (place_of x) 0
expression_weight (Element h x i) = named place.Element i.total
expression_weight (Assign h a b) = value (assigned_weight a.place + a.inside + b.total)
expression_weight (Compound h a o b) = value (changed a (operation_weight o) + b.total)
expression_weight (Before h o a) = value (changed a 2)
expression_weight (After h a o) = value (changed a 2)
expression_weight (Binary h a o b) = value (binary_weight o + a.total + b.total)
expression_weight (Unary h o a) = value (unary_weight o + a.total)
expression_weight (Convert h a) = value (conversion_weight h.of + a.total)
expression_weight (Comma h a b) = value (a.total + b.total)
expression_weight (Conditional h a b c) = value (8 + a.total + b.total + c.total)
expression_weight (Call h f es) = value (6 + each 1 es)

abbrev pub weight_in : TypedExpr → Weight
weight_in = fold-TypedExpr Weight expression_weight

abbrev pub expr_weight : TypedExpr → ℕ
expr_weight e = (weight_in e).total

abbrev pub each_of : ℕ → List TypedExpr → ℕ
each_of n es = each n (map weight_in es)

abbrev pub option_weight : Option TypedExpr → ℕ
option_weight None = 0
option_weight (Some e) = expr_weight e

-- ---- statements

abbrev pub length_of : Option Object → ℕ
length_of None = 0
length_of (Some o) = or_0 o.length

-- a scalar's initialiser weighs as an assignment; an array's 12 for each element, and 24 more where it lists fewer than all
abbrev pub init_weight : (size : ℕ) → LocalInit → ℕ
init_weight size init.Absent = 0
init_weight size (init.Value e) = assigned_weight place.Local + expr_weight e
init_weight size (init.List es) = each_of 12 es + (if nat_lt (length es) size then 24 else 0)

module _ (locals : List Object) where
  abbrev pub local_weight : Local → ℕ
  local_weight l = init_weight (length_of (slice_get locals l.number)) l.init

  abbrev pub locals_weight : List Local → ℕ
  locals_weight [] = 0
  locals_weight (l ∷ ls) = local_weight l + locals_weight ls

  abbrev pub start_weight : Start → ℕ
  start_weight start.Absent = 0
  start_weight (start.Value e) = expr_weight e
  start_weight (start.Declared at ls) = locals_weight ls

-- a return brings back each register that is kept over calls
module _ (kept : List ℕ) (locals : List Object) where
  abbrev pub statement_weight : stat.Stat-F ℕ → ℕ
  statement_weight (stat.Block at ss) = total ss
  statement_weight (stat.Declare at ls) = locals_weight locals ls
  statement_weight (stat.Evaluate at e) = 1 + option_weight e
  statement_weight (stat.If at e a b) = 8 + expr_weight e + a + or_0 b
  statement_weight (stat.While at e a) = 10 + expr_weight e + a
  statement_weight (stat.DoWhile at a e) = 10 + a + expr_weight e
  statement_weight (stat.For at first test step a) = 10 + start_weight locals first + option_weight test + option_weight step + a
  statement_weight (stat.Switch at e ss) = 6 + expr_weight e + total ss
  -- 4 of the switch for each of its cases
  statement_weight (stat.Case at v a) = 4 + a
  statement_weight (stat.Default at a) = a
  statement_weight (stat.Break at) = 1
  statement_weight (stat.Continue at) = 1
  statement_weight (stat.Return at e) = 4 + length kept + option_weight e

  abbrev pub stat_weight : Stat → ℕ
  stat_weight = fold-Stat ℕ statement_weight

  abbrev pub block_weight : List Stat → ℕ
  block_weight ss = total (map stat_weight ss)

  abbrev pub else_weight : Option Stat → ℕ
  else_weight None = 0
  else_weight (Some s) = stat_weight s

-- 16 of the 48 are for the passes; each kept register is saved at entry, and brought back at the end
abbrev pub function_weight : (kept : List ℕ) → Function → ℕ
function_weight kept f = 48 + 2 * length f.params + 2 * length kept + stat_weight kept f.locals f.body
