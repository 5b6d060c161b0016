-- Small typed programs of one line, for the worked runs.
use Rattle.std.specs.Prelude.{ℕ, List, [], ◌∷◌, Option, Some, None, codes}
use Rattle.c_tree.specs.declared.token.At.{At}
use Rattle.c_tree.specs.declared.types.CType.{CType}
use Rattle.c_tree.specs.declared.types.CType.TheVariants as type
use Rattle.c_tree.specs.declared.syntax.Arithmetic.{Arithmetic}
use Rattle.c_tree.specs.declared.syntax.BinaryOperator.{BinaryOperator}
use Rattle.c_tree.specs.declared.syntax.UnaryOperator.TheVariants as unary
use Rattle.c_tree.specs.declared.syntax.StepOperator.{StepOperator}
use Rattle.c_tree.specs.declared.typed.Variable.TheVariants as variable
use Rattle.c_tree.specs.declared.typed.Head.{Head}
use Rattle.c_tree.specs.declared.typed.Object.{Object}
use Rattle.c_tree.specs.declared.typed.Callee.{Callee}
use Rattle.c_tree.specs.declared.typed.Operation.TheVariants as operation
use Rattle.c_tree.specs.declared.typed.LocalInit.{LocalInit}
use Rattle.c_tree.specs.declared.typed.Start.TheVariants as start
use Rattle.c_tree.specs.declared.typed.TypedExpr.{TypedExpr}
use Rattle.c_tree.specs.declared.typed.TypedExpr.TheOpen as expr
use Rattle.c_tree.specs.declared.typed.TypedExpr.TheViews.{roll-TypedExpr}
use Rattle.c_tree.specs.declared.typed.Stat.{Stat}
use Rattle.c_tree.specs.declared.typed.Stat.TheOpen as stat
use Rattle.c_tree.specs.declared.typed.Stat.TheViews.{roll-Stat}
use Rattle.c_tree.specs.declared.typed.Function.{Function}
use Rattle.c_tree.specs.declared.typed.Typed.{Typed}
use Rattle.behaviour.specs.Behaviour.{Behaviour, Failed, Undefined}
use Rattle.behaviour.specs.Run.{Run}
use Rattle.c_meaning.specs.Parts.{Setting}
use Rattle.c_meaning.specs.Settings.{setting_of}
use Rattle.c_meaning.specs.Run.{source_run}

abbrev pub column : ℕ → At
column c = record { line = 1; column = c }

-- places that nothing tells
abbrev pub somewhere : At
somewhere = column 1

-- ---- expressions, each with its column

abbrev pub of_int : ℕ → Head
of_int c = record { of = type.Int; at = column c }

abbrev pub number : ℕ → ℕ → TypedExpr
number c v = roll-TypedExpr (expr.Constant (of_int c) v)

abbrev pub unsigned : ℕ → ℕ → TypedExpr
unsigned c v = roll-TypedExpr (expr.Constant (record { of = type.Unsigned; at = column c }) v)

abbrev pub minus : ℕ → TypedExpr → TypedExpr
minus c a = roll-TypedExpr (expr.Unary (of_int c) unary.Minus a)

abbrev pub local : ℕ → ℕ → TypedExpr
local c x = roll-TypedExpr (expr.Object (of_int c) (variable.Local x))

abbrev pub element : ℕ → ℕ → TypedExpr → TypedExpr
element c x i = roll-TypedExpr (expr.Element (of_int c) (variable.Local x) i)

abbrev pub two : ℕ → TypedExpr → BinaryOperator → TypedExpr → TypedExpr
two c a o b = roll-TypedExpr (expr.Binary (of_int c) a o b)

abbrev pub assign : ℕ → TypedExpr → TypedExpr → TypedExpr
assign c a b = roll-TypedExpr (expr.Assign (of_int c) a b)

abbrev pub compound : ℕ → TypedExpr → Arithmetic → TypedExpr → TypedExpr
compound c a o b = roll-TypedExpr (expr.Compound (of_int c) a (operation.Operator o) b)

abbrev pub before : ℕ → StepOperator → TypedExpr → TypedExpr
before c o a = roll-TypedExpr (expr.Before (of_int c) o a)

abbrev pub convert : CType → TypedExpr → TypedExpr
convert t a = roll-TypedExpr (expr.Convert (record { of = t; at = somewhere }) a)

abbrev pub call : ℕ → Callee → List TypedExpr → TypedExpr
call c f es = roll-TypedExpr (expr.Call (of_int c) f es)

-- ---- statements

abbrev pub evaluate : TypedExpr → Stat
evaluate e = roll-Stat (stat.Evaluate somewhere (Some e))

abbrev pub return : TypedExpr → Stat
return e = roll-Stat (stat.Return somewhere (Some e))

abbrev pub block : List Stat → Stat
block ss = roll-Stat (stat.Block somewhere ss)

abbrev pub declares : ℕ → LocalInit → Stat
declares x i = roll-Stat (stat.Declare somewhere (record { number = x; init = i } ∷ []))

abbrev pub when : TypedExpr → Stat → Stat
when e a = roll-Stat (stat.If somewhere e a None)

abbrev pub forever : Stat → Stat
forever a = roll-Stat (stat.For somewhere start.Absent None None a)

abbrev pub while : TypedExpr → Stat → Stat
while e a = roll-Stat (stat.While somewhere e a)

abbrev pub case : ℕ → Stat → Stat
case v a = roll-Stat (stat.Case somewhere v a)

abbrev pub default : Stat → Stat
default a = roll-Stat (stat.Default somewhere a)

abbrev pub switch : TypedExpr → List Stat → Stat
switch e ss = roll-Stat (stat.Switch somewhere e ss)

-- ---- programs

abbrev pub object : CType → Option ℕ → Object
object t length = record { name = []; element = t; length = length; at = somewhere }

abbrev pub function : List ℕ → List Object → List Object → List Stat → Function
function name params locals body = record { name = name; result = type.Int; params = params; locals = locals; body = block body; at = somewhere }

abbrev pub main : List Object → List Stat → Function
main locals body = function (codes "main") [] locals body

abbrev pub program : List Function → Typed
program fs = record { statics = []; functions = fs }

abbrev pub main_alone : List Object → List Stat → Typed
main_alone locals body = program (main locals body ∷ [])

-- words of 16 bits, and a stack of 476 bytes: 256, 52 for `int main(void){return f();}`, and 56 for each of three calls
abbrev pub small : Setting
small = setting_of [] 16 476

abbrev pub run : Typed → Run
run t = source_run small t []

abbrev pub undefined_at : ℕ → ℕ → Behaviour
undefined_at act c = Failed [] (Undefined act 1 c)
