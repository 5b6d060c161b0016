-- Which operators that have helpers stand in a tree, between two operands or in a compound assignment.
use Rattle.std.specs.Prelude.{ℕ, List, [], ◌∷◌, Option, Some, None, Bool, true, false, not, ◌&&◌, ◌||◌}
use Rattle.std.specs.List.{list_all}
use Rattle.c_tree.specs.Heads.{head_in}
use Rattle.c_tree.specs.declared.types.CType.{CType}
use Rattle.c_tree.specs.declared.typed.Operation.{Operation}
use Rattle.c_tree.specs.declared.typed.Operation.TheVariants as operation
use Rattle.c_tree.specs.declared.typed.TypedExpr.{TypedExpr}
use Rattle.c_tree.specs.declared.typed.TypedExpr.TheOpen.{TypedExpr-F, Comma, Assign, Compound, Conditional, Binary, Unary, Before, After, Constant, Object, Element, Call, Convert}
use Rattle.c_tree.specs.declared.typed.TypedExpr.TheFolds.{fold-TypedExpr}
use Rattle.c_tree.specs.declared.typed.LocalInit.{LocalInit}
use Rattle.c_tree.specs.declared.typed.LocalInit.TheVariants as init
use Rattle.c_tree.specs.declared.typed.Local.{Local}
use Rattle.c_tree.specs.declared.typed.Start.{Start}
use Rattle.c_tree.specs.declared.typed.Start.TheVariants as start
use Rattle.c_tree.specs.declared.typed.Stat.{Stat}
use Rattle.c_tree.specs.declared.typed.Stat.TheOpen as s
use Rattle.c_tree.specs.declared.typed.Stat.TheFolds.{fold-Stat}
use Rattle.c_tree.specs.declared.typed.Function.{Function}
use Rattle.c_tree.specs.declared.typed.Typed.{Typed}
use Rattle.c_meaning.specs.Operators.{Sort, computes, sort_of, computed_in}
use Rattle.c_helpers.specs.declared.operator.Operator.{Operator}
use Rattle.c_lowering.specs.Lowering.{Operators, helper_for}

-- an expression's type, and whether all of its operators that have helpers are of the set
pub record Held : Type 0 where
  pub of : CType
  pub held : Bool

module _ (q : Operators) where
  abbrev pub is_held : Option Operator → Bool
  is_held None = true
  is_held (Some k) = q k

  abbrev pub held_by : CType → Sort → Bool
  held_by t (computes o) = is_held (helper_for t o)
  held_by t _ = true

  abbrev pub held_operation : Operation → CType → CType → Bool
  held_operation (operation.Operator o) t u = is_held (helper_for (computed_in o t u) o)
  held_operation (operation.Helper f) t u = true

  abbrev pub all_held : List Held → Bool
  all_held [] = true
  all_held (e ∷ es) = e.held && all_held es

  abbrev pub node_held : TypedExpr-F Held → Bool
  node_held (Comma h a b) = a.held && b.held
  node_held (Assign h a b) = a.held && b.held
  node_held (Compound h a o b) = held_operation o a.of b.of && (a.held && b.held)
  node_held (Conditional h a b c) = a.held && (b.held && c.held)
  node_held (Binary h a o b) = held_by a.of (sort_of o) && (a.held && b.held)
  node_held (Unary h o a) = a.held
  node_held (Before h o a) = a.held
  node_held (After h a o) = a.held
  node_held (Constant h v) = true
  node_held (Object h x) = true
  node_held (Element h x i) = i.held
  node_held (Call h f es) = all_held es
  node_held (Convert h a) = a.held

  abbrev pub expression_held : TypedExpr-F Held → Held
  expression_held y = record { of = (head_in y).of; held = node_held y }

  abbrev pub holds : TypedExpr → Bool
  holds e = (fold-TypedExpr Held expression_held e).held

  abbrev pub option_holds : Option TypedExpr → Bool
  option_holds None = true
  option_holds (Some e) = holds e

  abbrev pub list_holds : List TypedExpr → Bool
  list_holds [] = true
  list_holds (e ∷ es) = holds e && list_holds es

  abbrev pub init_holds : LocalInit → Bool
  init_holds init.Absent = true
  init_holds (init.Value e) = holds e
  init_holds (init.List es) = list_holds es

  abbrev pub locals_hold : List Local → Bool
  locals_hold [] = true
  locals_hold (l ∷ ls) = init_holds l.init && locals_hold ls

  abbrev pub start_holds : Start → Bool
  start_holds start.Absent = true
  start_holds (start.Value e) = holds e
  start_holds (start.Declared at ls) = locals_hold ls

  abbrev pub all : List Bool → Bool
  all [] = true
  all (b ∷ bs) = b && all bs

  abbrev pub or_true : Option Bool → Bool
  or_true None = true
  or_true (Some b) = b

  abbrev pub statement_held : s.Stat-F Bool → Bool
  statement_held (s.Block at bs) = all bs
  statement_held (s.Declare at ls) = locals_hold ls
  statement_held (s.Evaluate at e) = option_holds e
  statement_held (s.If at e a b) = holds e && (a && or_true b)
  statement_held (s.While at e a) = holds e && a
  statement_held (s.DoWhile at a e) = holds e && a
  statement_held (s.For at first test step a) = (start_holds first && option_holds test) && (option_holds step && a)
  statement_held (s.Switch at e bs) = all bs && holds e
  statement_held (s.Case at v a) = a
  statement_held (s.Default at a) = a
  statement_held (s.Break at) = true
  statement_held (s.Continue at) = true
  statement_held (s.Return at e) = option_holds e

  abbrev pub body_holds : Stat → Bool
  body_holds = fold-Stat Bool statement_held

  abbrev pub functions_hold : List Function → Bool
  functions_hold [] = true
  functions_hold (f ∷ fs) = body_holds f.body && functions_hold fs

-- each operator in a program that has a helper is of the set
abbrev pub holds_only : Operators → Typed → Bool
holds_only q t = functions_hold q t.functions
