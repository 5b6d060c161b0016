-- Typed trees in which no array is named but by its elements (C11 6.3.2.1p3 has no other use of one here).
use Rattle.std.specs.Prelude.{◌&&◌, not, Bool, true, List, [], ◌∷◌, Option, Some, None}
use Rattle.c_tree.specs.declared.typed.TypedExpr.{TypedExpr}
use Rattle.c_tree.specs.declared.typed.TypedExpr.TheOpen.{TypedExpr-F, Comma, Assign, Compound, Conditional, Binary, Unary, Before, After, Constant, Object, Element, Call, Convert}
use Rattle.c_tree.specs.declared.typed.TypedExpr.TheFolds.{fold-TypedExpr}
use Rattle.c_tree.specs.declared.typed.LocalInit.{LocalInit}
use Rattle.c_tree.specs.declared.typed.LocalInit.TheVariants as init
use Rattle.c_tree.specs.declared.typed.Local.{Local}
use Rattle.c_tree.specs.declared.typed.Start.{Start}
use Rattle.c_tree.specs.declared.typed.Start.TheVariants as start
use Rattle.c_tree.specs.declared.typed.Stat.{Stat}
use Rattle.c_tree.specs.declared.typed.Stat.TheOpen as stat
use Rattle.c_tree.specs.declared.typed.Stat.TheFolds.{fold-Stat}
use Rattle.c_tree.specs.declared.typed.Function.{Function}
use Rattle.c_tree.specs.declared.typed.Typed.{Typed}
use Rattle.c_meaning.specs.Run.{kind_in}
use Rattle.naive_run.specs.Sound.{is_array}

abbrev pub or_true : Option Bool → Bool
or_true None = true
or_true (Some b) = b

abbrev pub all_true : List Bool → Bool
all_true [] = true
all_true (b ∷ bs) = b && all_true bs

module _ (t : Typed) (f : Function) where
  abbrev pub names_in : TypedExpr-F Bool → Bool
  names_in (Constant h v) = true
  names_in (Object h x) = not (is_array (kind_in t f x))
  names_in (Element h x i) = i
  names_in (Assign h a b) = a && b
  names_in (Compound h a o b) = a && b
  names_in (Before h o a) = a
  names_in (After h a o) = a
  names_in (Binary h a o b) = a && b
  names_in (Unary h o a) = a
  names_in (Convert h a) = a
  names_in (Comma h a b) = a && b
  names_in (Conditional h a b d) = a && b && d
  names_in (Call h g es) = all_true es

  abbrev pub expression_names : TypedExpr → Bool
  expression_names = fold-TypedExpr Bool names_in

  abbrev pub option_names : Option TypedExpr → Bool
  option_names None = true
  option_names (Some e) = expression_names e

  abbrev pub list_names : List TypedExpr → Bool
  list_names [] = true
  list_names (e ∷ es) = expression_names e && list_names es

  abbrev pub init_names : LocalInit → Bool
  init_names init.Absent = true
  init_names (init.Value e) = expression_names e
  init_names (init.List es) = list_names es

  abbrev pub locals_names : List Local → Bool
  locals_names [] = true
  locals_names (l ∷ ls) = init_names l.init && locals_names ls

  abbrev pub start_names : Start → Bool
  start_names start.Absent = true
  start_names (start.Value e) = expression_names e
  start_names (start.Declared at ls) = locals_names ls

  abbrev pub names_by : stat.Stat-F Bool → Bool
  names_by (stat.Block at ss) = all_true ss
  names_by (stat.Declare at ls) = locals_names ls
  names_by (stat.Evaluate at e) = option_names e
  names_by (stat.If at e a b) = expression_names e && a && or_true b
  names_by (stat.While at e a) = expression_names e && a
  names_by (stat.DoWhile at a e) = a && expression_names e
  names_by (stat.For at first test step a) = start_names first && option_names test && option_names step && a
  names_by (stat.Switch at e ss) = expression_names e && all_true ss
  names_by (stat.Case at v a) = a
  names_by (stat.Default at a) = a
  names_by (stat.Break at) = true
  names_by (stat.Continue at) = true
  names_by (stat.Return at e) = option_names e

  abbrev pub names_scalars : Stat → Bool
  names_scalars = fold-Stat Bool names_by
