-- What the nodes of a helper's tree do, by what their parts do.
use Rattle.std.proofs.Common.{◌≡◌, ℕ, List, map, Some, None}
use denote.Hole.Carrier
use Rattle.c_tree.specs.declared.token.At.{At}
use Rattle.c_tree.specs.declared.syntax.BinaryOperator.{BinaryOperator}
use Rattle.c_tree.specs.declared.typed.Variable.{Variable}
use Rattle.c_tree.specs.declared.typed.Head.{Head}
use Rattle.c_tree.specs.declared.typed.TypedExpr.{TypedExpr}
use Rattle.c_tree.specs.declared.typed.TypedExpr.TheVariants as tree
use Rattle.c_tree.specs.declared.typed.TypedExpr.TheOpen as expr
use Rattle.c_tree.specs.declared.typed.TypedExpr.TheViews.{roll-TypedExpr}
use Rattle.c_tree.specs.declared.typed.TypedExpr.TheFolds.{fold-TypedExpr, fold-roll-TypedExpr}
use Rattle.c_tree.specs.declared.typed.Local.{Local}
use Rattle.c_tree.specs.declared.typed.Stat.{Stat}
use Rattle.c_tree.specs.declared.typed.Stat.TheVariants as stat
use Rattle.c_tree.specs.declared.typed.Stat.TheOpen as layer
use Rattle.c_tree.specs.declared.typed.Stat.TheViews.{roll-Stat}
use Rattle.c_tree.specs.declared.typed.Stat.TheFolds.{fold-Stat, fold-roll-Stat}

module _ (A : Type 0) (f : expr.TypedExpr-F A → A) where
  abbrev of : TypedExpr → A
  of = fold-TypedExpr A f

  pub constant_is : (h : Head) (v : ℕ) → fold-TypedExpr A f (tree.Constant h v) ≡ f (expr.Constant h v)
  unfolding roll-TypedExpr denote.Hole.Carrier.roll
  constant_is h v = fold-roll-TypedExpr A f (expr.Constant h v)

  pub object_is : (h : Head) (x : Variable) → fold-TypedExpr A f (tree.Object h x) ≡ f (expr.Object h x)
  unfolding roll-TypedExpr denote.Hole.Carrier.roll
  object_is h x = fold-roll-TypedExpr A f (expr.Object h x)

  pub binary_is : (h : Head) (a : TypedExpr) (o : BinaryOperator) (b : TypedExpr) → fold-TypedExpr A f (tree.Binary h a o b) ≡ f (expr.Binary h (of a) o (of b))
  unfolding roll-TypedExpr denote.Hole.Carrier.roll
  binary_is h a o b = fold-roll-TypedExpr A f (expr.Binary h a o b)

  pub assign_is : (h : Head) (a b : TypedExpr) → fold-TypedExpr A f (tree.Assign h a b) ≡ f (expr.Assign h (of a) (of b))
  unfolding roll-TypedExpr denote.Hole.Carrier.roll
  assign_is h a b = fold-roll-TypedExpr A f (expr.Assign h a b)

module _ (A : Type 0) (f : layer.Stat-F A → A) where
  abbrev within : Stat → A
  within = fold-Stat A f

  pub evaluate_is : (at : At) (e : TypedExpr) → fold-Stat A f (stat.Evaluate at (Some e)) ≡ f (layer.Evaluate at (Some e))
  unfolding roll-Stat denote.Hole.Carrier.roll
  evaluate_is at e = fold-roll-Stat A f (layer.Evaluate at (Some e))

  pub block_is : (at : At) (ss : List Stat) → fold-Stat A f (stat.Block at ss) ≡ f (layer.Block at (map within ss))
  unfolding roll-Stat denote.Hole.Carrier.roll
  block_is at ss = fold-roll-Stat A f (layer.Block at ss)

  pub declare_is : (at : At) (ls : List Local) → fold-Stat A f (stat.Declare at ls) ≡ f (layer.Declare at ls)
  unfolding roll-Stat denote.Hole.Carrier.roll
  declare_is at ls = fold-roll-Stat A f (layer.Declare at ls)

  pub if_is : (at : At) (e : TypedExpr) (a : Stat) → fold-Stat A f (stat.If at e a None) ≡ f (layer.If at e (within a) None)
  unfolding roll-Stat denote.Hole.Carrier.roll
  if_is at e a = fold-roll-Stat A f (layer.If at e a None)

  pub while_is : (at : At) (e : TypedExpr) (a : Stat) → fold-Stat A f (stat.While at e a) ≡ f (layer.While at e (within a))
  unfolding roll-Stat denote.Hole.Carrier.roll
  while_is at e a = fold-roll-Stat A f (layer.While at e a)

  pub return_is : (at : At) (e : TypedExpr) → fold-Stat A f (stat.Return at (Some e)) ≡ f (layer.Return at (Some e))
  unfolding roll-Stat denote.Hole.Carrier.roll
  return_is at e = fold-roll-Stat A f (layer.Return at (Some e))
