-- Three folds whose steps keep a relation give related values: for expressions and for statements.
use Rattle.std.proofs.Common.{◌≡◌, Some, None, ap, sym, refl, ◌∙◌, subst}
use mathlib.Core.List.{map-map}
use Rattle.c_tree.specs.declared.typed.TypedExpr.{TypedExpr}
use Rattle.c_tree.specs.declared.typed.TypedExpr.TheOpen as expr
use Rattle.c_tree.specs.declared.typed.TypedExpr.TheOpen.{TypedExpr-F}
use Rattle.c_tree.specs.declared.typed.TypedExpr.TheViews.{roll-TypedExpr}
use Rattle.c_tree.specs.declared.typed.TypedExpr.TheFolds.{fold-TypedExpr, fold-roll-TypedExpr, ind-TypedExpr, map-TypedExpr}
use Rattle.c_tree.specs.declared.typed.Stat.{Stat}
use Rattle.c_tree.specs.declared.typed.Stat.TheOpen as stat
use Rattle.c_tree.specs.declared.typed.Stat.TheOpen.{Stat-F}
use Rattle.c_tree.specs.declared.typed.Stat.TheViews.{roll-Stat}
use Rattle.c_tree.specs.declared.typed.Stat.TheFolds.{fold-Stat, fold-roll-Stat, ind-Stat, map-Stat}

module _ (X Y Z : Type 0) (f : X → Y) (g : Y → Z) where
  expression_twice : (x : TypedExpr-F X) → map-TypedExpr Y Z g (map-TypedExpr X Y f x) ≡ map-TypedExpr X Z (λ e. g (f e)) x
  expression_twice (expr.Comma h a b) = refl
  expression_twice (expr.Assign h a b) = refl
  expression_twice (expr.Compound h a o b) = refl
  expression_twice (expr.Conditional h a b c) = refl
  expression_twice (expr.Binary h a o b) = refl
  expression_twice (expr.Unary h o a) = refl
  expression_twice (expr.Before h o a) = refl
  expression_twice (expr.After h a o) = refl
  expression_twice (expr.Constant h v) = refl
  expression_twice (expr.Object h x) = refl
  expression_twice (expr.Element h x a) = refl
  expression_twice (expr.Call h c es) = ap (expr.Call h c) (map-map g f es)
  expression_twice (expr.Convert h a) = refl

  statement_twice : (x : Stat-F X) → map-Stat Y Z g (map-Stat X Y f x) ≡ map-Stat X Z (λ e. g (f e)) x
  statement_twice (stat.Block at ss) = ap (stat.Block at) (map-map g f ss)
  statement_twice (stat.Declare at ls) = refl
  statement_twice (stat.Evaluate at e) = refl
  statement_twice (stat.If at e a None) = refl
  statement_twice (stat.If at e a (Some b)) = refl
  statement_twice (stat.While at e a) = refl
  statement_twice (stat.DoWhile at a e) = refl
  statement_twice (stat.For at s t u a) = refl
  statement_twice (stat.Switch at e ss) = ap (stat.Switch at e) (map-map g f ss)
  statement_twice (stat.Case at v a) = refl
  statement_twice (stat.Default at a) = refl
  statement_twice (stat.Break at) = refl
  statement_twice (stat.Continue at) = refl
  statement_twice (stat.Return at e) = refl

-- three values that are related
abbrev pub Three : (A B C : Type 0) → (A → B → C → Type 0) → Type 0
Three A B C R = (a : A) × (b : B) × (c : C) × R a b c

module _ (A B C : Type 0) (R : A → B → C → Type 0) where
  abbrev Related : Type 0
  Related = Three A B C R

  module _ (f : TypedExpr-F A → A) (g : TypedExpr-F B → B) (h : TypedExpr-F C → C) where
    abbrev P : TypedExpr → Type 0
    P s = R (fold-TypedExpr A f s) (fold-TypedExpr B g s) (fold-TypedExpr C h s)

    -- what one layer owes: its results are related where those of its children are
    abbrev pub Step : Type 0
    Step = (y : TypedExpr-F Related) → R (f (map-TypedExpr Related A (λ e. e.0) y)) (g (map-TypedExpr Related B (λ e. e.1) y)) (h (map-TypedExpr Related C (λ e. e.2) y))

    module _ (S : Type 0) (it : S → TypedExpr) (ok : (e : S) → P (it e)) where
      abbrev three : S → Related
      three e = (fold-TypedExpr A f (it e), fold-TypedExpr B g (it e), fold-TypedExpr C h (it e), ok e)

      -- a fold of a layer, by the layer of its children's values
      by_layer : (T : Type 0) (j : TypedExpr-F T → T) (back : Related → T) (y : TypedExpr-F S)
          → map-TypedExpr S T (λ e. back (three e)) y ≡ map-TypedExpr S T (λ e. fold-TypedExpr T j (it e)) y
          → fold-TypedExpr T j (roll-TypedExpr (map-TypedExpr S TypedExpr it y)) ≡ j (map-TypedExpr Related T back (map-TypedExpr S Related three y))
      by_layer T j back y e =
          fold-roll-TypedExpr T j _ ∙ ap j (expression_twice S TypedExpr T it (fold-TypedExpr T j) y ∙ (sym e ∙ sym (expression_twice S Related T three back y)))

      layer : Step → (y : TypedExpr-F S) → P (roll-TypedExpr (map-TypedExpr S TypedExpr it y))
      layer step y =
          let z = map-TypedExpr S Related three y in
          let w = roll-TypedExpr (map-TypedExpr S TypedExpr it y) in
          subst (λ a. R a (fold-TypedExpr B g w) (fold-TypedExpr C h w)) (sym (by_layer A f (λ e. e.0) y refl))
          (subst (λ b. R (f (map-TypedExpr Related A (λ e. e.0) z)) b (fold-TypedExpr C h w)) (sym (by_layer B g (λ e. e.1) y refl))
          (subst (λ c. R (f (map-TypedExpr Related A (λ e. e.0) z)) (g (map-TypedExpr Related B (λ e. e.1) z)) c) (sym (by_layer C h (λ e. e.2) y refl))
          (step z)))

    pub expressions_relate : Step → (s : TypedExpr) → P s
    expressions_relate step = ind-TypedExpr P (λ x y is. subst (λ w. P (roll-TypedExpr w)) is (layer _ (λ e. e.0) (λ e. e.1) step y))

  module _ (f : Stat-F A → A) (g : Stat-F B → B) (h : Stat-F C → C) where
    abbrev Q : Stat → Type 0
    Q s = R (fold-Stat A f s) (fold-Stat B g s) (fold-Stat C h s)

    abbrev pub Stat_step : Type 0
    Stat_step = (y : Stat-F Related) → R (f (map-Stat Related A (λ e. e.0) y)) (g (map-Stat Related B (λ e. e.1) y)) (h (map-Stat Related C (λ e. e.2) y))

    module _ (S : Type 0) (it : S → Stat) (ok : (e : S) → Q (it e)) where
      abbrev three_in : S → Related
      three_in e = (fold-Stat A f (it e), fold-Stat B g (it e), fold-Stat C h (it e), ok e)

      by_stat_layer : (T : Type 0) (j : Stat-F T → T) (back : Related → T) (y : Stat-F S)
          → map-Stat S T (λ e. back (three_in e)) y ≡ map-Stat S T (λ e. fold-Stat T j (it e)) y
          → fold-Stat T j (roll-Stat (map-Stat S Stat it y)) ≡ j (map-Stat Related T back (map-Stat S Related three_in y))
      by_stat_layer T j back y e =
          fold-roll-Stat T j _ ∙ ap j (statement_twice S Stat T it (fold-Stat T j) y ∙ (sym e ∙ sym (statement_twice S Related T three_in back y)))

      stat_layer : Stat_step → (y : Stat-F S) → Q (roll-Stat (map-Stat S Stat it y))
      stat_layer step y =
          let z = map-Stat S Related three_in y in
          let w = roll-Stat (map-Stat S Stat it y) in
          subst (λ a. R a (fold-Stat B g w) (fold-Stat C h w)) (sym (by_stat_layer A f (λ e. e.0) y refl))
          (subst (λ b. R (f (map-Stat Related A (λ e. e.0) z)) b (fold-Stat C h w)) (sym (by_stat_layer B g (λ e. e.1) y refl))
          (subst (λ c. R (f (map-Stat Related A (λ e. e.0) z)) (g (map-Stat Related B (λ e. e.1) z)) c) (sym (by_stat_layer C h (λ e. e.2) y refl))
          (step z)))

    pub statements_relate : Stat_step → (s : Stat) → Q s
    statements_relate step = ind-Stat Q (λ x y is. subst (λ w. Q (roll-Stat w)) is (stat_layer _ (λ e. e.0) (λ e. e.1) step y))
