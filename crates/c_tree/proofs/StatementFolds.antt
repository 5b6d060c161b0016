-- A fold over statements whose step keeps a fact gives values with this fact.
use Rattle.std.proofs.Common.{◌≡◌, ap, sym, refl, ◌∙◌, subst, Some, None}
use mathlib.Core.List.{map-map}
use Rattle.c_tree.specs.declared.syntax.Statement.{Statement}
use Rattle.c_tree.specs.declared.syntax.Statement.TheOpen.{Statement-F, Block, Declared, Evaluate, If, While, DoWhile, For, Switch, Case, Default, Break, Continue, Return}
use Rattle.c_tree.specs.declared.syntax.Statement.TheViews.{roll-Statement}
use Rattle.c_tree.specs.declared.syntax.Statement.TheFolds.{fold-Statement, fold-roll-Statement, ind-Statement, map-Statement}
use Rattle.c_tree.proofs.ExprFolds.{With}

module _ (X Y Z : Type 0) (f : X → Y) (g : Y → Z) where
  map_map : (x : Statement-F X) → map-Statement Y Z g (map-Statement X Y f x) ≡ map-Statement X Z (λ e. g (f e)) x
  map_map (Block at ws) = ap (Block at) (map-map g f ws)
  map_map (Declared d) = refl
  map_map (Evaluate at e) = refl
  map_map (If at e a None) = refl
  map_map (If at e a (Some b)) = refl
  map_map (While at e a) = refl
  map_map (DoWhile at a e) = refl
  map_map (For at i t u a) = refl
  map_map (Switch at e ws) = ap (Switch at e) (map-map g f ws)
  map_map (Case at e a) = refl
  map_map (Default at a) = refl
  map_map (Break at) = refl
  map_map (Continue at) = refl
  map_map (Return at e) = refl

module _ (A : Type 0) (f : Statement-F A → A) (R : A → Type 0) where
  abbrev ff : Statement → A
  ff = fold-Statement A f

  abbrev P : Statement → Type 0
  P s = R (ff s)

  abbrev pub Step : Type 0
  Step = (y : Statement-F (With R)) → R (f (map-Statement (With R) A (λ e. e.0) y))

  module _ (S : Type 0) (it : S → Statement) (ok : (e : S) → P (it e)) where
    abbrev with_fact : S → With R
    with_fact e = (ff (it e), ok e)

    layer : Step → (y : Statement-F S) → P (roll-Statement (map-Statement S Statement it y))
    layer step y =
        let z = map-Statement S (With R) with_fact y in
        let left : ff (roll-Statement (map-Statement S Statement it y)) ≡ f (map-Statement (With R) A (λ e. e.0) z) =
        fold-roll-Statement A f _ ∙ ap f (map_map S Statement A it ff y ∙ sym (map_map S (With R) A with_fact (λ e. e.0) y)) in
        subst R (sym left) (step z)

  pub statement_keeps : Step → (s : Statement) → P s
  statement_keeps step = ind-Statement P (λ x y is. subst (λ w. P (roll-Statement w)) is (layer _ (λ e. e.0) (λ e. e.1) step y))
