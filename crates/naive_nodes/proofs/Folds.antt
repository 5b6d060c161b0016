-- Four folds of expressions whose steps keep a relation give related values.
use Rattle.std.proofs.Common.{◌≡◌, ap, sym, refl, ◌∙◌, subst}
use mathlib.Core.List.{map-map}
use Rattle.c_tree.specs.declared.typed.TypedExpr.{TypedExpr}
use Rattle.c_tree.specs.declared.typed.TypedExpr.TheOpen.{TypedExpr-F, Comma, Assign, Compound, Conditional, Binary, Unary, Before, After, Constant, Object, Element, Call, Convert}
use Rattle.c_tree.specs.declared.typed.TypedExpr.TheViews.{roll-TypedExpr}
use Rattle.c_tree.specs.declared.typed.TypedExpr.TheFolds.{fold-TypedExpr, fold-roll-TypedExpr, ind-TypedExpr, map-TypedExpr}

module _ (X Y Z : Type 0) (f : X → Y) (g : Y → Z) where
  mapped_twice : (x : TypedExpr-F X) → map-TypedExpr Y Z g (map-TypedExpr X Y f x) ≡ map-TypedExpr X Z (λ e. g (f e)) x
  mapped_twice (Comma h a b) = refl
  mapped_twice (Assign h a b) = refl
  mapped_twice (Compound h a o b) = refl
  mapped_twice (Conditional h a b c) = refl
  mapped_twice (Binary h a o b) = refl
  mapped_twice (Unary h o a) = refl
  mapped_twice (Before h o a) = refl
  mapped_twice (After h a o) = refl
  mapped_twice (Constant h v) = refl
  mapped_twice (Object h x) = refl
  mapped_twice (Element h x a) = refl
  mapped_twice (Call h c es) = ap (Call h c) (map-map g f es)
  mapped_twice (Convert h a) = refl

-- four values that are related
abbrev pub Four : (A B C D : Type 0) → (A → B → C → D → Type 0) → Type 0
Four A B C D R = (a : A) × (b : B) × (c : C) × (d : D) × R a b c d

module _ (A B C D : Type 0) (f : TypedExpr-F A → A) (g : TypedExpr-F B → B) (h : TypedExpr-F C → C) (i : TypedExpr-F D → D) (R : A → B → C → D → Type 0) where
  abbrev Related : Type 0
  Related = Four A B C D R

  abbrev P : TypedExpr → Type 0
  P s = R (fold-TypedExpr A f s) (fold-TypedExpr B g s) (fold-TypedExpr C h s) (fold-TypedExpr D i s)

  -- what one layer owes: its results are related where those of its children are
  abbrev pub Step : Type 0
  Step = (y : TypedExpr-F Related) → R (f (map-TypedExpr Related A (λ e. e.0) y)) (g (map-TypedExpr Related B (λ e. e.1) y)) (h (map-TypedExpr Related C (λ e. e.2) y)) (i (map-TypedExpr Related D (λ e. e.3) y))

  module _ (S : Type 0) (it : S → TypedExpr) (ok : (e : S) → P (it e)) where
    abbrev four : S → Related
    four e = (fold-TypedExpr A f (it e), fold-TypedExpr B g (it e), fold-TypedExpr C h (it e), fold-TypedExpr D i (it e), ok e)

    -- a fold of a layer, by the layer of its children's values
    by_layer : (T : Type 0) (j : TypedExpr-F T → T) (back : Related → T) (y : TypedExpr-F S)
        → map-TypedExpr S T (λ e. back (four e)) y ≡ map-TypedExpr S T (λ e. fold-TypedExpr T j (it e)) y
        → fold-TypedExpr T j (roll-TypedExpr (map-TypedExpr S TypedExpr it y)) ≡ j (map-TypedExpr Related T back (map-TypedExpr S Related four y))
    by_layer T j back y e =
        fold-roll-TypedExpr T j _ ∙ ap j (mapped_twice S TypedExpr T it (fold-TypedExpr T j) y ∙ (sym e ∙ sym (mapped_twice S Related T four back y)))

    layer : Step → (y : TypedExpr-F S) → P (roll-TypedExpr (map-TypedExpr S TypedExpr it y))
    layer step y =
        let z = map-TypedExpr S Related four y in
        let w = roll-TypedExpr (map-TypedExpr S TypedExpr it y) in
        subst (λ a. R a (fold-TypedExpr B g w) (fold-TypedExpr C h w) (fold-TypedExpr D i w)) (sym (by_layer A f (λ e. e.0) y refl))
        (subst (λ b. R (f (map-TypedExpr Related A (λ e. e.0) z)) b (fold-TypedExpr C h w) (fold-TypedExpr D i w)) (sym (by_layer B g (λ e. e.1) y refl))
        (subst (λ c. R (f (map-TypedExpr Related A (λ e. e.0) z)) (g (map-TypedExpr Related B (λ e. e.1) z)) c (fold-TypedExpr D i w)) (sym (by_layer C h (λ e. e.2) y refl))
        (subst (λ d. R (f (map-TypedExpr Related A (λ e. e.0) z)) (g (map-TypedExpr Related B (λ e. e.1) z)) (h (map-TypedExpr Related C (λ e. e.2) z)) d) (sym (by_layer D i (λ e. e.3) y refl))
        (step z))))

  pub four_relate : Step → (s : TypedExpr) → P s
  four_relate step = ind-TypedExpr P (λ x y is. subst (λ w. P (roll-TypedExpr w)) is (layer _ (λ e. e.0) (λ e. e.1) step y))
