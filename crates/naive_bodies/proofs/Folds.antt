-- Four folds of statements whose steps keep a relation give related values.
use Rattle.std.proofs.Common.{◌≡◌, Some, None, ap, sym, refl, ◌∙◌, subst}
use mathlib.Core.List.{map-map}
use Rattle.c_tree.specs.declared.typed.Stat.{Stat}
use Rattle.c_tree.specs.declared.typed.Stat.TheOpen.{Stat-F, Block, Declare, Evaluate, If, While, DoWhile, For, Switch, Case, Default, Break, Continue, Return}
use Rattle.c_tree.specs.declared.typed.Stat.TheViews.{roll-Stat}
use Rattle.c_tree.specs.declared.typed.Stat.TheFolds.{fold-Stat, fold-roll-Stat, ind-Stat, map-Stat}
use Rattle.naive_nodes.proofs.Folds.{Four}

module _ (X Y Z : Type 0) (f : X → Y) (g : Y → Z) where
  mapped_twice : (x : Stat-F X) → map-Stat Y Z g (map-Stat X Y f x) ≡ map-Stat X Z (λ e. g (f e)) x
  mapped_twice (Block at ss) = ap (Block at) (map-map g f ss)
  mapped_twice (Declare at ls) = refl
  mapped_twice (Evaluate at e) = refl
  mapped_twice (If at e a None) = refl
  mapped_twice (If at e a (Some b)) = refl
  mapped_twice (While at e a) = refl
  mapped_twice (DoWhile at a e) = refl
  mapped_twice (For at first test step a) = refl
  mapped_twice (Switch at e ss) = ap (Switch at e) (map-map g f ss)
  mapped_twice (Case at v a) = refl
  mapped_twice (Default at a) = refl
  mapped_twice (Break at) = refl
  mapped_twice (Continue at) = refl
  mapped_twice (Return at e) = refl

module _ (A B C D : Type 0) (f : Stat-F A → A) (g : Stat-F B → B) (h : Stat-F C → C) (i : Stat-F D → D) (R : A → B → C → D → Type 0) where
  abbrev Related : Type 0
  Related = Four A B C D R

  abbrev P : Stat → Type 0
  P s = R (fold-Stat A f s) (fold-Stat B g s) (fold-Stat C h s) (fold-Stat D i s)

  -- what one layer owes: its results are related where those of its children are
  abbrev pub Step : Type 0
  Step = (y : Stat-F Related) → R (f (map-Stat Related A (λ e. e.0) y)) (g (map-Stat Related B (λ e. e.1) y)) (h (map-Stat Related C (λ e. e.2) y)) (i (map-Stat Related D (λ e. e.3) y))

  module _ (S : Type 0) (it : S → Stat) (ok : (e : S) → P (it e)) where
    abbrev four : S → Related
    four e = (fold-Stat A f (it e), fold-Stat B g (it e), fold-Stat C h (it e), fold-Stat D i (it e), ok e)

    -- a fold of a layer, by the layer of its children's values
    by_layer : (T : Type 0) (j : Stat-F T → T) (back : Related → T) (y : Stat-F S)
        → map-Stat S T (λ e. back (four e)) y ≡ map-Stat S T (λ e. fold-Stat T j (it e)) y
        → fold-Stat T j (roll-Stat (map-Stat S Stat it y)) ≡ j (map-Stat Related T back (map-Stat S Related four y))
    by_layer T j back y e =
        fold-roll-Stat T j _ ∙ ap j (mapped_twice S Stat T it (fold-Stat T j) y ∙ (sym e ∙ sym (mapped_twice S Related T four back y)))

    layer : Step → (y : Stat-F S) → P (roll-Stat (map-Stat S Stat it y))
    layer step y =
        let z = map-Stat S Related four y in
        let w = roll-Stat (map-Stat S Stat it y) in
        subst (λ a. R a (fold-Stat B g w) (fold-Stat C h w) (fold-Stat D i w)) (sym (by_layer A f (λ e. e.0) y refl))
        (subst (λ b. R (f (map-Stat Related A (λ e. e.0) z)) b (fold-Stat C h w) (fold-Stat D i w)) (sym (by_layer B g (λ e. e.1) y refl))
        (subst (λ c. R (f (map-Stat Related A (λ e. e.0) z)) (g (map-Stat Related B (λ e. e.1) z)) c (fold-Stat D i w)) (sym (by_layer C h (λ e. e.2) y refl))
        (subst (λ d. R (f (map-Stat Related A (λ e. e.0) z)) (g (map-Stat Related B (λ e. e.1) z)) (h (map-Stat Related C (λ e. e.2) z)) d) (sym (by_layer D i (λ e. e.3) y refl))
        (step z))))

  pub four_statements : Step → (s : Stat) → P s
  four_statements step = ind-Stat P (λ x y is. subst (λ w. P (roll-Stat w)) is (layer _ (λ e. e.0) (λ e. e.1) step y))
