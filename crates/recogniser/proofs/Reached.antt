-- A row's taking of a transfer by a list of choices is one of the ways that the search tries, with these choices.
use Rattle.std.proofs.Common.{◌≡◌, ◌⊎◌, ℕ, ◌<◌, Bool, true, false, cond, List, [], ◌∷◌, ◌++◌, length, set, slice_get, Option, Some, None, inl, inr, refl, sym, subst, ap, ◌∙◌}
use Rattle.rtl_tree.specs.Trees.{Tree, Number, Symbol, CodeLabel, Read, Load, Unary, Binary, NoPair, AnyNumber, AnyName}
use Rattle.rtl_tree.specs.Moves.{Move}
use Rattle.rtl_tree.specs.Likeness.{commutes}
use Rattle.rtl_tree.specs.declared.cells.Cell.TheVariants.{Hole as RegisterHole}
use Rattle.rtl_tree.specs.declared.expressions.Width.{Width}
use Rattle.rtl_tree.specs.declared.expressions.UnOp.{UnOp}
use Rattle.rtl_tree.specs.declared.expressions.BinOp.{BinOp}
use Rattle.md_rows.specs.declared.row.Hole.{Hole}
use Rattle.md_rows.specs.declared.instance.Bound.{Bound}
use Rattle.md_rows.specs.declared.instance.Bound.TheVariants.{Reg, Num, Sym, Label}
use Rattle.md_rows.specs.Instances.{filled}
use Rattle.md_match.specs.Slots.{Slots, Fit}
use Rattle.md_match.specs.Searches.{Marks, Search, is_marked, goal_tree, fill, filled_with}
use Rattle.md_match.specs.Ways.{Choice as Turn, Under, Straight, Crossed, Way, at_load, at_unary, straight, crossed, Choices as Turns, Ended, Next, Ways, ended, next}
use Rattle.md_match.specs.Does.{HasHolesBelow, IsRow}
use Rattle.md_match.proofs.Filling.{Alike, IsHeld, IsFilled, IsSane}
use Rattle.md_match.proofs.Sound.{alike_own}
use Rattle.md_match.proofs.Whole.{IsPartOf, way_whole}
use Rattle.md_match.proofs.Binding.{Holds, fill_filled, whole_filled}
use Rattle.recogniser.specs.Choices.{Choice, Place, Unswapped, Swapped, is_leaf, IsAlikeBy, leaves, loads, unaries, ordered, unswapped, swapped, TakesBy, all_taken, taken}
use Rattle.recogniser.proofs.Order.{swaps, listed}
use Rattle.recogniser.proofs.Ways.{no_swaps}

-- the operands of a node are alike in this order, with these choices
record Pair (P Q : List Choice → Type 0) (cs : List Choice) : Type 0 where
  first : List Choice
  second : List Choice
  is : cs ≡ first ++ second
  left : P first
  right : Q second

-- the same as `IsAlikeBy`, by cases on both trees
abbrev AlikeBy : Tree → Tree → List Choice → Type 0
AlikeBy (Load w a) (Load v c) cs = (w ≡ v) × AlikeBy a c cs
AlikeBy (Unary o a) (Unary p c) cs = (o ≡ p) × AlikeBy a c cs
AlikeBy (Binary o a b) (Binary p c d) cs =
    (o ≡ p)
    × (((commutes o ≡ false) × Pair (AlikeBy a c) (AlikeBy b d) cs)
    ⊎ ((commutes o ≡ true)
    × (((ds : List Choice) × (cs ≡ Unswapped ∷ ds) × Pair (AlikeBy a c) (AlikeBy b d) ds)
    ⊎ ((ds : List Choice) × (cs ≡ Swapped ∷ ds) × Pair (AlikeBy b c) (AlikeBy a d) ds))))
AlikeBy a b cs = (a ≡ b) × (is_leaf b ≡ true) × (cs ≡ [])

own_by : (a : Tree) → is_leaf a ≡ true → AlikeBy a a []
own_by (Load w a) h = let q : false ≡ true = h in cc
own_by (Unary o a) h = let q : false ≡ true = h in cc
own_by (Binary o a b) h = let q : false ≡ true = h in cc
own_by (Number n) h = (refl, refl, refl)
own_by (Symbol n) h = (refl, refl, refl)
own_by (CodeLabel l) h = (refl, refl, refl)
own_by (Read c) h = (refl, refl, refl)
own_by NoPair h = (refl, refl, refl)
own_by (AnyNumber n) h = (refl, refl, refl)
own_by (AnyName n) h = (refl, refl, refl)

alike_by : (x e : Tree) (cs : List Choice) → IsAlikeBy x e cs → AlikeBy x e cs
alike_by _ _ _ (leaves a h) = own_by a h
alike_by _ _ _ (loads w a c cs h) = (refl, alike_by a c cs h)
alike_by _ _ _ (unaries o a c cs h) = (refl, alike_by a c cs h)
alike_by _ _ _ (ordered o a b c d cs ds e h k) =
    (refl, inl (e, record { first = cs; second = ds; is = refl; left = alike_by a c cs h; right = alike_by b d ds k }))
alike_by _ _ _ (unswapped o a b c d cs ds e h k) =
    (refl, inr (e, inl (cs ++ ds, refl, record { first = cs; second = ds; is = refl; left = alike_by a c cs h; right = alike_by b d ds k })))
alike_by _ _ _ (swapped o a b c d cs ds e h k) =
    (refl, inr (e, inr (cs ++ ds, refl, record { first = cs; second = ds; is = refl; left = alike_by b c cs h; right = alike_by a d ds k })))

-- a way with these choices, below a whole binding's slots
record Led (f : Fit) (r e : Tree) (cs : List Choice) (s b : Slots) : Type 0 where
  by : Turn
  is : swaps e by ≡ cs
  to : Slots
  way : Way f r e by s to
  below : IsPartOf f to b

same_leaf : (x e : Tree) (cs : List Choice) → is_leaf x ≡ true → AlikeBy x e cs → (x ≡ e) × (is_leaf e ≡ true) × (cs ≡ [])
same_leaf (Load w a) e cs h k = let q : false ≡ true = h in cc
same_leaf (Unary o a) e cs h k = let q : false ≡ true = h in cc
same_leaf (Binary o a b) e cs h k = let q : false ≡ true = h in cc
same_leaf (Number n) e cs h k = k
same_leaf (Symbol n) e cs h k = k
same_leaf (CodeLabel l) e cs h k = k
same_leaf (Read c) e cs h k = k
same_leaf NoPair e cs h k = k
same_leaf (AnyNumber n) e cs h k = k
same_leaf (AnyName n) e cs h k = k

leaf_with : (hole : Tree) (o : Option (Option Bound)) → is_leaf hole ≡ true → is_leaf (filled_with hole o) ≡ true
leaf_with hole None h = h
leaf_with hole (Some None) h = h
leaf_with hole (Some (Some (Reg c))) h = refl
leaf_with hole (Some (Some (Num n))) h = refl
leaf_with hole (Some (Some (Sym n))) h = refl
leaf_with hole (Some (Some (Label l))) h = refl

filled_leaf : (s : Slots) (r : Tree) → is_leaf r ≡ true → is_leaf (fill s r) ≡ true
filled_leaf s (Read (RegisterHole h)) e = leaf_with (Read (RegisterHole h)) (slice_get s h) refl
filled_leaf s (AnyNumber h) e = leaf_with (AnyNumber h) (slice_get s h) refl
filled_leaf s (AnyName h) e = leaf_with (AnyName h) (slice_get s h) refl
filled_leaf s (Load w a) e = let q : false ≡ true = e in cc
filled_leaf s (Unary o a) e = let q : false ≡ true = e in cc
filled_leaf s (Binary o a b) e = let q : false ≡ true = e in cc
filled_leaf s _ e = refl

led_leaf : (f : Fit) → IsSane f → (r e : Tree) (cs : List Choice) (s b : Slots) → is_leaf r ≡ true → IsPartOf f s b → IsFilled f b r
    → AlikeBy (fill b r) e cs → Led f r e cs s b
led_leaf f sane r e cs s b leaf u k a =
    let q = same_leaf (fill b r) e cs (filled_leaf b r leaf) a in
    let x = way_whole f sane r e s b u k (subst (Alike (fill b r)) q.0 (alike_own (fill b r))) in
    record { by = x.by; is = no_swaps e x.by q.1 ∙ sym q.2; to = x.to; way = x.way; below = x.below }

led_load : (f : Fit) (w v : Width) (a c : Tree) (cs : List Choice) (s b : Slots) → w ≡ v → Led f a c cs s b → Led f (Load w a) (Load v c) cs s b
led_load f w v a c cs s b e x = record {
  by = Under x.by;
  is = x.is;
  to = x.to;
  below = x.below;
  way = subst (λ (y : Width). Way f (Load w a) (Load y c) (Under x.by) s x.to) e (at_load w a c x.by s x.to x.way);
}

led_unary : (f : Fit) (w v : UnOp) (a c : Tree) (cs : List Choice) (s b : Slots) → w ≡ v → Led f a c cs s b → Led f (Unary w a) (Unary v c) cs s b
led_unary f w v a c cs s b e x = record {
  by = Under x.by;
  is = x.is;
  to = x.to;
  below = x.below;
  way = subst (λ (y : UnOp). Way f (Unary w a) (Unary y c) (Under x.by) s x.to) e (at_unary w a c x.by s x.to x.way);
}

straight_swaps : (k : Bool) (ps qs cs ds : List Choice) → ps ≡ cs → qs ≡ ds → cond k (Unswapped ∷ ps ++ qs) (ps ++ qs) ≡ cond k (Unswapped ∷ cs ++ ds) (cs ++ ds)
straight_swaps k ps qs cs ds p q = ap (λ (z : List Choice × List Choice). cond k (Unswapped ∷ z.0 ++ z.1) (z.0 ++ z.1)) (let x : (ps, qs) ≡ (cs, ds) = cc in x)

led_straight : (f : Fit) (w v : BinOp) (a b c d : Tree) (cs ds all : List Choice) (s u : Slots) → w ≡ v
    → cond (commutes w) (Unswapped ∷ cs ++ ds) (cs ++ ds) ≡ all
    → (x : Led f a c cs s u) → Led f b d ds x.to u → Led f (Binary w a b) (Binary v c d) all s u
led_straight f w v a b c d cs ds all s u e q x y = record {
  by = Straight x.by y.by;
  is = subst (λ (z : BinOp). swaps (Binary z c d) (Straight x.by y.by) ≡ all) e
      (straight_swaps (commutes w) (swaps c x.by) (swaps d y.by) cs ds x.is y.is ∙ q);
  to = y.to;
  below = y.below;
  way = subst (λ (z : BinOp). Way f (Binary w a b) (Binary z c d) (Straight x.by y.by) s y.to) e
      (straight w a b c d x.by y.by s x.to y.to x.way y.way);
}

led_crossed : (f : Fit) (w v : BinOp) (a b c d : Tree) (cs ds all : List Choice) (s u : Slots) → w ≡ v → commutes w ≡ true
    → Swapped ∷ cs ++ ds ≡ all
    → (x : Led f b c cs s u) → Led f a d ds x.to u → Led f (Binary w a b) (Binary v c d) all s u
led_crossed f w v a b c d cs ds all s u e t q x y = record {
  by = Crossed x.by y.by;
  is = (let p = x.is in let r = y.is in let z : Swapped ∷ swaps c x.by ++ swaps d y.by ≡ Swapped ∷ cs ++ ds = cc in z ∙ q);
  to = y.to;
  below = y.below;
  way = subst (λ (z : BinOp). Way f (Binary w a b) (Binary z c d) (Crossed x.by y.by) s y.to) e
      (crossed w a b c d x.by y.by s x.to y.to t x.way y.way);
}

cond_by : {A : Type 0} (k : Bool) (x y z : A) → (k ≡ true → x ≡ z) → (k ≡ false → y ≡ z) → cond k x y ≡ z
cond_by true x y z f g = f refl
cond_by false x y z f g = g refl

opposite : {A : Type 0} (k : Bool) → k ≡ true → k ≡ false → A
opposite k p q = let e : true ≡ false = sym p ∙ q in cc

way_led : (f : Fit) → IsSane f → (r e : Tree) (cs : List Choice) (s b : Slots) → IsPartOf f s b → IsFilled f b r → AlikeBy (fill b r) e cs → Led f r e cs s b
way_led f sane (Load w x) (Load v y) cs s b u k a = led_load f w v x y cs s b a.0 (way_led f sane x y cs s b u k a.1)
way_led f sane (Unary w x) (Unary v y) cs s b u k a = led_unary f w v x y cs s b a.0 (way_led f sane x y cs s b u k a.1)
way_led f sane (Binary w x z) (Binary v y q) cs s b u k a = elim a.1 [
  | inl p ↦
      (let o = p.1 in
      let h = way_led f sane x y o.first s b u k.0 o.left in
      led_straight f w v x z y q o.first o.second cs s b a.0
      (cond_by (commutes w) (Unswapped ∷ o.first ++ o.second) (o.first ++ o.second) cs (λ t. opposite (commutes w) t p.0) (λ t. sym o.is))
      h (way_led f sane z q o.second h.to b h.below k.1 o.right))
  | inr p ↦ elim p.1 [
    | inl n ↦
        (let o = n.2 in
        let h = way_led f sane x y o.first s b u k.0 o.left in
        led_straight f w v x z y q o.first o.second cs s b a.0
        (cond_by (commutes w) (Unswapped ∷ o.first ++ o.second) (o.first ++ o.second) cs
        (λ t. ap (λ (l : List Choice). Unswapped ∷ l) (sym o.is) ∙ sym n.1) (λ t. opposite (commutes w) p.0 t))
        h (way_led f sane z q o.second h.to b h.below k.1 o.right))
    | inr n ↦
        (let o = n.2 in
        let h = way_led f sane z y o.first s b u k.1 o.left in
        led_crossed f w v x z y q o.first o.second cs s b a.0 p.0 (ap (λ (l : List Choice). Swapped ∷ l) (sym o.is) ∙ sym n.1)
        h (way_led f sane x q o.second h.to b h.below k.0 o.right))
  ]
]
way_led f sane (Load w x) e cs s b u k a = let q : fill b (Load w x) ≡ e = a.0 in cc
way_led f sane (Unary w x) e cs s b u k a = let q : fill b (Unary w x) ≡ e = a.0 in cc
way_led f sane (Binary w x z) e cs s b u k a = let q : fill b (Binary w x z) ≡ e = a.0 in cc
way_led f sane r e cs s b u k a = led_leaf f sane r e cs s b refl u k a

-- the ways with these choices, below a whole binding's slots
pub record LedAll (t : Search) (es : List Move) (cs : List Choice) (used : Marks) (s : Slots) (left : Marks) (whole : Slots) : Type 0 where
  pub by : Turns
  pub is : listed es by ≡ cs
  pub to : Slots
  pub ways : Ways t es by used s left to
  pub below : IsPartOf t.fit to whole

led_in : (n : ℕ) (whole : Slots) (b : List Bound) → Holds n whole b → (r e : Tree) (cs : List Choice) → HasHolesBelow n r → IsAlikeBy (filled b r) e cs
    → AlikeBy (fill whole r) e cs
led_in n whole b k r e cs l a = subst (λ x. AlikeBy x e cs) (sym (fill_filled n whole b k r l)) (alike_by (filled b r) e cs a)

led_next : (t : Search) (e : Move) (es : List Move) (j : ℕ) (r : Move) (ps vs cs : List Choice) (used : Marks) (s : Slots) (left : Marks) (whole : Slots)
    → slice_get t.row j ≡ Some r → is_marked used j ≡ false
    → (x : Led t.fit (goal_tree r.to) (goal_tree e.to) ps s whole) → (y : Led t.fit r.value e.value vs x.to whole)
    → LedAll t es cs (set used j true) y.to left whole → LedAll t (e ∷ es) (Place j ∷ ps ++ (vs ++ cs)) used s left whole
led_next t e es j r ps vs cs used s left whole q free x y z = record {
  by = Next j x.by y.by z.by;
  is = (let a = x.is in let b = y.is in let c = z.is in cc);
  to = z.to;
  below = z.below;
  ways = next e es j r x.by y.by z.by used s x.to y.to left z.to q free x.way y.way z.ways;
}

pub takes_led : (t : Search) (holes : List Hole) → IsSane t.fit → IsRow holes t.row → (b : List Bound) (whole : Slots) → Holds (length holes) whole b
    → ((h : ℕ) → h < length holes → IsHeld t.fit whole h)
    → (es : List Move) (cs : List Choice) (used left : Marks) → TakesBy t.row b used es cs left → (s : Slots) → IsPartOf t.fit s whole
    → LedAll t es cs used s left whole
takes_led t holes sane row b whole k held _ _ _ _ (all_taken used) s below =
    record { by = Ended; is = refl; to = s; ways = ended used s; below = below }
takes_led t holes sane row b whole k held _ _ _ _ (taken e es j r used left ps vs cs q free p v rest) s below =
    let x = way_led t.fit sane (goal_tree r.to) (goal_tree e.to) ps s whole below
    (whole_filled t.fit (length holes) whole held (goal_tree r.to) (row.places j r q))
    (led_in (length holes) whole b k (goal_tree r.to) (goal_tree e.to) ps (row.places j r q) p) in
    let y = way_led t.fit sane r.value e.value vs x.to whole x.below
    (whole_filled t.fit (length holes) whole held r.value (row.values j r q))
    (led_in (length holes) whole b k r.value e.value vs (row.values j r q) v) in
    led_next t e es j r ps vs cs used s left whole q free x y
    (takes_led t holes sane row b whole k held es cs (set used j true) left rest y.to y.below)
