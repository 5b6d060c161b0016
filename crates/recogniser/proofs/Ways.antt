-- What the search finds is a row's taking of the transfer by the list of its choices.
use Rattle.std.proofs.Common.{◌≡◌, ℕ, Bool, true, false, cond, List, [], ◌∷◌, ◌++◌, length, set, Some, None, refl, sym, subst}
use Rattle.rtl_tree.specs.Trees.{Tree, Read, Load, Unary, Binary, AnyNumber, AnyName}
use Rattle.rtl_tree.specs.Moves.{Move}
use Rattle.rtl_tree.specs.Likeness.{commutes, IsAlike, equal, loads as alike_loads, unaries as alike_unaries, straight as alike_straight, crossed as alike_crossed}
use Rattle.rtl_tree.specs.declared.cells.Cell.TheVariants.{Hole as RegisterHole}
use Rattle.rtl_tree.specs.declared.expressions.BinOp.{BinOp}
use Rattle.md_rows.specs.declared.row.Hole.{Hole}
use Rattle.md_rows.specs.declared.instance.Bound.{Bound}
use Rattle.md_rows.specs.Instances.{filled}
use Rattle.md_match.specs.Slots.{Slots, Fit, put}
use Rattle.md_match.specs.Find.{leaf}
use Rattle.md_match.specs.Searches.{Marks, Search, goal_tree}
use Rattle.md_match.specs.Ways.{Choice as Turn, Here, Way, at_leaf, at_load, at_unary, straight, crossed, Choices as Turns, Ways, ended, next}
use Rattle.md_match.specs.Does.{HasHolesBelow, IsRow}
use Rattle.md_match.proofs.Filling.{Alike, Grows, IsFit, to_alike}
use Rattle.md_match.proofs.Sound.{grows_on, alike_on, way_sound}
use Rattle.md_match.proofs.Binding.{Holds, fill_filled}
use Rattle.md_match.proofs.Done.{ways_grow}
use Rattle.recogniser.specs.Choices.{Choice, Unswapped, is_leaf, IsAlikeBy, leaves, loads, unaries, ordered, unswapped, swapped, TakesBy, all_taken, taken}
use Rattle.recogniser.proofs.Order.{swaps, listed, IsOf, AreOf}

clash : (t : Slots) → None ≡ Some t → ⊥
clash t e = cc

-- only a leaf is taken by a leaf

leaf_only : (f : Fit) (r e : Tree) (s t : Slots) → leaf f r e s ≡ Some t → is_leaf e ≡ true
unfolding leaf put
leaf_only f (Read (RegisterHole h)) (Load w a) s t p = absurd (clash t p)
leaf_only f (Read (RegisterHole h)) (Unary o a) s t p = absurd (clash t p)
leaf_only f (Read (RegisterHole h)) (Binary o a b) s t p = absurd (clash t p)
leaf_only f (AnyNumber h) (Load w a) s t p = absurd (clash t p)
leaf_only f (AnyNumber h) (Unary o a) s t p = absurd (clash t p)
leaf_only f (AnyNumber h) (Binary o a b) s t p = absurd (clash t p)
leaf_only f (AnyName h) (Load w a) s t p = absurd (clash t p)
leaf_only f (AnyName h) (Unary o a) s t p = absurd (clash t p)
leaf_only f (AnyName h) (Binary o a b) s t p = absurd (clash t p)
leaf_only f _ (Load w a) s t p = absurd (clash t p)
leaf_only f _ (Unary o a) s t p = absurd (clash t p)
leaf_only f _ (Binary o a b) s t p = absurd (clash t p)
leaf_only f _ _ s t p = refl

leaf_of_tree : (e : Tree) → is_leaf e ≡ true → IsOf e Here
leaf_of_tree (Load w a) h = let q : false ≡ true = h in cc
leaf_of_tree (Unary o a) h = let q : false ≡ true = h in cc
leaf_of_tree (Binary o a b) h = let q : false ≡ true = h in cc
leaf_of_tree _ h = tt

pub way_of : (f : Fit) (r e : Tree) (i : Turn) (s t : Slots) → Way f r e i s t → IsOf e i
way_of f _ _ _ _ _ (at_leaf r e s t p) = leaf_of_tree e (leaf_only f r e s t p)
way_of f _ _ _ _ _ (at_load w a c i s t p) = way_of f a c i s t p
way_of f _ _ _ _ _ (at_unary o a c i s t p) = way_of f a c i s t p
way_of f _ _ _ _ _ (straight o a b c d i j s m t p q) = (way_of f a c i s m p, way_of f b d j m t q)
way_of f _ _ _ _ _ (crossed o a b c d i j s m t e p q) = (e, way_of f b c i s m p, way_of f a d j m t q)

pub ways_of : (t : Search) (es : List Move) (cs : Turns) (used : Marks) (s : Slots) (left : Marks) (u : Slots) → Ways t es cs used s left u → AreOf es cs
ways_of t _ _ _ _ _ _ (ended used s) = tt
ways_of t _ _ _ _ _ _ (next e es j r p v cs used s a b left u q free wp wv ws) = (
  way_of t.fit (goal_tree r.to) (goal_tree e.to) p s a wp,
  way_of t.fit r.value e.value v a b wv,
  ways_of t es cs (set used j true) b left u ws,
)

-- a tree that is alike a leaf is the leaf
alike_leaf : (x e : Tree) → IsAlike x e → is_leaf e ≡ true → x ≡ e
alike_leaf x _ (equal _) h = refl
alike_leaf _ _ (alike_loads w a b k) h = let q : false ≡ true = h in cc
alike_leaf _ _ (alike_unaries o a b k) h = let q : false ≡ true = h in cc
alike_leaf _ _ (alike_straight o a b c d k l) h = let q : false ≡ true = h in cc
alike_leaf _ _ (alike_crossed o a b c d k l m) h = let q : false ≡ true = h in cc

pub no_swaps : (e : Tree) (i : Turn) → is_leaf e ≡ true → swaps e i ≡ []
no_swaps (Load w a) i h = let q : false ≡ true = h in cc
no_swaps (Unary o a) i h = let q : false ≡ true = h in cc
no_swaps (Binary o a b) i h = let q : false ≡ true = h in cc
no_swaps _ i h = refl

by_leaf : (x e : Tree) (i : Turn) → is_leaf e ≡ true → x ≡ e → IsAlikeBy x e (swaps e i)
by_leaf x e i h p =
    subst (λ (cs : List Choice). IsAlikeBy x e cs) (sym (no_swaps e i h))
    (subst (λ (y : Tree). IsAlikeBy y e []) (sym p) (leaves e h))

by_straight : (o : BinOp) (k : Bool) (a b c d : Tree) (cs ds : List Choice) → commutes o ≡ k → IsAlikeBy a c cs → IsAlikeBy b d ds
    → IsAlikeBy (Binary o a b) (Binary o c d) (cond k (Unswapped ∷ cs ++ ds) (cs ++ ds))
by_straight o true a b c d cs ds e p q = unswapped o a b c d cs ds e p q
by_straight o false a b c d cs ds e p q = ordered o a b c d cs ds e p q

-- what a way leaves makes the row's tree alike the other by the way's choices
way_alike : (f : Fit) (n : ℕ) (u : Slots) (b : List Bound) → Holds n u b → (r e : Tree) (i : Turn) (s t : Slots) → IsFit f s → Grows t u
    → HasHolesBelow n r → Way f r e i s t → IsAlikeBy (filled b r) e (swaps e i)
way_alike f n u v h _ _ _ _ _ k g l (at_leaf r e s t p) =
    let x = way_sound f r e Here s t k (at_leaf r e s t p) in
    let y : Alike (filled v r) e = subst (λ (z : Tree). Alike z e) (fill_filled n u v h r l) (alike_on f t u g r e x.filled x.alike) in
    let q = leaf_only f r e s t p in
    by_leaf (filled v r) e Here q (alike_leaf (filled v r) e (to_alike (filled v r) e y) q)
way_alike f n u v h _ _ _ _ _ k g l (at_load w a c i s t p) = loads w (filled v a) c (swaps c i) (way_alike f n u v h a c i s t k g l p)
way_alike f n u v h _ _ _ _ _ k g l (at_unary o a c i s t p) = unaries o (filled v a) c (swaps c i) (way_alike f n u v h a c i s t k g l p)
way_alike f n u v h _ _ _ _ _ k g l (straight o a b c d i j s m t p q) =
    let x = way_sound f a c i s m k p in
    let y = way_sound f b d j m t x.fit q in
    by_straight o (commutes o) (filled v a) (filled v b) c d (swaps c i) (swaps d j) refl
    (way_alike f n u v h a c i s m k (grows_on m t u y.grows g) l.0 p)
    (way_alike f n u v h b d j m t x.fit g l.1 q)
way_alike f n u v h _ _ _ _ _ k g l (crossed o a b c d i j s m t e p q) =
    let x = way_sound f b c i s m k p in
    let y = way_sound f a d j m t x.fit q in
    swapped o (filled v a) (filled v b) c d (swaps c i) (swaps d j) e
    (way_alike f n u v h b c i s m k (grows_on m t u y.grows g) l.1 p)
    (way_alike f n u v h a d j m t x.fit g l.0 q)

pub ways_take_by : (t : Search) (holes : List Hole) (es : List Move) (cs : Turns) (used : Marks) (s : Slots) (left : Marks) (u : Slots)
    → IsRow holes t.row → Ways t es cs used s left u → IsFit t.fit s → (b : List Bound) → Holds (length holes) u b
    → TakesBy t.row b used es (listed es cs) left
ways_take_by t holes _ _ _ _ _ _ row (ended used s) k b o = all_taken used
ways_take_by t holes _ _ _ _ _ _ row (next e es j r p v cs used s a c left u q free wp wv ws) k b o =
    let x = way_sound t.fit (goal_tree r.to) (goal_tree e.to) p s a k wp in
    let y = way_sound t.fit r.value e.value v a c x.fit wv in
    let z = ways_grow t es cs (set used j true) c left u ws y.fit in
    taken e es j r used left (swaps (goal_tree e.to) p) (swaps e.value v) (listed es cs) q free
    (way_alike t.fit (length holes) u b o (goal_tree r.to) (goal_tree e.to) p s a k (grows_on a c u y.grows z.grows) (row.places j r q) wp)
    (way_alike t.fit (length holes) u b o r.value e.value v a c x.fit z.grows (row.values j r q) wv)
    (ways_take_by t holes es cs (set used j true) c left u row ws y.fit b o)
