-- `find` gives what the first way gives, and nothing exactly where no way goes on.
use Rattle.std.proofs.Common.{◌≡◌, ◌⊎◌, Bool, true, false, cond, Option, Some, None, inl, inr, refl, sym, subst}
use Rattle.rtl_tree.specs.Trees.{Tree, Number, Symbol, CodeLabel, Read, Load, Unary, Binary, NoPair, AnyNumber, AnyName}
use Rattle.rtl_tree.specs.declared.expressions.Width.{Width}
use Rattle.rtl_tree.specs.declared.expressions.UnOp.{UnOp}
use Rattle.rtl_tree.specs.declared.expressions.BinOp.{BinOp}
use Rattle.rtl_tree.specs.Likeness.{commutes}
use Rattle.rtl_tree.specs.Same.{same_width, same_unary, same_binary}
use Rattle.rtl_tree.proofs.Equality.{same_width-is, same_unary-is, same_binary-is, same_width-own, same_unary-own, same_binary-own}
use Rattle.md_match.specs.Slots.{Slots, Fit}
use Rattle.md_match.specs.Find.{leaf, find, then_go, or_else}
use Rattle.md_match.specs.Ways.{Choice, Here, Under, Straight, Crossed, Way, at_leaf, at_load, at_unary, straight, crossed, Before, under, unswapped, left_straight, right_straight, left_crossed, right_crossed, Found}

-- tests
clash : (u : Slots) → None ≡ Some u → ⊥
clash u e = cc

cond_some : (b : Bool) (x : Option Slots) (u : Slots) → cond b x None ≡ Some u → (b ≡ true) × (x ≡ Some u)
cond_some true x u e = (refl, e)
cond_some false x u e = absurd (clash u e)

cond_none : (b : Bool) (x : Option Slots) → cond b x None ≡ None → b ≡ true → x ≡ None
cond_none true x e t = e
cond_none false x e t = let k : false ≡ true = t in cc

or_some : (x y : Option Slots) (u : Slots) → or_else x y ≡ Some u → (x ≡ Some u) ⊎ ((x ≡ None) × (y ≡ Some u))
or_some (Some v) y u e = inl e
or_some None y u e = inr (refl, e)

or_none : (x y : Option Slots) → or_else x y ≡ None → (x ≡ None) × (y ≡ None)
or_none (Some v) y e = absurd (clash v (sym e))
or_none None y e = (refl, e)

-- the slots that choices lead to
abbrev follow : Fit → Choice → Tree → Tree → Slots → Option Slots
follow f Here r e s = leaf f r e s
follow f (Under i) (Load w a) (Load v c) s = follow f i a c s
follow f (Under i) (Unary o a) (Unary p c) s = follow f i a c s
follow f (Straight i j) (Binary o a b) (Binary p c d) s = then_go (follow f i a c s) (follow f j b d)
follow f (Crossed i j) (Binary o a b) (Binary p c d) s = then_go (follow f i b c s) (follow f j a d)
follow f _ _ _ _ = None

follow_is : (f : Fit) (r e : Tree) (i : Choice) (s t : Slots) → Way f r e i s t → follow f i r e s ≡ Some t
follow_is f _ _ _ _ _ (at_leaf r e s t p) = p
follow_is f _ _ _ _ _ (at_load w a c i s t p) = follow_is f a c i s t p
follow_is f _ _ _ _ _ (at_unary o a c i s t p) = follow_is f a c i s t p
follow_is f _ _ _ _ _ (straight o a b c d i j s m t p q) =
    subst (λ (x : Option Slots). then_go x (follow f j b d) ≡ Some t) (sym (follow_is f a c i s m p)) (follow_is f b d j m t q)
follow_is f _ _ _ _ _ (crossed o a b c d i j s m t h p q) =
    subst (λ (x : Option Slots). then_go x (follow f j a d) ≡ Some t) (sym (follow_is f b c i s m p)) (follow_is f a d j m t q)

-- no two ways have the same choices
pub way_same : (f : Fit) (r e : Tree) (i : Choice) (s t v : Slots) → Way f r e i s t → Way f r e i s v → t ≡ v
way_same f r e i s t v p q = let x = follow_is f r e i s t p in let y = follow_is f r e i s v q in cc

-- at a leaf
goes_on : (o : Option Slots) (k : Slots → Option Slots) (v : Slots) → o ≡ Some v → then_go o k ≡ k v
goes_on o k v q = subst (λ (x : Option Slots). then_go x k ≡ k v) (sym q) refl

leaf_find : (f : Fit) (r e : Tree) (k : Slots → Option Slots) (s v : Slots) → leaf f r e s ≡ Some v → find f r e k s ≡ k v
unfolding leaf
leaf_find f (Load w a) e k s v p = absurd (clash v p)
leaf_find f (Unary o a) e k s v p = absurd (clash v p)
leaf_find f (Binary o a b) e k s v p = absurd (clash v p)
leaf_find f (Number n) e k s v p = goes_on (leaf f (Number n) e s) k v p
leaf_find f (Symbol n) e k s v p = goes_on (leaf f (Symbol n) e s) k v p
leaf_find f (CodeLabel n) e k s v p = goes_on (leaf f (CodeLabel n) e s) k v p
leaf_find f (Read n) e k s v p = goes_on (leaf f (Read n) e s) k v p
leaf_find f NoPair e k s v p = goes_on (leaf f NoPair e s) k v p
leaf_find f (AnyNumber n) e k s v p = goes_on (leaf f (AnyNumber n) e s) k v p
leaf_find f (AnyName n) e k s v p = goes_on (leaf f (AnyName n) e s) k v p

-- where nothing is found, no way goes on
pub find_none : (f : Fit) (r e : Tree) (k : Slots → Option Slots) (s : Slots) → find f r e k s ≡ None
    → (j : Choice) (v : Slots) → Way f r e j s v → k v ≡ None
find_none f (Load w a) (Load _ c) k s n _ v (at_load _ _ _ i _ _ p) =
    find_none f a c k s (cond_none _ _ n (same_width-own w)) i v p
find_none f (Unary o a) (Unary _ c) k s n _ v (at_unary _ _ _ i _ _ p) =
    find_none f a c k s (cond_none _ _ n (same_unary-own o)) i v p
find_none f (Binary o a b) (Binary _ c d) k s n _ v (straight _ _ _ _ _ i j _ m _ p q) =
    let x : find f a c (find f b d k) s ≡ None = (or_none _ _ (cond_none _ _ n (same_binary-own o))).0 in
    find_none f b d k m (find_none f a c (find f b d k) s x i m p) j v q
find_none f (Binary o a b) (Binary _ c d) k s n _ v (crossed _ _ _ _ _ i j _ m _ h p q) =
    let y : find f b c (find f a d k) s ≡ None = cond_none _ _ (or_none _ _ (cond_none _ _ n (same_binary-own o))).1 h in
    find_none f a d k m (find_none f b c (find f a d k) s y i m p) j v q
find_none f r e k s n _ v (at_leaf _ _ _ _ p) = let x = leaf_find f r e k s v p in cc

not_here : (j i : Choice) → Before j i → i ≡ Here → ⊥
not_here _ _ (under i j b) e = cc
not_here _ _ (unswapped i j k l) e = cc
not_here _ _ (left_straight i j k l b) e = cc
not_here _ _ (right_straight i j l b) e = cc
not_here _ _ (left_crossed i j k l b) e = cc
not_here _ _ (right_crossed i j l b) e = cc

found_here : (f : Fit) (r e : Tree) (k : Slots → Option Slots) (s u : Slots) (o : Option Slots) → leaf f r e s ≡ o → then_go o k ≡ Some u → Found f r e k s u
found_here f r e k s u (Some t) p g = record {
  by = Here;
  to = t;
  way = at_leaf r e s t p;
  goes = g;
  first = λ j v w b. absurd (not_here j Here b refl);
}
found_here f r e k s u None p g = absurd (clash u g)

found_leaf : (f : Fit) (r e : Tree) (k : Slots → Option Slots) (s u : Slots) → then_go (leaf f r e s) k ≡ Some u → Found f r e k s u
found_leaf f r e k s u g = found_here f r e k s u (leaf f r e s) refl g

not_first : (i j : Choice) → Before i j → i ≡ Here → ⊥
not_first _ _ (under i j b) e = cc
not_first _ _ (unswapped i j k l) e = cc
not_first _ _ (left_straight i j k l b) e = cc
not_first _ _ (right_straight i j l b) e = cc
not_first _ _ (left_crossed i j k l b) e = cc
not_first _ _ (right_crossed i j l b) e = cc

-- what comes before the first way of a part comes to nothing
first_load : (f : Fit) (k : Slots → Option Slots) (w v : Width) (a c : Tree) (i : Choice) (s : Slots)
    → ((j : Choice) (x : Slots) → Way f a c j s x → Before j i → k x ≡ None)
    → (j : Choice) (x : Slots) → Way f (Load w a) (Load v c) j s x → Before j (Under i) → k x ≡ None
first_load f k w _ a c i s first _ x (at_load _ _ _ j _ _ p) (under _ _ b) = first j x p b
first_load f k w v a c i s first _ x (at_leaf _ _ _ _ p) b = absurd (not_first Here (Under i) b refl)

first_unary : (f : Fit) (k : Slots → Option Slots) (w v : UnOp) (a c : Tree) (i : Choice) (s : Slots)
    → ((j : Choice) (x : Slots) → Way f a c j s x → Before j i → k x ≡ None)
    → (j : Choice) (x : Slots) → Way f (Unary w a) (Unary v c) j s x → Before j (Under i) → k x ≡ None
first_unary f k w _ a c i s first _ x (at_unary _ _ _ j _ _ p) (under _ _ b) = first j x p b
first_unary f k w v a c i s first _ x (at_leaf _ _ _ _ p) b = absurd (not_first Here (Under i) b refl)

first_straight : (f : Fit) (k : Slots → Option Slots) (o q : BinOp) (a b c d : Tree) (i n : Choice) (s m : Slots)
    → Way f a c i s m
    → ((j : Choice) (x : Slots) → Way f a c j s x → Before j i → find f b d k x ≡ None)
    → ((j : Choice) (x : Slots) → Way f b d j m x → Before j n → k x ≡ None)
    → (j : Choice) (x : Slots) → Way f (Binary o a b) (Binary q c d) j s x → Before j (Straight i n) → k x ≡ None
first_straight f k o _ a b c d i n s m p left right _ x (straight _ _ _ _ _ j l _ y _ h g) (left_straight _ _ _ _ z) =
    find_none f b d k y (left j y h z) l x g
first_straight f k o _ a b c d i n s m p left right _ x (straight _ _ _ _ _ j l _ y _ h g) (right_straight _ _ _ z) =
    right l x (subst (λ (y : Slots). Way f b d l y x) (way_same f a c i s y m h p) g) z
first_straight f k o _ a b c d i n s m p left right _ x (crossed _ _ _ _ _ _ j _ _ _ _ _ _) z = elim z [ ]
first_straight f k o q a b c d i n s m p left right _ x (at_leaf _ _ _ _ h) z = absurd (not_first Here (Straight i n) z refl)

first_crossed : (f : Fit) (k : Slots → Option Slots) (o q : BinOp) (a b c d : Tree) (i n : Choice) (s m : Slots)
    → find f a c (find f b d k) s ≡ None
    → Way f b c i s m
    → ((j : Choice) (x : Slots) → Way f b c j s x → Before j i → find f a d k x ≡ None)
    → ((j : Choice) (x : Slots) → Way f a d j m x → Before j n → k x ≡ None)
    → (j : Choice) (x : Slots) → Way f (Binary o a b) (Binary q c d) j s x → Before j (Crossed i n) → k x ≡ None
first_crossed f k o _ a b c d i n s m e p left right _ x (straight _ _ _ _ _ j l _ y _ h g) z =
    find_none f b d k y (find_none f a c (find f b d k) s e j y h) l x g
first_crossed f k o _ a b c d i n s m e p left right _ x (crossed _ _ _ _ _ j l _ y _ t h g) (left_crossed _ _ _ _ z) =
    find_none f a d k y (left j y h z) l x g
first_crossed f k o _ a b c d i n s m e p left right _ x (crossed _ _ _ _ _ j l _ y _ t h g) (right_crossed _ _ _ z) =
    right l x (subst (λ (y : Slots). Way f a d l y x) (way_same f b c i s y m h p) g) z
first_crossed f k o q a b c d i n s m e p left right _ x (at_leaf _ _ _ _ h) z = absurd (not_first Here (Crossed i n) z refl)

found_load : (f : Fit) (k : Slots → Option Slots) (w v : Width) (a c : Tree) (s u : Slots) → w ≡ v → Found f a c k s u → Found f (Load w a) (Load v c) k s u
found_load f k w v a c s u e h = record {
  by = Under h.by;
  to = h.to;
  way = subst (λ (x : Width). Way f (Load w a) (Load x c) (Under h.by) s h.to) e (at_load w a c h.by s h.to h.way);
  goes = h.goes;
  first = first_load f k w v a c h.by s h.first;
}

found_unary : (f : Fit) (k : Slots → Option Slots) (w v : UnOp) (a c : Tree) (s u : Slots) → w ≡ v → Found f a c k s u → Found f (Unary w a) (Unary v c) k s u
found_unary f k w v a c s u e h = record {
  by = Under h.by;
  to = h.to;
  way = subst (λ (x : UnOp). Way f (Unary w a) (Unary x c) (Under h.by) s h.to) e (at_unary w a c h.by s h.to h.way);
  goes = h.goes;
  first = first_unary f k w v a c h.by s h.first;
}

found_straight : (f : Fit) (k : Slots → Option Slots) (o q : BinOp) (a b c d : Tree) (s u : Slots) → o ≡ q
    → (h : Found f a c (find f b d k) s u) → Found f b d k h.to u → Found f (Binary o a b) (Binary q c d) k s u
found_straight f k o q a b c d s u e h g = record {
  by = Straight h.by g.by;
  to = g.to;
  way = subst (λ (x : BinOp). Way f (Binary o a b) (Binary x c d) (Straight h.by g.by) s g.to) e
      (straight o a b c d h.by g.by s h.to g.to h.way g.way);
  goes = g.goes;
  first = first_straight f k o q a b c d h.by g.by s h.to h.way h.first g.first;
}

found_crossed : (f : Fit) (k : Slots → Option Slots) (o q : BinOp) (a b c d : Tree) (s u : Slots) → o ≡ q → commutes o ≡ true
    → find f a c (find f b d k) s ≡ None
    → (h : Found f b c (find f a d k) s u) → Found f a d k h.to u → Found f (Binary o a b) (Binary q c d) k s u
found_crossed f k o q a b c d s u e t n h g = record {
  by = Crossed h.by g.by;
  to = g.to;
  way = subst (λ (x : BinOp). Way f (Binary o a b) (Binary x c d) (Crossed h.by g.by) s g.to) e
      (crossed o a b c d h.by g.by s h.to g.to t h.way g.way);
  goes = g.goes;
  first = first_crossed f k o q a b c d h.by g.by s h.to n h.way h.first g.first;
}

pub find_some : (f : Fit) (r e : Tree) (k : Slots → Option Slots) (s u : Slots) → find f r e k s ≡ Some u → Found f r e k s u
find_some f (Load w a) (Load v c) k s u g =
    let x = cond_some (same_width w v) (find f a c k s) u g in
    found_load f k w v a c s u (same_width-is w v x.0) (find_some f a c k s u x.1)
find_some f (Unary o a) (Unary p c) k s u g =
    let x = cond_some (same_unary o p) (find f a c k s) u g in
    found_unary f k o p a c s u (same_unary-is o p x.0) (find_some f a c k s u x.1)
find_some f (Binary o a b) (Binary p c d) k s u g =
    let x = cond_some (same_binary o p)
    (or_else (find f a c (find f b d k) s) (cond (commutes o) (find f b c (find f a d k) s) None)) u g in
    elim (or_some (find f a c (find f b d k) s) (cond (commutes o) (find f b c (find f a d k) s) None) u x.1) [
      | inl y ↦
          (let h = find_some f a c (find f b d k) s u y in
          found_straight f k o p a b c d s u (same_binary-is o p x.0) h (find_some f b d k h.to u h.goes))
      | inr y ↦
          (let z = cond_some (commutes o) (find f b c (find f a d k) s) u y.1 in
          let h = find_some f b c (find f a d k) s u z.1 in
          found_crossed f k o p a b c d s u (same_binary-is o p x.0) z.0 y.0 h (find_some f a d k h.to u h.goes))
    ]
find_some f r e k s u g = found_leaf f r e k s u g
