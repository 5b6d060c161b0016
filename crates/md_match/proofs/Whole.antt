-- Each filling that makes a row's tree alike a tree is reached by some choices.
use Rattle.std.proofs.Common.{◌≡◌, ℕ, ◌==◌, Bool, true, false, cond, Option, Some, None, slice_get, set, inl, inr, refl, sym, subst, eq-eqb}
use Rattle.rtl_tree.specs.Trees.{Tree, Number, Symbol, CodeLabel, Read, Load, Unary, Binary, NoPair, AnyNumber, AnyName}
use Rattle.rtl_tree.specs.declared.cells.Cell.TheVariants.{Hard, Temp, Flag, Pc, Input, Output, Halt, Hole as RegisterHole}
use Rattle.rtl_tree.specs.declared.expressions.Width.{Width}
use Rattle.rtl_tree.specs.declared.expressions.UnOp.{UnOp}
use Rattle.rtl_tree.specs.declared.expressions.BinOp.{BinOp}
use Rattle.rtl_tree.specs.Likeness.{commutes}
use Rattle.rtl_tree.specs.Same.{same_label}
use Rattle.rtl_tree.proofs.Equality.{same_cell-own, same_label-own}
use Rattle.md_rows.specs.declared.instance.Bound.{Bound}
use Rattle.md_rows.specs.declared.instance.Bound.TheVariants.{Reg, Num, Sym, Label}
use Rattle.md_rows.specs.Instances.{leaf_of}
use Rattle.md_match.specs.Slots.{Slots, Fit, put, put_slot, bound_of, same_bound}
use Rattle.md_match.specs.Find.{leaf}
use Rattle.md_match.specs.Searches.{filled_with, fill}
use Rattle.md_match.specs.Ways.{Choice, Here, Under, Straight, Crossed, Way, at_leaf, at_load, at_unary, straight, crossed}
use Rattle.md_match.proofs.Filling.{Alike, IsHeld, IsFilled, IsSane}
use Rattle.md_match.proofs.Sound.{get_same, get_other, same_or_not}

number_own : (n : ℕ) → (n == n) ≡ true
number_own n = eq-eqb n n refl

same_bound-own : (c : Bound) → same_bound c c ≡ true
same_bound-own (Reg c) = same_cell-own c
same_bound-own (Num n) = number_own n
same_bound-own (Sym n) = number_own n
same_bound-own (Label l) = same_label-own l

-- s holds a part of what b holds, and has the slots
pub record IsPartOf (f : Fit) (s b : Slots) : Type 0 where
  pub grows : (h : ℕ) (v : Bound) → slice_get s h ≡ Some (Some v) → slice_get b h ≡ Some (Some v)
  pub room : (h : ℕ) (v : Bound) → f h v ≡ true → slice_get s h ≡ None → ⊥

record Placed (f : Fit) (h : ℕ) (v : Bound) (s b : Slots) : Type 0 where
  to : Slots
  is : put f h (Some v) s ≡ Some to
  below : IsPartOf f to b

pass : (b : Bool) (s : Slots) → b ≡ true → cond b (Some s) None ≡ Some s
pass true s e = refl
pass false s e = let k : false ≡ true = e in cc

place_held : (f : Fit) (h : ℕ) (v u : Bound) (s b : Slots) → IsPartOf f s b → slice_get b h ≡ Some (Some v) → slice_get s h ≡ Some (Some u)
    → put_slot f h v s (Some (Some u)) ≡ Some s
place_held f h v u s b k p q =
    let x = k.grows h u q in
    let y : u ≡ v = cc in
    pass (same_bound u v) s (subst (λ (n : Bound). same_bound u n ≡ true) y (same_bound-own u))

place_free : (f : Fit) (h : ℕ) (v : Bound) (s b : Slots) → IsPartOf f s b → slice_get b h ≡ Some (Some v) → slice_get s h ≡ Some None
    → IsPartOf f (set s h (Some v)) b
place_free f h v s b k p q = record {
  grows = λ j w e. elim (same_or_not j h) [
    | inl i ↦
        (let x : slice_get (set s h (Some v)) h ≡ Some (Some w) = subst (λ (n : ℕ). slice_get (set s h (Some v)) n ≡ Some (Some w)) i e in
        let y = get_same s h None (Some v) q in
        let z : v ≡ w = cc in
        subst (λ (n : ℕ). slice_get b n ≡ Some (Some w)) (sym i) (subst (λ (n : Bound). slice_get b h ≡ Some (Some n)) z p))
    | inr n ↦ (let y = get_other s h j (Some v) n in k.grows j w cc)
  ];
  room = λ j w e n. elim (same_or_not j h) [
    | inl i ↦
        (let x : slice_get (set s h (Some v)) h ≡ None = subst (λ (m : ℕ). slice_get (set s h (Some v)) m ≡ None) i n in
        let y = get_same s h None (Some v) q in
        let z : None ≡ Some (Some v) = cc in cc)
    | inr m ↦ (let y = get_other s h j (Some v) m in k.room j w e cc)
  ];
}

place_at : (f : Fit) (h : ℕ) (v : Bound) (s b : Slots) → IsPartOf f s b → slice_get b h ≡ Some (Some v) → f h v ≡ true
    → (o : Option (Option Bound)) → slice_get s h ≡ o → Placed f h v s b
unfolding put
place_at f h v s b k p e None q = absurd (k.room h v e q)
place_at f h v s b k p e (Some (Some u)) q = record {
  to = s;
  is = subst (λ (o : Option (Option Bound)). put_slot f h v s o ≡ Some s) (sym q) (place_held f h v u s b k p q);
  below = k;
}
place_at f h v s b k p e (Some None) q = record {
  to = set s h (Some v);
  is = subst (λ (o : Option (Option Bound)). put_slot f h v s o ≡ Some (set s h (Some v))) (sym q) (pass (f h v) (set s h (Some v)) e);
  below = place_free f h v s b k p q;
}

pub record Reached (f : Fit) (r e : Tree) (s b : Slots) : Type 0 where
  pub by : Choice
  pub to : Slots
  pub way : Way f r e by s to
  pub below : IsPartOf f to b

alike_leaf : (v : Bound) (e : Tree) → Alike (leaf_of v) e → leaf_of v ≡ e
alike_leaf (Reg c) e h = h
alike_leaf (Num n) e h = h
alike_leaf (Sym n) e h = h
alike_leaf (Label l) e h = h

-- what a hole holds is the value of the tree
hole_value : (f : Fit) (hole e : Tree) (h : ℕ) (b : Slots) → IsSane f → (k : IsHeld f b h) → Alike (filled_with hole (slice_get b h)) e
    → bound_of e ≡ Some k.value
hole_value f hole e h b sane k a =
    let x : Alike (leaf_of k.value) e = subst (λ (o : Option (Option Bound)). Alike (filled_with hole o) e) k.held a in
    subst (λ (t : Tree). bound_of t ≡ Some k.value) (alike_leaf k.value e x) (sane.leafy h k.value k.fitting)

reach_hole : (f : Fit) (hole e : Tree) (h : ℕ) (s b : Slots) → IsSane f → IsPartOf f s b → (k : IsHeld f b h)
    → Alike (filled_with hole (slice_get b h)) e
    → ((t : Slots) → put f h (bound_of e) s ≡ Some t → leaf f hole e s ≡ Some t)
    → Reached f hole e s b
reach_hole f hole e h s b sane u k a computes =
    let x = hole_value f hole e h b sane k a in
    let y = place_at f h k.value s b u k.held k.fitting (slice_get s h) refl in
    record {
      by = Here;
      to = y.to;
      way = at_leaf hole e s y.to (computes y.to (subst (λ (o : Option Bound). put f h o s ≡ Some y.to) (sym x) y.is));
      below = y.below;
    }

reach_same : (f : Fit) (r e : Tree) (s b : Slots) → IsPartOf f s b → r ≡ e → leaf f r r s ≡ Some s → Reached f r e s b
reach_same f r e s b u q p = record {
  by = Here;
  to = s;
  below = u;
  way = at_leaf r e s s (subst (λ (x : Tree). leaf f r x s ≡ Some s) q p);
}

reach_load : (f : Fit) (w v : Width) (a c : Tree) (s b : Slots) → w ≡ v → Reached f a c s b → Reached f (Load w a) (Load v c) s b
reach_load f w v a c s b e x = record {
  by = Under x.by;
  to = x.to;
  below = x.below;
  way = subst (λ (y : Width). Way f (Load w a) (Load y c) (Under x.by) s x.to) e (at_load w a c x.by s x.to x.way);
}

reach_unary : (f : Fit) (w v : UnOp) (a c : Tree) (s b : Slots) → w ≡ v → Reached f a c s b → Reached f (Unary w a) (Unary v c) s b
reach_unary f w v a c s b e x = record {
  by = Under x.by;
  to = x.to;
  below = x.below;
  way = subst (λ (y : UnOp). Way f (Unary w a) (Unary y c) (Under x.by) s x.to) e (at_unary w a c x.by s x.to x.way);
}

reach_straight : (f : Fit) (w v : BinOp) (a b c d : Tree) (s u : Slots) → w ≡ v
    → (x : Reached f a c s u) → Reached f b d x.to u → Reached f (Binary w a b) (Binary v c d) s u
reach_straight f w v a b c d s u e x y = record {
  by = Straight x.by y.by;
  to = y.to;
  below = y.below;
  way = subst (λ (z : BinOp). Way f (Binary w a b) (Binary z c d) (Straight x.by y.by) s y.to) e
      (straight w a b c d x.by y.by s x.to y.to x.way y.way);
}

reach_crossed : (f : Fit) (w v : BinOp) (a b c d : Tree) (s u : Slots) → w ≡ v → commutes w ≡ true
    → (x : Reached f b c s u) → Reached f a d x.to u → Reached f (Binary w a b) (Binary v c d) s u
reach_crossed f w v a b c d s u e t x y = record {
  by = Crossed x.by y.by;
  to = y.to;
  below = y.below;
  way = subst (λ (z : BinOp). Way f (Binary w a b) (Binary z c d) (Crossed x.by y.by) s y.to) e
      (crossed w a b c d x.by y.by s x.to y.to t x.way y.way);
}

pub way_whole : (f : Fit) → IsSane f → (r e : Tree) (s b : Slots) → IsPartOf f s b → IsFilled f b r → Alike (fill b r) e → Reached f r e s b
unfolding leaf
way_whole f sane (Read (RegisterHole h)) e s b u k a = reach_hole f (Read (RegisterHole h)) e h s b sane u k a (λ t p. p)
way_whole f sane (AnyNumber h) e s b u k a = reach_hole f (AnyNumber h) e h s b sane u k a (λ t p. p)
way_whole f sane (AnyName h) e s b u k a = reach_hole f (AnyName h) e h s b sane u k a (λ t p. p)
way_whole f sane (Number n) e s b u k a = reach_same f (Number n) e s b u a (pass (n == n) s (number_own n))
way_whole f sane (Symbol n) e s b u k a = reach_same f (Symbol n) e s b u a (pass (n == n) s (number_own n))
way_whole f sane (CodeLabel n) e s b u k a = reach_same f (CodeLabel n) e s b u a (pass (same_label n n) s (same_label-own n))
way_whole f sane NoPair e s b u k a = reach_same f NoPair e s b u a refl
way_whole f sane (Read (Hard n)) e s b u k a = reach_same f (Read (Hard n)) e s b u a (pass (n == n) s (number_own n))
way_whole f sane (Read (Temp n)) e s b u k a = reach_same f (Read (Temp n)) e s b u a (pass (n == n) s (number_own n))
way_whole f sane (Read (Flag n)) e s b u k a = reach_same f (Read (Flag n)) e s b u a (pass (n == n) s (number_own n))
way_whole f sane (Read Pc) e s b u k a = reach_same f (Read Pc) e s b u a refl
way_whole f sane (Read Input) e s b u k a = reach_same f (Read Input) e s b u a refl
way_whole f sane (Read Output) e s b u k a = reach_same f (Read Output) e s b u a refl
way_whole f sane (Read Halt) e s b u k a = reach_same f (Read Halt) e s b u a refl
way_whole f sane (Load w x) (Load v y) s b u k a = reach_load f w v x y s b a.0 (way_whole f sane x y s b u k a.1)
way_whole f sane (Unary w x) (Unary v y) s b u k a = reach_unary f w v x y s b a.0 (way_whole f sane x y s b u k a.1)
way_whole f sane (Binary w x z) (Binary v y q) s b u k a = elim a.1 [
  | inl p ↦
      (let h = way_whole f sane x y s b u k.0 p.0 in
      reach_straight f w v x z y q s b a.0 h (way_whole f sane z q h.to b h.below k.1 p.1))
  | inr p ↦
      (let h = way_whole f sane z y s b u k.1 p.1.0 in
      reach_crossed f w v x z y q s b a.0 p.0 h (way_whole f sane x q h.to b h.below k.0 p.1.1))
]
way_whole f sane r e s b u k a = let q : fill b r ≡ e = a in cc
