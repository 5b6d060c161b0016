-- What a way leaves fills the row's tree so that it is alike the tree.
use Rattle.std.proofs.Common.{◌≡◌, ◌⊎◌, ℕ, zero, suc, ◌==◌, Bool, true, false, cond, Option, Some, None, [], ◌∷◌, slice_get, set, inl, inr, refl, sym, subst, ap, arith}
use Rattle.std.proofs.lemmas.Bool.{eqb-true}
use Rattle.rtl_tree.specs.Trees.{Tree, Number, Symbol, CodeLabel, Read, Load, Unary, Binary, NoPair, AnyNumber, AnyName}
use Rattle.rtl_tree.specs.declared.cells.Cell.TheVariants.{Hard, Temp, Flag, Pc, Input, Output, Halt, Hole as RegisterHole}
use Rattle.rtl_tree.specs.Same.{same_cell, same_label}
use Rattle.rtl_tree.proofs.Equality.{same_cell-is, same_label-is}
use Rattle.md_rows.specs.declared.instance.Bound.{Bound}
use Rattle.md_rows.specs.declared.instance.Bound.TheVariants.{Reg, Num, Sym, Label}
use Rattle.md_rows.specs.Instances.{leaf_of}
use Rattle.md_match.specs.Slots.{Slots, Fit, put, put_slot, bound_of, same_bound}
use Rattle.md_match.specs.Find.{leaf}
use Rattle.md_match.specs.Searches.{filled_with, fill}
use Rattle.md_match.specs.Ways.{Choice, Way, at_leaf, at_load, at_unary, straight, crossed}
use Rattle.md_match.proofs.Filling.{Alike, IsHeld, IsFilled, Grows, IsFit}

clash : (u : Slots) → None ≡ Some u → ⊥
clash u e = cc

-- lists
pub get_same : (s : Slots) (h : ℕ) (o x : Option Bound) → slice_get s h ≡ Some o → slice_get (set s h x) h ≡ Some x
get_same [] h o x e = let k : None ≡ Some o = e in cc
get_same (y ∷ s) zero o x e = refl
get_same (y ∷ s) (suc h) o x e = get_same s h o x e

pub get_other : (s : Slots) (h j : ℕ) (x : Option Bound) → (j ≡ h → ⊥) → slice_get (set s h x) j ≡ slice_get s j
get_other [] h j x n = refl
get_other (y ∷ s) zero zero x n = absurd (n refl)
get_other (y ∷ s) zero (suc j) x n = refl
get_other (y ∷ s) (suc h) zero x n = refl
get_other (y ∷ s) (suc h) (suc j) x n = get_other s h j x (λ e. n (ap suc e))

same_bound-is : (c d : Bound) → same_bound c d ≡ true → c ≡ d
same_bound-is (Reg c) (Reg d) e = ap Reg (same_cell-is c d e)
same_bound-is (Num n) (Num m) e = ap Num (eqb-true n m e)
same_bound-is (Sym n) (Sym m) e = ap Sym (eqb-true n m e)
same_bound-is (Label l) (Label m) e = ap Label (same_label-is l m e)
same_bound-is _ _ e = let k : false ≡ true = e in cc

-- what a successful put leaves
record Put (f : Fit) (h : ℕ) (v : Bound) (s t : Slots) : Type 0 where
  there : slice_get t h ≡ Some (Some v)
  grows : Grows s t
  fit : IsFit f s → f h v ≡ true
  stays_fit : IsFit f s → IsFit f t

cond_some : (b : Bool) (x : Slots) (u : Slots) → cond b (Some x) None ≡ Some u → (b ≡ true) × (x ≡ u)
cond_some true x u e = (refl, cc)
cond_some false x u e = absurd (clash u e)

put_held : (f : Fit) (h : ℕ) (v u : Bound) (s : Slots) → slice_get s h ≡ Some (Some u) → u ≡ v → Put f h v s s
put_held f h v u s e q = record {
  there = cc;
  grows = record { still = λ j w p. p };
  fit = λ k. k.each h v cc;
  stays_fit = λ k. k;
}

pub same_or_not : (j h : ℕ) → (j ≡ h) ⊎ (j ≡ h → ⊥)
same_or_not zero zero = inl refl
same_or_not zero (suc h) = inr (λ e. omega arith)
same_or_not (suc j) zero = inr (λ e. omega arith)
same_or_not (suc j) (suc h) = elim (same_or_not j h) [ inl e ↦ inl (ap suc e) | inr n ↦ inr (λ e. n (omega arith)) ]

free_differs : (s : Slots) (h j : ℕ) (w : Bound) → slice_get s h ≡ Some None → slice_get s j ≡ Some (Some w) → j ≡ h → ⊥
free_differs s h j w e p q = let x = subst (λ (k : ℕ). slice_get s k ≡ Some (Some w)) q p in cc

put_each : (f : Fit) (h : ℕ) (v : Bound) (s : Slots) → slice_get s h ≡ Some None → f h v ≡ true → IsFit f s
    → (j : ℕ) (w : Bound) → slice_get (set s h (Some v)) j ≡ Some (Some w) → f j w ≡ true
put_each f h v s e q k j w p = elim (same_or_not j h) [
  | inl i ↦
      (let x : slice_get (set s h (Some v)) h ≡ Some (Some w) = subst (λ (n : ℕ). slice_get (set s h (Some v)) n ≡ Some (Some w)) i p in
      let y = get_same s h None (Some v) e in
      let z : v ≡ w = cc in
      subst (λ (n : ℕ). f n w ≡ true) (sym i) (subst (λ (n : Bound). f h n ≡ true) z q))
  | inr n ↦ (let y = get_other s h j (Some v) n in k.each j w cc)
]

put_free : (f : Fit) (h : ℕ) (v : Bound) (s : Slots) → slice_get s h ≡ Some None → f h v ≡ true → Put f h v s (set s h (Some v))
put_free f h v s e q = record {
  there = get_same s h None (Some v) e;
  grows = record { still = λ j w p. let y = get_other s h j (Some v) (free_differs s h j w e p) in cc };
  fit = λ k. q;
  stays_fit = λ k. record { each = put_each f h v s e q k };
}

put_at : (f : Fit) (h : ℕ) (v : Bound) (s t : Slots) (o : Option (Option Bound)) → slice_get s h ≡ o → put_slot f h v s o ≡ Some t → Put f h v s t
put_at f h v s t None e p = absurd (clash t p)
put_at f h v s t (Some (Some u)) e p =
    let x = cond_some (same_bound u v) s t p in
    subst (Put f h v s) x.1 (put_held f h v u s e (same_bound-is u v x.0))
put_at f h v s t (Some None) e p =
    let x = cond_some (f h v) (set s h (Some v)) t p in
    subst (Put f h v s) x.1 (put_free f h v s e x.0)

-- a value put in a hole
record Puts (f : Fit) (h : ℕ) (o : Option Bound) (s t : Slots) : Type 0 where
  value : Bound
  is : o ≡ Some value
  put : Put f h value s t

puts : (f : Fit) (h : ℕ) (o : Option Bound) (s t : Slots) → put f h o s ≡ Some t → Puts f h o s t
unfolding put
puts f h (Some v) s t p = record { value = v; is = refl; put = put_at f h v s t (slice_get s h) refl p }
puts f h None s t p = absurd (clash t p)

pub leaf_is : (e : Tree) (v : Bound) → bound_of e ≡ Some v → leaf_of v ≡ e
leaf_is (Number n) v p = let x : Num n ≡ v = cc in subst (λ (b : Bound). leaf_of b ≡ Number n) x refl
leaf_is (Symbol n) v p = let x : Sym n ≡ v = cc in subst (λ (b : Bound). leaf_of b ≡ Symbol n) x refl
leaf_is (CodeLabel n) v p = let x : Label n ≡ v = cc in subst (λ (b : Bound). leaf_of b ≡ CodeLabel n) x refl
leaf_is (Read (Hard n)) v p = let x : Reg (Hard n) ≡ v = cc in subst (λ (b : Bound). leaf_of b ≡ Read (Hard n)) x refl
leaf_is (Read (Temp n)) v p = let x : Reg (Temp n) ≡ v = cc in subst (λ (b : Bound). leaf_of b ≡ Read (Temp n)) x refl
leaf_is _ v p = let x : None ≡ Some v = p in cc

-- what a way leaves
pub record Sound (f : Fit) (r e : Tree) (s t : Slots) : Type 0 where
  pub grows : Grows s t
  pub alike : Alike (fill t r) e
  pub filled : IsFilled f t r
  pub fit : IsFit f t

pub alike_own : (a : Tree) → Alike a a
alike_own (Load w a) = (refl, alike_own a)
alike_own (Unary o a) = (refl, alike_own a)
alike_own (Binary o a b) = (refl, inl (alike_own a, alike_own b))
alike_own (Number n) = refl
alike_own (Symbol n) = refl
alike_own (CodeLabel n) = refl
alike_own (Read n) = refl
alike_own NoPair = refl
alike_own (AnyNumber n) = refl
alike_own (AnyName n) = refl

hole_alike : (hole e : Tree) (t : Slots) (h : ℕ) (v : Bound) → slice_get t h ≡ Some (Some v) → leaf_of v ≡ e → Alike (filled_with hole (slice_get t h)) e
hole_alike hole e t h v p q =
    subst (λ (o : Option (Option Bound)). Alike (filled_with hole o) e) (sym p)
    (subst (λ (x : Tree). Alike (leaf_of v) x) q (alike_own (leaf_of v)))

hole_held : (f : Fit) (e : Tree) (s t : Slots) (h : ℕ) → IsFit f s → (p : Puts f h (bound_of e) s t) → IsHeld f t h
hole_held f e s t h k p = record { value = p.value; held = p.put.there; fitting = p.put.fit k }

grows_same : (s t : Slots) → s ≡ t → Grows s t
grows_same s t e = subst (Grows s) e (record { still = λ h v p. p })

fit_same : (f : Fit) (s t : Slots) → s ≡ t → IsFit f s → IsFit f t
fit_same f s t e k = subst (IsFit f) e k

leaf_sound : (f : Fit) (r e : Tree) (s t : Slots) → IsFit f s → leaf f r e s ≡ Some t → Sound f r e s t
unfolding leaf
leaf_sound f (Read (RegisterHole h)) e s t k p =
    let x = puts f h (bound_of e) s t p in
    record {
      grows = x.put.grows;
      alike = hole_alike (Read (RegisterHole h)) e t h x.value x.put.there (leaf_is e x.value x.is);
      filled = hole_held f e s t h k x;
      fit = x.put.stays_fit k;
    }
leaf_sound f (AnyNumber h) e s t k p =
    let x = puts f h (bound_of e) s t p in
    record {
      grows = x.put.grows;
      alike = hole_alike (AnyNumber h) e t h x.value x.put.there (leaf_is e x.value x.is);
      filled = hole_held f e s t h k x;
      fit = x.put.stays_fit k;
    }
leaf_sound f (AnyName h) e s t k p =
    let x = puts f h (bound_of e) s t p in
    record {
      grows = x.put.grows;
      alike = hole_alike (AnyName h) e t h x.value x.put.there (leaf_is e x.value x.is);
      filled = hole_held f e s t h k x;
      fit = x.put.stays_fit k;
    }
leaf_sound f (Number n) (Number m) s t k p =
    let x = cond_some (n == m) s t p in
    record { grows = grows_same s t x.1; alike = ap Number (eqb-true n m x.0); filled = tt; fit = fit_same f s t x.1 k }
leaf_sound f (Symbol n) (Symbol m) s t k p =
    let x = cond_some (n == m) s t p in
    record { grows = grows_same s t x.1; alike = ap Symbol (eqb-true n m x.0); filled = tt; fit = fit_same f s t x.1 k }
leaf_sound f (CodeLabel n) (CodeLabel m) s t k p =
    let x = cond_some (same_label n m) s t p in
    record { grows = grows_same s t x.1; alike = ap CodeLabel (same_label-is n m x.0); filled = tt; fit = fit_same f s t x.1 k }
leaf_sound f NoPair NoPair s t k p =
    let x : s ≡ t = cc in
    record { grows = grows_same s t x; alike = refl; filled = tt; fit = fit_same f s t x k }
leaf_sound f (Read (Hard n)) (Read d) s t k p =
    let x = cond_some (same_cell (Hard n) d) s t p in
    record { grows = grows_same s t x.1; alike = ap Read (same_cell-is (Hard n) d x.0); filled = tt; fit = fit_same f s t x.1 k }
leaf_sound f (Read (Temp n)) (Read d) s t k p =
    let x = cond_some (same_cell (Temp n) d) s t p in
    record { grows = grows_same s t x.1; alike = ap Read (same_cell-is (Temp n) d x.0); filled = tt; fit = fit_same f s t x.1 k }
leaf_sound f (Read (Flag n)) (Read d) s t k p =
    let x = cond_some (same_cell (Flag n) d) s t p in
    record { grows = grows_same s t x.1; alike = ap Read (same_cell-is (Flag n) d x.0); filled = tt; fit = fit_same f s t x.1 k }
leaf_sound f (Read Pc) (Read d) s t k p =
    let x = cond_some (same_cell (Pc) d) s t p in
    record { grows = grows_same s t x.1; alike = ap Read (same_cell-is (Pc) d x.0); filled = tt; fit = fit_same f s t x.1 k }
leaf_sound f (Read Input) (Read d) s t k p =
    let x = cond_some (same_cell (Input) d) s t p in
    record { grows = grows_same s t x.1; alike = ap Read (same_cell-is (Input) d x.0); filled = tt; fit = fit_same f s t x.1 k }
leaf_sound f (Read Output) (Read d) s t k p =
    let x = cond_some (same_cell (Output) d) s t p in
    record { grows = grows_same s t x.1; alike = ap Read (same_cell-is (Output) d x.0); filled = tt; fit = fit_same f s t x.1 k }
leaf_sound f (Read Halt) (Read d) s t k p =
    let x = cond_some (same_cell (Halt) d) s t p in
    record { grows = grows_same s t x.1; alike = ap Read (same_cell-is (Halt) d x.0); filled = tt; fit = fit_same f s t x.1 k }
leaf_sound f _ _ s t k p = absurd (clash t p)

pub grows_on : (s m t : Slots) → Grows s m → Grows m t → Grows s t
grows_on s m t g h = record { still = λ i v p. h.still i v (g.still i v p) }

held_on : (f : Fit) (m t : Slots) (h : ℕ) → Grows m t → IsHeld f m h → IsHeld f t h
held_on f m t h g k = record { value = k.value; held = g.still h k.value k.held; fitting = k.fitting }

pub filled_on : (f : Fit) (m t : Slots) → Grows m t → (r : Tree) → IsFilled f m r → IsFilled f t r
filled_on f m t g (Read (RegisterHole h)) k = held_on f m t h g k
filled_on f m t g (AnyNumber h) k = held_on f m t h g k
filled_on f m t g (AnyName h) k = held_on f m t h g k
filled_on f m t g (Load w a) k = filled_on f m t g a k
filled_on f m t g (Unary o a) k = filled_on f m t g a k
filled_on f m t g (Binary o a b) k = (filled_on f m t g a k.0, filled_on f m t g b k.1)
filled_on f m t g _ k = tt

hole_fill : (f : Fit) (m t : Slots) (h : ℕ) (hole : Tree) → Grows m t → IsHeld f m h
    → filled_with hole (slice_get m h) ≡ filled_with hole (slice_get t h)
hole_fill f m t h hole g k = let x = k.held in let y = g.still h k.value k.held in ap (filled_with hole) cc

pub keeps_fill : (f : Fit) (m t : Slots) → Grows m t → (r : Tree) → IsFilled f m r → fill m r ≡ fill t r
keeps_fill f m t g (Read (RegisterHole h)) k = hole_fill f m t h (Read (RegisterHole h)) g k
keeps_fill f m t g (AnyNumber h) k = hole_fill f m t h (AnyNumber h) g k
keeps_fill f m t g (AnyName h) k = hole_fill f m t h (AnyName h) g k
keeps_fill f m t g (Load w a) k = ap (Load w) (keeps_fill f m t g a k)
keeps_fill f m t g (Unary o a) k = ap (Unary o) (keeps_fill f m t g a k)
keeps_fill f m t g (Binary o a b) k = let x = keeps_fill f m t g a k.0 in let y = keeps_fill f m t g b k.1 in cc
keeps_fill f m t g _ k = refl

pub alike_on : (f : Fit) (m t : Slots) → Grows m t → (r e : Tree) → IsFilled f m r → Alike (fill m r) e → Alike (fill t r) e
alike_on f m t g r e k h = subst (λ (x : Tree). Alike x e) (keeps_fill f m t g r k) h

pub way_sound : (f : Fit) (r e : Tree) (i : Choice) (s t : Slots) → IsFit f s → Way f r e i s t → Sound f r e s t
way_sound f _ _ _ _ _ k (at_leaf r e s t p) = leaf_sound f r e s t k p
way_sound f _ _ _ _ _ k (at_load w a c i s t p) =
    let x = way_sound f a c i s t k p in record { grows = x.grows; alike = (refl, x.alike); filled = x.filled; fit = x.fit }
way_sound f _ _ _ _ _ k (at_unary w a c i s t p) =
    let x = way_sound f a c i s t k p in record { grows = x.grows; alike = (refl, x.alike); filled = x.filled; fit = x.fit }
way_sound f _ _ _ _ _ k (straight o a b c d i j s m t p q) =
    let x = way_sound f a c i s m k p in
    let y = way_sound f b d j m t x.fit q in
    record {
      grows = grows_on s m t x.grows y.grows;
      alike = (refl, inl (alike_on f m t y.grows a c x.filled x.alike, y.alike));
      filled = (filled_on f m t y.grows a x.filled, y.filled);
      fit = y.fit;
    }
way_sound f _ _ _ _ _ k (crossed o a b c d i j s m t e p q) =
    let x = way_sound f b c i s m k p in
    let y = way_sound f a d j m t x.fit q in
    record {
      grows = grows_on s m t x.grows y.grows;
      alike = (refl, inr (e, (alike_on f m t y.grows b c x.filled x.alike, y.alike)));
      filled = (y.filled, filled_on f m t y.grows b x.filled);
      fit = y.fit;
    }
