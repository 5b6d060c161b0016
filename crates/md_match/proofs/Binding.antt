-- Bindings and slots: what the holes hold, and the trees that they fill.
use Rattle.std.proofs.Common.{◌≡◌, ◌⊎◌, ℕ, zero, suc, ◌<◌, ◌≤◌, Bool, true, false, ◌||◌, List, [], ◌∷◌, map, length, take, slice_get, Option, Some, None, inl, inr, refl, sym, subst, ap, arith, ◌∙◌}
use Rattle.std.proofs.lemmas.Option.{slice_get_within}
use Rattle.std.proofs.lemmas.List.{length-take-le}
use Rattle.std.proofs.lemmas.Bool.{eqb-true}
use Rattle.rtl_tree.specs.Trees.{Tree, Number, Symbol, CodeLabel, Read, Load, Unary, Binary, NoPair, AnyNumber, AnyName}
use Rattle.rtl_tree.specs.declared.cells.Cell.TheVariants.{Hard, Temp, Flag, Pc, Input, Output, Halt, Hole as RegisterHole}
use Rattle.md_rows.specs.declared.row.Hole.{Hole}
use Rattle.md_rows.specs.declared.row.Hole.TheVariants.{Reg as RegHole, Num as NumHole, Sym as SymHole, Label as LabelHole}
use Rattle.md_rows.specs.declared.instance.Bound.{Bound}
use Rattle.md_rows.specs.declared.instance.Bound.TheVariants.{Reg, Num, Sym, Label}
use Rattle.md_rows.specs.Fits.{fits}
use Rattle.md_rows.specs.Instances.{leaf_of, held_by, filled, AllFit}
use Rattle.md_match.specs.Slots.{Slots, no_slots, Fit, bound_of, fit_at, fit_of}
use Rattle.md_match.specs.Searches.{fill, filled_with, all_held, occurs_by}
use Rattle.md_match.specs.Does.{has_hole, HasHolesBelow, known}
use Rattle.md_match.proofs.Filling.{IsHeld, IsFilled, IsSane}

-- the first n holes hold in u what b binds them to
pub record Holds (n : ℕ) (u : Slots) (b : List Bound) : Type 0 where
  pub each : (h : ℕ) → h < n → (v : Bound) × (slice_get u h ≡ Some (Some v)) × (slice_get b h ≡ Some v)

hole_same : (hole : Tree) (u : Slots) (b : List Bound) (h : ℕ) (v : Bound) → slice_get u h ≡ Some (Some v) → slice_get b h ≡ Some v
    → filled_with hole (slice_get u h) ≡ held_by hole (slice_get b h)
hole_same hole u b h v p q = ap (filled_with hole) p ∙ ap (held_by hole) (sym q)

hole_by : (n : ℕ) (u : Slots) (b : List Bound) → Holds n u b → (hole : Tree) (h : ℕ) → h < n
    → filled_with hole (slice_get u h) ≡ held_by hole (slice_get b h)
hole_by n u b k hole h l = let x = k.each h l in hole_same hole u b h x.0 x.1 x.2

pub fill_filled : (n : ℕ) (u : Slots) (b : List Bound) → Holds n u b → (t : Tree) → HasHolesBelow n t → fill u t ≡ filled b t
fill_filled n u b k (Read (RegisterHole h)) l = hole_by n u b k (Read (RegisterHole h)) h l
fill_filled n u b k (AnyNumber h) l = hole_by n u b k (AnyNumber h) h l
fill_filled n u b k (AnyName h) l = hole_by n u b k (AnyName h) h l
fill_filled n u b k (Load w a) l = ap (Load w) (fill_filled n u b k a l)
fill_filled n u b k (Unary o a) l = ap (Unary o) (fill_filled n u b k a l)
fill_filled n u b k (Binary o a c) l = let x = fill_filled n u b k a l.0 in let y = fill_filled n u b k c l.1 in cc
fill_filled n u b k (Number m) l = refl
fill_filled n u b k (Symbol m) l = refl
fill_filled n u b k (CodeLabel m) l = refl
fill_filled n u b k NoPair l = refl
fill_filled n u b k (Read (Hard m)) l = refl
fill_filled n u b k (Read (Temp m)) l = refl
fill_filled n u b k (Read (Flag m)) l = refl
fill_filled n u b k (Read Pc) l = refl
fill_filled n u b k (Read Input) l = refl
fill_filled n u b k (Read Output) l = refl
fill_filled n u b k (Read Halt) l = refl

-- the holes of a binding's own slots
pub own_holds : (b : List Bound) (n : ℕ) → length b ≡ n → Holds n (map Some b) b
own_holds b n e = record { each = λ h l. own_at b h (subst (λ m. h < m) (sym e) l) }
  where
    own_at : (b : List Bound) (h : ℕ) → h < length b → (v : Bound) × (slice_get (map Some b) h ≡ Some (Some v)) × (slice_get b h ≡ Some v)
    own_at [] h l = absurd (omega (arith, l))
    own_at (v ∷ vs) zero l = (v, refl, refl)
    own_at (v ∷ vs) (suc h) l = own_at vs h (omega (arith, l))

pub held_in_own : (b : List Bound) (h : ℕ) (v : Bound) → slice_get (map Some b) h ≡ Some (Some v) → slice_get b h ≡ Some v
held_in_own [] h v e = let k : None ≡ Some (Some v) = e in cc
held_in_own (x ∷ xs) zero v e = cc
held_in_own (x ∷ xs) (suc h) v e = held_in_own xs h v e

pub or_true : (a b : Bool) → (a || b) ≡ true → (a ≡ true) ⊎ (b ≡ true)
or_true true b e = inl refl
or_true false b e = inr e

-- each hole that a tree has is held where it is filled
pub filled_has : (f : Fit) (u : Slots) (h : ℕ) (t : Tree) → IsFilled f u t → has_hole h t ≡ true → IsHeld f u h
filled_has f u h (Read (RegisterHole k)) i e = subst (IsHeld f u) (sym (eqb-true h k e)) i
filled_has f u h (AnyNumber k) i e = subst (IsHeld f u) (sym (eqb-true h k e)) i
filled_has f u h (AnyName k) i e = subst (IsHeld f u) (sym (eqb-true h k e)) i
filled_has f u h (Load w a) i e = filled_has f u h a i e
filled_has f u h (Unary o a) i e = filled_has f u h a i e
filled_has f u h (Binary o a c) i e = elim (or_true (has_hole h a) (has_hole h c) e) [
  | inl p ↦ filled_has f u h a i.0 p
  | inr p ↦ filled_has f u h c i.1 p
]
filled_has f u h _ i e = let k : false ≡ true = e in cc

-- a whole binding fills each tree of the row
pub whole_filled : (f : Fit) (n : ℕ) (u : Slots) → ((h : ℕ) → h < n → IsHeld f u h) → (t : Tree) → HasHolesBelow n t → IsFilled f u t
whole_filled f n u k (Read (RegisterHole h)) l = k h l
whole_filled f n u k (AnyNumber h) l = k h l
whole_filled f n u k (AnyName h) l = k h l
whole_filled f n u k (Load w a) l = whole_filled f n u k a l
whole_filled f n u k (Unary o a) l = whole_filled f n u k a l
whole_filled f n u k (Binary o a c) l = (whole_filled f n u k a l.0, whole_filled f n u k c l.1)
whole_filled f n u k _ l = tt

-- values that fit, by place
pub fit_each : (w g : ℕ) (holes : List Hole) (b : List Bound) → AllFit w g holes b → (h : ℕ) (v : Bound) → slice_get b h ≡ Some v
    → fit_of w g holes h v ≡ true
fit_each w g [] [] a h v e = let k : None ≡ Some v = e in cc
fit_each w g (x ∷ xs) (y ∷ ys) a zero v e = let q : y ≡ v = cc in subst (λ z. fits w g x z ≡ true) q a.0
fit_each w g (x ∷ xs) (y ∷ ys) a (suc h) v e = fit_each w g xs ys a.1 h v e
fit_each w g [] (y ∷ ys) a h v e = absurd a
fit_each w g (x ∷ xs) [] a h v e = absurd a

pub fit_length : (w g : ℕ) (holes : List Hole) (b : List Bound) → AllFit w g holes b → length b ≡ length holes
fit_length w g [] [] a = refl
fit_length w g (x ∷ xs) (y ∷ ys) a = ap suc (fit_length w g xs ys a.1)
fit_length w g [] (y ∷ ys) a = absurd a
fit_length w g (x ∷ xs) [] a = absurd a

pub fit_all : (w g : ℕ) (holes : List Hole) (b : List Bound) → length b ≡ length holes
    → ((h : ℕ) (v : Bound) → slice_get b h ≡ Some v → fit_of w g holes h v ≡ true) → AllFit w g holes b
fit_all w g [] [] e k = tt
fit_all w g (x ∷ xs) (y ∷ ys) e k = (k 0 y refl, fit_all w g xs ys (omega (arith, e)) (λ h v p. k (suc h) v p))
fit_all w g [] (y ∷ ys) e k = absurd (omega (arith, e))
fit_all w g (x ∷ xs) [] e k = absurd (omega (arith, e))

-- what fits can be a leaf's value
sane_at : (w g : ℕ) (o : Option Hole) (v : Bound) → fit_at w g o v ≡ true → bound_of (leaf_of v) ≡ Some v
sane_at w g o (Num n) e = refl
sane_at w g o (Sym n) e = refl
sane_at w g o (Label n) e = refl
sane_at w g o (Reg (Hard n)) e = refl
sane_at w g o (Reg (Temp n)) e = refl
sane_at w g (Some (RegHole c)) (Reg _) e = let k : false ≡ true = e in cc
sane_at w g (Some (NumHole a b c)) (Reg _) e = let k : false ≡ true = e in cc
sane_at w g (Some SymHole) (Reg _) e = let k : false ≡ true = e in cc
sane_at w g (Some LabelHole) (Reg _) e = let k : false ≡ true = e in cc
sane_at w g None (Reg _) e = let k : false ≡ true = e in cc

pub sane : (w g : ℕ) (holes : List Hole) → IsSane (fit_of w g holes)
sane w g holes = record { leafy = λ h v e. sane_at w g (slice_get holes h) v e }

room_at : (w g : ℕ) (holes : List Hole) (h : ℕ) (v : Bound) (o : Option Hole) → slice_get holes h ≡ o → fit_at w g o v ≡ true → h < length holes
room_at w g holes h v (Some x) q e = slice_get_within holes h x q
room_at w g holes h v None q e = let k : false ≡ true = e in cc

pub room : (w g : ℕ) (holes : List Hole) (h : ℕ) (v : Bound) → fit_of w g holes h v ≡ true → h < length holes
room w g holes h v e = room_at w g holes h v (slice_get holes h) refl e

-- slots of which nothing is known
abbrev nones : ℕ → Slots
nones zero = []
nones (suc n) = None ∷ nones n

none_in : (n h : ℕ) (v : Bound) → slice_get (nones n) h ≡ Some (Some v) → ⊥
none_in zero h v e = let k : None ≡ Some (Some v) = e in cc
none_in (suc n) zero v e = let k : Some None ≡ Some (Some v) = e in cc
none_in (suc n) (suc h) v e = none_in n h v e

room_in : (n h : ℕ) → h < n → slice_get (nones n) h ≡ None → ⊥
room_in zero h l e = omega (arith, l)
room_in (suc n) zero l e = let k : Some None ≡ None = e in cc
room_in (suc n) (suc h) l e = room_in n h (omega (arith, l)) e

pub none_held : (h : ℕ) (v : Bound) → slice_get no_slots h ≡ Some (Some v) → ⊥
none_held h v e = none_in 8 h v e

pub none_room : (h : ℕ) → h < 8 → slice_get no_slots h ≡ None → ⊥
none_room h l e = room_in 8 h l e

-- values that are all known
pub known_at : (s : Slots) (h : ℕ) (v : Bound) → all_held s ≡ true → slice_get (known s) h ≡ Some v → slice_get s h ≡ Some (Some v)
known_at [] h v a e = let k : None ≡ Some v = e in cc
known_at (Some x ∷ s) zero v a e = let q : x ≡ v = cc in ap (λ y. Some (Some y)) q
known_at (Some x ∷ s) (suc h) v a e = known_at s h v a e
known_at (None ∷ s) h v a e = let k : false ≡ true = a in cc

pub known_length : (s : Slots) → all_held s ≡ true → length (known s) ≡ length s
known_length [] a = refl
known_length (Some x ∷ s) a = ap suc (known_length s a)
known_length (None ∷ s) a = let k : false ≡ true = a in cc

pub taken_at : (n : ℕ) (s : Slots) (h : ℕ) → h < n → slice_get (take n s) h ≡ slice_get s h
taken_at zero s h l = absurd (omega (arith, l))
taken_at (suc n) [] h l = refl
taken_at (suc n) (x ∷ s) zero l = refl
taken_at (suc n) (x ∷ s) (suc h) l = taken_at n s h (omega (arith, l))

pub held_all : (n : ℕ) (s : Slots) → ((h : ℕ) → h < n → (v : Bound) × (slice_get s h ≡ Some (Some v))) → all_held (take n s) ≡ true
held_all zero s k = refl
held_all (suc n) [] k = refl
held_all (suc n) (Some x ∷ s) k = held_all n s (λ h l. k (suc h) (omega (arith, l)))
held_all (suc n) (None ∷ s) k = let x = k 0 (omega arith) in let y : Some None ≡ Some (Some x.0) = x.1 in cc

known_here : (s : Slots) (h : ℕ) → all_held s ≡ true → h < length s → (v : Bound) × (slice_get s h ≡ Some (Some v)) × (slice_get (known s) h ≡ Some v)
known_here [] h a l = absurd (omega (arith, l))
known_here (Some x ∷ s) zero a l = (x, refl, refl)
known_here (Some x ∷ s) (suc h) a l = known_here s h a (omega (arith, l))
known_here (None ∷ s) h a l = let k : false ≡ true = a in cc

-- slots whose first n are known hold the binding of these
pub known_holds : (n : ℕ) (u : Slots) → n ≤ length u → all_held (take n u) ≡ true → Holds n u (known (take n u))
known_holds n u l a = record {
  each = λ h i.
      (let long : length (take n u) ≡ n = length-take-le n u l in
      let x = known_here (take n u) h a (subst (λ m. h < m) (sym long) i) in
      (x.0, sym (taken_at n u h i) ∙ x.1, x.2));
}

-- two fillings that agree on a row's trees make the same subtrees
pub occurs_same : (n : ℕ) (g k : Tree → Tree) → ((t : Tree) → HasHolesBelow n t → g t ≡ k t) → (x : Tree) → HasHolesBelow n x
    → (t : Tree) → HasHolesBelow n t → occurs_by g x t ≡ occurs_by k x t
occurs_same n g k e x i (Load w a) l =
    let p = e x i in let q = e (Load w a) l in let r = occurs_same n g k e x i a l in cc
occurs_same n g k e x i (Unary o a) l =
    let p = e x i in let q = e (Unary o a) l in let r = occurs_same n g k e x i a l in cc
occurs_same n g k e x i (Binary o a b) l =
    let p = e x i in let q = e (Binary o a b) l in let r = occurs_same n g k e x i a l.0 in let s = occurs_same n g k e x i b l.1 in cc
occurs_same n g k e x i (Number m) l = let p = e x i in let q = e (Number m) l in cc
occurs_same n g k e x i (Symbol m) l = let p = e x i in let q = e (Symbol m) l in cc
occurs_same n g k e x i (CodeLabel m) l = let p = e x i in let q = e (CodeLabel m) l in cc
occurs_same n g k e x i (Read m) l = let p = e x i in let q = e (Read m) l in cc
occurs_same n g k e x i NoPair l = let p = e x i in let q = e NoPair l in cc
occurs_same n g k e x i (AnyNumber m) l = let p = e x i in let q = e (AnyNumber m) l in cc
occurs_same n g k e x i (AnyName m) l = let p = e x i in let q = e (AnyName m) l in cc
