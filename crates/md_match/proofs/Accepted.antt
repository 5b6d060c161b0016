-- What is accepted: the assignments without a mark, by place.
use Rattle.std.proofs.Common.{◌≡◌, ℕ, zero, suc, ◌≤◌, Bool, true, false, not, ◌&&◌, ◌||◌, List, [], ◌∷◌, length, slice_get, Some, None, inl, inr, refl, sym, subst, arith}
use Rattle.rtl_tree.specs.Trees.{Tree, Load, Unary, Binary}
use Rattle.rtl_tree.specs.Moves.{Move}
use Rattle.rtl_tree.proofs.Equality.{and_left, and_right, and_both}
use Rattle.md_match.specs.Searches.{Marks, is_marked, unary_traps, binary_traps, traps_pass, occurs_in_move, in_marked, others_pass}
use Rattle.md_match.specs.Does.{AllTraps, HasHolesBelow, IsMarked}
use Rattle.md_match.proofs.Binding.{or_true}

pub others_at : (p : Move → Bool) (row : List Move) (used : Marks) (j : ℕ) (r : Move) → others_pass p row used ≡ true
    → slice_get row j ≡ Some r → is_marked used j ≡ false → p r ≡ true
others_at p [] us j r a e m = let k : None ≡ Some r = e in cc
others_at p (x ∷ xs) [] j r a e m = let k : false ≡ true = a in cc
others_at p (x ∷ xs) (true ∷ us) zero r a e m = let k : true ≡ false = m in cc
others_at p (x ∷ xs) (false ∷ us) zero r a e m =
    let q : x ≡ r = cc in subst (λ y. p y ≡ true) q (and_left (p x) (others_pass p xs us) a)
others_at p (x ∷ xs) (u ∷ us) (suc j) r a e m = others_at p xs us j r (and_right (u || p x) (others_pass p xs us) a) e m

or_right : (u b : Bool) → (u ≡ false → b ≡ true) → (u || b) ≡ true
or_right true b k = refl
or_right false b k = k refl

pub others_all : (p : Move → Bool) (row : List Move) (used : Marks) → length row ≤ length used
    → ((j : ℕ) (r : Move) → slice_get row j ≡ Some r → is_marked used j ≡ false → p r ≡ true) → others_pass p row used ≡ true
others_all p [] us l k = refl
others_all p (x ∷ xs) [] l k = absurd (omega (arith, l))
others_all p (x ∷ xs) (u ∷ us) l k =
    and_both (u || p x) (others_pass p xs us) (or_right u (p x) (λ m. k 0 x refl m))
    (others_all p xs us (omega (arith, l)) (λ j r e m. k (suc j) r e m))

-- a marked assignment in which a tree occurs
pub record Occurs (g : Tree → Tree) (row : List Move) (used : Marks) (x : Tree) : Type 0 where
  pub move : Move
  pub marked : IsMarked row used true move
  pub part : occurs_in_move g x move ≡ true

later_occurs : (g : Tree → Tree) (r : Move) (row : List Move) (u : Bool) (used : Marks) (x : Tree) → Occurs g row used x → Occurs g (r ∷ row) (u ∷ used) x
later_occurs g r row u used x o = record {
  move = o.move;
  marked = record { place = suc o.marked.place; is = o.marked.is; marked = o.marked.marked };
  part = o.part;
}

pub marked_occurs : (g : Tree → Tree) (row : List Move) (used : Marks) (x : Tree) → in_marked g row used x ≡ true → Occurs g row used x
marked_occurs g [] us x e = let k : false ≡ true = e in cc
marked_occurs g (r ∷ rs) [] x e = let k : false ≡ true = e in cc
marked_occurs g (r ∷ rs) (u ∷ us) x e = elim (or_true (u && occurs_in_move g x r) (in_marked g rs us x) e) [
  | inl p ↦ record {
    move = r;
    marked = record { place = 0; is = refl; marked = and_left u (occurs_in_move g x r) p };
    part = and_right u (occurs_in_move g x r) p;
  }
  | inr p ↦ later_occurs g r rs u us x (marked_occurs g rs us x p)
]

or_first : (a b : Bool) → a ≡ true → (a || b) ≡ true
or_first true b e = refl
or_first false b e = let k : false ≡ true = e in cc

or_second : (a b : Bool) → b ≡ true → (a || b) ≡ true
or_second true b e = refl
or_second false b e = e

pub occurs_marked : (g : Tree → Tree) (row : List Move) (used : Marks) (x : Tree) (j : ℕ) (r : Move) → slice_get row j ≡ Some r
    → is_marked used j ≡ true → occurs_in_move g x r ≡ true → in_marked g row used x ≡ true
occurs_marked g [] us x j r e m o = let k : None ≡ Some r = e in cc
occurs_marked g (y ∷ ys) [] x j r e m o = let k : false ≡ true = m in cc
occurs_marked g (y ∷ ys) (u ∷ us) x zero r e m o =
    let q : y ≡ r = cc in
    or_first (u && occurs_in_move g x y) (in_marked g ys us x)
    (and_both u (occurs_in_move g x y) m (subst (λ z. occurs_in_move g x z ≡ true) (sym q) o))
occurs_marked g (y ∷ ys) (u ∷ us) x (suc j) r e m o =
    or_second (u && occurs_in_move g x y) (in_marked g ys us x) (occurs_marked g ys us x j r e m o)

-- nodes that can trap

under_test : (t b : Bool) → (not t || b) ≡ true → t ≡ true → b ≡ true
under_test true b e k = e
under_test false b e k = let q : false ≡ true = k in cc

to_test : (t b : Bool) → (t ≡ true → b ≡ true) → (not t || b) ≡ true
to_test true b k = k refl
to_test false b k = refl

pub all_traps : (n : ℕ) (q : Tree → Bool) (P : Tree → Type 0) → ((x : Tree) → HasHolesBelow n x → q x ≡ true → P x)
    → (t : Tree) → HasHolesBelow n t → traps_pass q t ≡ true → AllTraps P t
all_traps n q P k (Load w a) l e =
    (k (Load w a) l (and_left (q (Load w a)) (traps_pass q a) e), all_traps n q P k a l (and_right (q (Load w a)) (traps_pass q a) e))
all_traps n q P k (Unary o a) l e =
    let x = and_left (not (unary_traps o) || q (Unary o a)) (traps_pass q a) e in (
      λ t. k (Unary o a) l (under_test (unary_traps o) (q (Unary o a)) x t),
      all_traps n q P k a l (and_right (not (unary_traps o) || q (Unary o a)) (traps_pass q a) e),
    )
all_traps n q P k (Binary o a b) l e =
    let x = and_left (not (binary_traps o) || q (Binary o a b)) (traps_pass q a && traps_pass q b) e in
    let y = and_right (not (binary_traps o) || q (Binary o a b)) (traps_pass q a && traps_pass q b) e in (
      λ t. k (Binary o a b) l (under_test (binary_traps o) (q (Binary o a b)) x t),
      all_traps n q P k a l.0 (and_left (traps_pass q a) (traps_pass q b) y),
      all_traps n q P k b l.1 (and_right (traps_pass q a) (traps_pass q b) y),
    )
all_traps n q P k _ l e = tt

pub traps_all : (n : ℕ) (q : Tree → Bool) (P : Tree → Type 0) → ((x : Tree) → HasHolesBelow n x → P x → q x ≡ true)
    → (t : Tree) → HasHolesBelow n t → AllTraps P t → traps_pass q t ≡ true
traps_all n q P k (Load w a) l e =
    and_both (q (Load w a)) (traps_pass q a) (k (Load w a) l e.0) (traps_all n q P k a l e.1)
traps_all n q P k (Unary o a) l e =
    and_both (not (unary_traps o) || q (Unary o a)) (traps_pass q a)
    (to_test (unary_traps o) (q (Unary o a)) (λ t. k (Unary o a) l (e.0 t))) (traps_all n q P k a l e.1)
traps_all n q P k (Binary o a b) l e =
    and_both (not (binary_traps o) || q (Binary o a b)) (traps_pass q a && traps_pass q b)
    (to_test (binary_traps o) (q (Binary o a b)) (λ t. k (Binary o a b) l (e.0 t)))
    (and_both (traps_pass q a) (traps_pass q b) (traps_all n q P k a l.0 e.1) (traps_all n q P k b l.1 e.2))
traps_all n q P k _ l e = refl
