-- No two assigned registers become one: the test, and the fact.
use Rattle.std.proofs.Common.{◌≡◌, ◌≢◌, ℕ, zero, suc, Bool, true, false, not, List, [], ◌∷◌, slice_get, get_or, Option, Some, None, refl, sym, subst, ap, arith, ◌∙◌}
use Rattle.std.specs.Prelude.{AllPairs, filter_map}
use Rattle.std.specs.List.{All, cons_option}
use Rattle.std.proofs.lemmas.Option.{slice_get_within, slice_get-get_or, get_or_from_slice_get}
use Rattle.std.proofs.lemmas.List.Kept.{AllPairs-cons}
use Rattle.rtl_tree.proofs.Pairs.{AllPairs-first, AllPairs-rest}
use Rattle.rtl_tree.specs.Moves.{Goal, ToCell, ToMemory, Move}
use Rattle.rtl_tree.specs.Same.{same_cell}
use Rattle.rtl_tree.specs.declared.cells.Cell.{Cell}
use Rattle.rtl_tree.specs.declared.cells.Cell.TheVariants.{Hard, Temp, Flag, Pc, Input, Output, Halt, Hole as RegisterHole}
use Rattle.rtl_tree.proofs.Equality.{and_left, and_right, and_both, same_cell-is, same_cell-own}
use Rattle.md_rows.specs.declared.instance.Bound.{Bound}
use Rattle.md_rows.specs.declared.instance.Bound.TheVariants.{Reg, Num, Sym, Label}
use Rattle.md_rows.specs.Instances.{filled_goal, assigned_register, register_by}
use Rattle.md_match.specs.Slots.{Slots}
use Rattle.md_match.specs.Searches.{goal_tree, held_register, assigned_by, same_register, apart_from, all_apart}
use Rattle.md_match.specs.Does.{HasHolesBelow}
use Rattle.md_match.proofs.Binding.{Holds}

held_same : (h : ℕ) (v : Bound) → held_register (Some (Some v)) ≡ assigned_register (ToCell (register_by (RegisterHole h) (Some v)))
held_same h (Reg (Hard k)) = refl
held_same h (Reg (Temp k)) = refl
held_same h (Reg (Flag k)) = refl
held_same h (Reg (RegisterHole k)) = refl
held_same h (Reg Pc) = refl
held_same h (Reg Input) = refl
held_same h (Reg Output) = refl
held_same h (Reg Halt) = refl
held_same h (Num n) = refl
held_same h (Sym n) = refl
held_same h (Label n) = refl

pub assigned_same : (n : ℕ) (u : Slots) (b : List Bound) → Holds n u b → (g : Goal) → HasHolesBelow n (goal_tree g)
    → assigned_by u g ≡ assigned_register (filled_goal b g)
assigned_same n u b k (ToCell (RegisterHole h)) l =
    let x = k.each h l in
    ap held_register x.1 ∙ (held_same h x.0 ∙ ap (λ o. assigned_register (ToCell (register_by (RegisterHole h) o))) (sym x.2))
assigned_same n u b k (ToCell (Hard c)) l = refl
assigned_same n u b k (ToCell (Temp c)) l = refl
assigned_same n u b k (ToCell (Flag c)) l = refl
assigned_same n u b k (ToCell Pc) l = refl
assigned_same n u b k (ToCell Input) l = refl
assigned_same n u b k (ToCell Output) l = refl
assigned_same n u b k (ToCell Halt) l = refl
assigned_same n u b k (ToMemory w a) l = refl

-- what a list keeps of another

pub from_at : {A : Type 0} (P : A → Type 0) (xs : List A) → ((j : ℕ) (x : A) → slice_get xs j ≡ Some x → P x) → All P xs
from_at {A} P xs k = λ j x l. k j (get_or xs j x) (slice_get-get_or xs j x l)

pub all_at : {A : Type 0} (P : A → Type 0) (xs : List A) → All P xs → (j : ℕ) (x : A) → slice_get xs j ≡ Some x → P x
all_at {A} P xs k j x e = subst P (get_or_from_slice_get xs j x x e) (k j x (slice_get_within xs j x e))

-- a register of the list, with the assignment that it comes from
pub record Kept (f : Move → Option Cell) (row : List Move) (c : Cell) : Type 0 where
  pub place : ℕ
  pub move : Move
  pub is : slice_get row place ≡ Some move
  pub assigns : f move ≡ Some c

kept_later : (f : Move → Option Cell) (r : Move) (row : List Move) (c : Cell) → Kept f row c → Kept f (r ∷ row) c
kept_later f r row c k = record { place = suc k.place; move = k.move; is = k.is; assigns = k.assigns }

kept_by : (f : Move → Option Cell) (r : Move) (rs : List Move) (c : Cell) → ((j : ℕ) → slice_get (filter_map f rs) j ≡ Some c → Kept f rs c)
    → (o : Option Cell) → f r ≡ o → (j : ℕ) → slice_get (cons_option o (filter_map f rs)) j ≡ Some c → Kept f (r ∷ rs) c
kept_by f r rs c go None q j e = kept_later f r rs c (go j e)
kept_by f r rs c go (Some d) q zero e = record { place = 0; move = r; is = refl; assigns = q ∙ e }
kept_by f r rs c go (Some d) q (suc j) e = kept_later f r rs c (go j e)

pub kept_from : (f : Move → Option Cell) (row : List Move) (j : ℕ) (c : Cell) → slice_get (filter_map f row) j ≡ Some c → Kept f row c
kept_from f [] j c e = let k : None ≡ Some c = e in cc
kept_from f (r ∷ rs) j c e = kept_by f r rs c (λ i q. kept_from f rs i c q) (f r) refl j e

pub kept_at : (f : Move → Option Cell) (row : List Move) (i : ℕ) (r : Move) (c : Cell) → slice_get row i ≡ Some r → f r ≡ Some c
    → (j : ℕ) × (slice_get (filter_map f row) j ≡ Some c)
kept_at f [] i r c e q = let k : None ≡ Some r = e in cc
kept_at f (x ∷ xs) zero r c e q =
    let s : x ≡ r = cc in
    let o : f x ≡ Some c = ap f s ∙ q in
    (0, subst (λ z. slice_get (cons_option z (filter_map f xs)) 0 ≡ Some c) (sym o) refl)
kept_at f (x ∷ xs) (suc i) r c e q =
    let k = kept_at f xs i r c e q in by (f x) k.0 k.1
  where
    by : (o : Option Cell) (j : ℕ) → slice_get (filter_map f xs) j ≡ Some c → (j : ℕ) × (slice_get (cons_option o (filter_map f xs)) j ≡ Some c)
    by None j e = (j, e)
    by (Some d) j e = (suc j, e)

abbrev pub Different : Cell → Cell → Type 0
Different c d = c ≢ d

-- the test says that they differ

not_true : (b : Bool) → not b ≡ true → b ≡ false
not_true true e = let q : false ≡ true = e in cc
not_true false e = refl

apart_at : (u : Slots) (o : Option Cell) (row : List Move) → apart_from u o row ≡ true → (j : ℕ) (r : Move) → slice_get row j ≡ Some r
    → same_register o (assigned_by u r.to) ≡ false
apart_at u o [] a j r e = let k : None ≡ Some r = e in cc
apart_at u o (x ∷ xs) a zero r e =
    let q : x ≡ r = cc in
    subst (λ y. same_register o (assigned_by u y.to) ≡ false) q
    (not_true (same_register o (assigned_by u x.to)) (and_left (not (same_register o (assigned_by u x.to))) (apart_from u o xs) a))
apart_at u o (x ∷ xs) a (suc j) r e =
    apart_at u o xs (and_right (not (same_register o (assigned_by u x.to))) (apart_from u o xs) a) j r e

from_same : (c d : Cell) → same_cell c d ≡ false → c ≢ d
from_same c d e q =
    let x : same_cell c c ≡ false = subst (λ z. same_cell c z ≡ false) (sym q) e in
    let y : true ≡ false = sym (same_cell-own c) ∙ x in cc

apart_by : (u : Slots) (f : Move → Option Cell) (r : Move) (rs : List Move)
    → ((j : ℕ) (s : Move) → slice_get (r ∷ rs) j ≡ Some s → assigned_by u s.to ≡ f s)
    → apart_from u (assigned_by u r.to) rs ≡ true → AllPairs Different (filter_map f rs)
    → (o : Option Cell) → f r ≡ o → AllPairs Different (cons_option o (filter_map f rs))
apart_by u f r rs k a rest None q = rest
apart_by u f r rs k a rest (Some c) q = AllPairs-cons Different c (filter_map f rs)
    (from_at (Different c) (filter_map f rs) (λ j d e.
    (let x = kept_from f rs j d e in
    let s = apart_at u (assigned_by u r.to) rs a x.place x.move x.is in
    let p : assigned_by u r.to ≡ Some c = k 0 r refl ∙ q in
    let t : assigned_by u x.move.to ≡ Some d = k (suc x.place) x.move x.is ∙ x.assigns in
    from_same c d (subst (λ z. same_register z (Some d) ≡ false) p (subst (λ z. same_register (assigned_by u r.to) z ≡ false) t s)))))
    rest

pub apart_pairs : (u : Slots) (f : Move → Option Cell) (row : List Move) → ((j : ℕ) (r : Move) → slice_get row j ≡ Some r → assigned_by u r.to ≡ f r)
    → all_apart u row ≡ true → AllPairs Different (filter_map f row)
apart_pairs u f [] k a = λ i j d l m. absurd (omega (arith, m))
apart_pairs u f (r ∷ rs) k a =
    apart_by u f r rs k (and_left (apart_from u (assigned_by u r.to) rs) (all_apart u rs) a)
    (apart_pairs u f rs (λ j s e. k (suc j) s e) (and_right (apart_from u (assigned_by u r.to) rs) (all_apart u rs) a)) (f r) refl

-- and back

apart_all : (u : Slots) (o : Option Cell) (row : List Move) → ((j : ℕ) (r : Move) → slice_get row j ≡ Some r → same_register o (assigned_by u r.to) ≡ false)
    → apart_from u o row ≡ true
apart_all u o [] k = refl
apart_all u o (x ∷ xs) k =
    and_both (not (same_register o (assigned_by u x.to))) (apart_from u o xs) (ap not (k 0 x refl)) (apart_all u o xs (λ j r e. k (suc j) r e))

to_same : (o p : Option Cell) → ((c d : Cell) → o ≡ Some c → p ≡ Some d → c ≢ d) → same_register o p ≡ false
to_same None p k = refl
to_same (Some c) None k = refl
to_same (Some c) (Some d) k = by (same_cell c d) refl
  where
    by : (b : Bool) → same_cell c d ≡ b → same_cell c d ≡ false
    by false e = e
    by true e = absurd (k c d refl refl (same_cell-is c d e))

pub pairs_apart : (u : Slots) (f : Move → Option Cell) (row : List Move) → ((j : ℕ) (r : Move) → slice_get row j ≡ Some r → assigned_by u r.to ≡ f r)
    → AllPairs Different (filter_map f row) → all_apart u row ≡ true
pairs_apart u f [] k a = refl
pairs_apart u f (r ∷ rs) k a =
    and_both (apart_from u (assigned_by u r.to) rs) (all_apart u rs)
    (apart_all u (assigned_by u r.to) rs (λ j s e. to_same (assigned_by u r.to) (assigned_by u s.to) (λ c d p q.
    (let fr : f r ≡ Some c = sym (k 0 r refl) ∙ p in
    let fs : f s ≡ Some d = sym (k (suc j) s e) ∙ q in
    let pairs : AllPairs Different (c ∷ filter_map f rs) = subst (λ o. AllPairs Different (cons_option o (filter_map f rs))) fr a in
    let x = kept_at f rs j s d e fs in
    all_at (Different c) (filter_map f rs) (AllPairs-first Different c (filter_map f rs) pairs) x.0 d x.1))))
    (pairs_apart u f rs (λ j s e. k (suc j) s e) (rest (f r) a))
  where
    rest : (o : Option Cell) → AllPairs Different (cons_option o (filter_map f rs)) → AllPairs Different (filter_map f rs)
    rest None p = p
    rest (Some c) p = AllPairs-rest Different c (filter_map f rs) p
