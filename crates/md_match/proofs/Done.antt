-- What the search finds makes the row do the transfer.
use Rattle.std.proofs.Common.{◌≡◌, ◌⊎◌, ℕ, zero, suc, ◌<◌, ◌≤◌, ◌==◌, Bool, true, false, cond, ◌&&◌, ◌||◌, List, [], ◌∷◌, length, take, set, slice_get, Option, Some, None, inl, inr, refl, sym, subst, ap, arith, ◌∙◌, eq-eqb}
use Rattle.std.proofs.lemmas.Option.{slice_get_within}
use Rattle.std.proofs.lemmas.List.{length-set, length-take-le}
use Rattle.rtl_tree.specs.Trees.{Tree, Number, Symbol, CodeLabel, Read, NoPair, AnyNumber, AnyName}
use Rattle.rtl_tree.specs.Moves.{Move}
use Rattle.rtl_tree.specs.Same.{same_cell, same_label}
use Rattle.rtl_tree.specs.Likeness.{IsAlike}
use Rattle.rtl_tree.specs.declared.cells.Cell.TheVariants.{Hard, Temp, Flag, Pc, Input, Output, Halt, Hole as RegisterHole}
use Rattle.rtl_tree.proofs.Equality.{and_left, and_right}
use Rattle.md_rows.specs.declared.row.Hole.{Hole}
use Rattle.md_rows.specs.declared.instance.Bound.{Bound}
use Rattle.md_rows.specs.Instances.{filled}
use Rattle.md_match.specs.Slots.{Slots, no_slots, Fit, bound_of, fit_of, put, put_slot, same_bound}
use Rattle.md_match.specs.Find.{leaf}
use Rattle.md_match.specs.Searches.{Marks, no_marks, is_marked, goal_tree, fill, Search, accept, is_accepted, is_idle, harmless, in_marked, others_pass, traps_pass, all_apart, all_held, match_all}
use Rattle.md_match.specs.Ways.{Choice, Way, at_leaf, at_load, at_unary, straight, crossed, Choices, Ways, ended, next}
use Rattle.md_match.specs.Does.{Takes, all_taken, taken, has_hole, IsMarked, IsHoleOfMarked, IsPartOfMarked, HasHolesBelow, IsRow, assigned, known, IsDone}
use Rattle.md_match.proofs.Filling.{Alike, IsFilled, Grows, IsFit, to_alike}
use Rattle.md_match.proofs.Sound.{get_other, same_or_not, grows_on, alike_on, way_sound}
use Rattle.md_match.proofs.Binding.{Holds, fill_filled, known_holds, known_at, known_length, taken_at, fit_all, occurs_same, none_held}
use Rattle.md_match.proofs.Apart.{assigned_same, apart_pairs}
use Rattle.md_match.proofs.Accepted.{Occurs, others_at, marked_occurs, all_traps}
use Rattle.md_match.proofs.Choices.{match_some}

clash : (t : Slots) → None ≡ Some t → ⊥
clash t e = cc

-- where what is held came from

cond_is : (c : Bool) (x : Slots) (t : Slots) → cond c (Some x) None ≡ Some t → x ≡ t
cond_is true x t e = cc
cond_is false x t e = absurd (clash t e)

set_from : (s : Slots) (k h : ℕ) (x v : Bound) → slice_get (set s k (Some x)) h ≡ Some (Some v) → (slice_get s h ≡ Some (Some v)) ⊎ (h ≡ k)
set_from s k h x v e = elim (same_or_not h k) [
  | inl i ↦ inr i
  | inr n ↦ inl (sym (get_other s k h (Some x) n) ∙ e)
]

slot_from : (f : Fit) (k h : ℕ) (x v : Bound) (s t : Slots) (o : Option (Option Bound)) → put_slot f k x s o ≡ Some t
    → slice_get t h ≡ Some (Some v) → (slice_get s h ≡ Some (Some v)) ⊎ (h ≡ k)
slot_from f k h x v s t None p e = absurd (clash t p)
slot_from f k h x v s t (Some (Some u)) p e =
    inl (subst (λ z. slice_get z h ≡ Some (Some v)) (sym (cond_is (same_bound u x) s t p)) e)
slot_from f k h x v s t (Some None) p e =
    set_from s k h x v (subst (λ z. slice_get z h ≡ Some (Some v)) (sym (cond_is (f k x) (set s k (Some x)) t p)) e)

put_from : (f : Fit) (k h : ℕ) (o : Option Bound) (v : Bound) (s t : Slots) → put f k o s ≡ Some t
    → slice_get t h ≡ Some (Some v) → (slice_get s h ≡ Some (Some v)) ⊎ ((h == k) ≡ true)
unfolding put
put_from f k h None v s t p e = absurd (clash t p)
put_from f k h (Some x) v s t p e = elim (slot_from f k h x v s t (slice_get s k) p e) [ inl q ↦ inl q | inr q ↦ inr (eq-eqb h k q) ]

same_from : (h : ℕ) (v : Bound) (s t : Slots) (b : Bool) → s ≡ t → slice_get t h ≡ Some (Some v) → (slice_get s h ≡ Some (Some v)) ⊎ (b ≡ true)
same_from h v s t b p e = inl (subst (λ z. slice_get z h ≡ Some (Some v)) (sym p) e)

leaf_from : (f : Fit) (r e : Tree) (h : ℕ) (v : Bound) (s t : Slots) → leaf f r e s ≡ Some t → slice_get t h ≡ Some (Some v)
    → (slice_get s h ≡ Some (Some v)) ⊎ (has_hole h r ≡ true)
unfolding leaf
leaf_from f (Read (RegisterHole k)) e h v s t p q = put_from f k h (bound_of e) v s t p q
leaf_from f (AnyNumber k) e h v s t p q = put_from f k h (bound_of e) v s t p q
leaf_from f (AnyName k) e h v s t p q = put_from f k h (bound_of e) v s t p q
leaf_from f (Number n) (Number m) h v s t p q = same_from h v s t false (cond_is (n == m) s t p) q
leaf_from f (Symbol n) (Symbol m) h v s t p q = same_from h v s t false (cond_is (n == m) s t p) q
leaf_from f (CodeLabel n) (CodeLabel m) h v s t p q = same_from h v s t false (cond_is (same_label n m) s t p) q
leaf_from f (Read (Hard n)) (Read d) h v s t p q = same_from h v s t false (cond_is (same_cell (Hard n) d) s t p) q
leaf_from f (Read (Temp n)) (Read d) h v s t p q = same_from h v s t false (cond_is (same_cell (Temp n) d) s t p) q
leaf_from f (Read (Flag n)) (Read d) h v s t p q = same_from h v s t false (cond_is (same_cell (Flag n) d) s t p) q
leaf_from f (Read Pc) (Read d) h v s t p q = same_from h v s t false (cond_is (same_cell Pc d) s t p) q
leaf_from f (Read Input) (Read d) h v s t p q = same_from h v s t false (cond_is (same_cell Input d) s t p) q
leaf_from f (Read Output) (Read d) h v s t p q = same_from h v s t false (cond_is (same_cell Output d) s t p) q
leaf_from f (Read Halt) (Read d) h v s t p q = same_from h v s t false (cond_is (same_cell Halt d) s t p) q
leaf_from f NoPair NoPair h v s t p q = let x : s ≡ t = cc in same_from h v s t false x q
leaf_from f _ _ h v s t p q = absurd (clash t p)

or_first : (a b : Bool) → a ≡ true → (a || b) ≡ true
or_first true b e = refl
or_first false b e = let k : false ≡ true = e in cc

or_second : (a b : Bool) → b ≡ true → (a || b) ≡ true
or_second true b e = refl
or_second false b e = e

pub way_from : (f : Fit) (r e : Tree) (i : Choice) (s t : Slots) → Way f r e i s t → (h : ℕ) (v : Bound) → slice_get t h ≡ Some (Some v)
    → (slice_get s h ≡ Some (Some v)) ⊎ (has_hole h r ≡ true)
way_from f _ _ _ _ _ (at_leaf r e s t p) h v q = leaf_from f r e h v s t p q
way_from f _ _ _ _ _ (at_load w a c i s t p) h v q = way_from f a c i s t p h v q
way_from f _ _ _ _ _ (at_unary w a c i s t p) h v q = way_from f a c i s t p h v q
way_from f _ _ _ _ _ (straight o a b c d i j s m t p r) h v q = elim (way_from f b d j m t r h v q) [
  | inl x ↦ elim (way_from f a c i s m p h v x) [ inl y ↦ inl y | inr y ↦ inr (or_first (has_hole h a) (has_hole h b) y) ]
  | inr x ↦ inr (or_second (has_hole h a) (has_hole h b) x)
]
way_from f _ _ _ _ _ (crossed o a b c d i j s m t e p r) h v q = elim (way_from f a d j m t r h v q) [
  | inl x ↦ elim (way_from f b c i s m p h v x) [ inl y ↦ inl y | inr y ↦ inr (or_second (has_hole h a) (has_hole h b) y) ]
  | inr x ↦ inr (or_first (has_hole h a) (has_hole h b) x)
]

-- marks

pub keeps_mark : (used : Marks) (j k : ℕ) → is_marked used k ≡ true → is_marked (set used j true) k ≡ true
keeps_mark [] j k e = let q : false ≡ true = e in cc
keeps_mark (u ∷ us) zero zero e = refl
keeps_mark (u ∷ us) zero (suc k) e = e
keeps_mark (u ∷ us) (suc j) zero e = e
keeps_mark (u ∷ us) (suc j) (suc k) e = keeps_mark us j k e

pub own_mark : (used : Marks) (j : ℕ) → j < length used → is_marked (set used j true) j ≡ true
own_mark [] j l = absurd (omega (arith, l))
own_mark (u ∷ us) zero l = refl
own_mark (u ∷ us) (suc j) l = own_mark us j (omega (arith, l))

pub no_mark : (j : ℕ) → is_marked no_marks j ≡ false
no_mark j = unmarked 6 j
  where
    blank : ℕ → Marks
    blank zero = []
    blank (suc n) = false ∷ blank n

    unmarked : (n j : ℕ) → is_marked (blank n) j ≡ false
    unmarked zero j = refl
    unmarked (suc n) zero = refl
    unmarked (suc n) (suc j) = unmarked n j

pub ways_keep : (t : Search) (es : List Move) (cs : Choices) (used : Marks) (s : Slots) (left : Marks) (u : Slots) → Ways t es cs used s left u
    → (k : ℕ) → is_marked used k ≡ true → is_marked left k ≡ true
ways_keep t _ _ _ _ _ _ (ended used s) k e = e
ways_keep t _ _ _ _ _ _ (next e es j r p v cs used s a b left u q free wp wv ws) k m =
    ways_keep t es cs (set used j true) b left u ws k (keeps_mark used j k m)

pub ways_length : (t : Search) (es : List Move) (cs : Choices) (used : Marks) (s : Slots) (left : Marks) (u : Slots) → Ways t es cs used s left u
    → length left ≡ length used
ways_length t _ _ _ _ _ _ (ended used s) = refl
ways_length t _ _ _ _ _ _ (next e es j r p v cs used s a b left u q free wp wv ws) =
    ways_length t es cs (set used j true) b left u ws ∙ length-set used j true

-- slots along the ways

pub record Grown (f : Fit) (s u : Slots) : Type 0 where
  pub grows : Grows s u
  pub fit : IsFit f u

pub ways_grow : (t : Search) (es : List Move) (cs : Choices) (used : Marks) (s : Slots) (left : Marks) (u : Slots) → Ways t es cs used s left u
    → IsFit t.fit s → Grown t.fit s u
ways_grow t _ _ _ _ _ _ (ended used s) k = record { grows = record { still = λ h v p. p }; fit = k }
ways_grow t _ _ _ _ _ _ (next e es j r p v cs used s a b left u q free wp wv ws) k =
    let x = way_sound t.fit (goal_tree r.to) (goal_tree e.to) p s a k wp in
    let y = way_sound t.fit r.value e.value v a b x.fit wv in
    let z = ways_grow t es cs (set used j true) b left u ws y.fit in
    record { grows = grows_on s a u x.grows (grows_on a b u y.grows z.grows); fit = z.fit }

pub ways_from : (t : Search) (es : List Move) (cs : Choices) (used : Marks) (s : Slots) (left : Marks) (u : Slots) → Ways t es cs used s left u
    → length t.row ≤ length used → (h : ℕ) (v : Bound) → slice_get u h ≡ Some (Some v)
    → (slice_get s h ≡ Some (Some v)) ⊎ IsHoleOfMarked t.row left h
ways_from t _ _ _ _ _ _ (ended used s) l h v q = inl q
ways_from t _ _ _ _ _ _ (next e es j r p c cs used s a b left u is free wp wv ws) l h v q =
    let kept : length t.row ≤ length (set used j true) = subst (λ n. length t.row ≤ n) (sym (length-set used j true)) l in
    let within = slice_get_within t.row j r is in
    let mark = ways_keep t es cs (set used j true) b left u ws j (own_mark used j (omega (arith, within, l))) in
    let marked : IsMarked t.row left true r = record { place = j; is = is; marked = mark } in
    elim (ways_from t es cs (set used j true) b left u ws kept h v q) [
      | inl x ↦ elim (way_from t.fit r.value e.value c a b wv h v x) [
        | inl y ↦ elim (way_from t.fit (goal_tree r.to) (goal_tree e.to) p s a wp h v y) [
          | inl z ↦ inl z
          | inr z ↦ inr (record { move = r; marked = marked; has = or_first (has_hole h (goal_tree r.to)) (has_hole h r.value) z })
        ]
        | inr y ↦ inr (record { move = r; marked = marked; has = or_second (has_hole h (goal_tree r.to)) (has_hole h r.value) y })
      ]
      | inr x ↦ inr x
    ]

-- what is taken

alike_by : (f : Fit) (n : ℕ) (m u : Slots) (b : List Bound) → Holds n u b → Grows m u → (r e : Tree) → HasHolesBelow n r → IsFilled f m r
    → Alike (fill m r) e → IsAlike (filled b r) e
alike_by f n m u b k g r e l i a =
    to_alike (filled b r) e (subst (λ x. Alike x e) (fill_filled n u b k r l) (alike_on f m u g r e i a))

pub ways_take : (t : Search) (holes : List Hole) (es : List Move) (cs : Choices) (used : Marks) (s : Slots) (left : Marks) (u : Slots)
    → IsRow holes t.row → Ways t es cs used s left u → IsFit t.fit s → (b : List Bound) → Holds (length holes) u b → Takes t.row b used es left
ways_take t holes _ _ _ _ _ _ row (ended used s) k b o = all_taken used
ways_take t holes _ _ _ _ _ _ row (next e es j r p v cs used s a c left u q free wp wv ws) k b o =
    let x = way_sound t.fit (goal_tree r.to) (goal_tree e.to) p s a k wp in
    let y = way_sound t.fit r.value e.value v a c x.fit wv in
    let z = ways_grow t es cs (set used j true) c left u ws y.fit in
    taken e es j r used left q free
    (record {
      place = alike_by t.fit (length holes) a u b o (grows_on a c u y.grows z.grows) (goal_tree r.to) (goal_tree e.to) (row.places j r q) x.filled x.alike;
      value = alike_by t.fit (length holes) c u b o z.grows r.value e.value (row.values j r q) y.filled y.alike;
    })
    (ways_take t holes es cs (set used j true) c left u row ws y.fit b o)

-- lengths of slots

pub put_length : (f : Fit) (k : ℕ) (o : Option Bound) (s t : Slots) → put f k o s ≡ Some t → length t ≡ length s
unfolding put
put_length f k None s t p = absurd (clash t p)
put_length f k (Some x) s t p = by (slice_get s k) p
  where
    by : (o : Option (Option Bound)) → put_slot f k x s o ≡ Some t → length t ≡ length s
    by None p = absurd (clash t p)
    by (Some (Some u)) p = ap length (sym (cond_is (same_bound u x) s t p))
    by (Some None) p = ap length (sym (cond_is (f k x) (set s k (Some x)) t p)) ∙ length-set s k (Some x)

leaf_length : (f : Fit) (r e : Tree) (s t : Slots) → leaf f r e s ≡ Some t → length t ≡ length s
unfolding leaf
leaf_length f (Read (RegisterHole k)) e s t p = put_length f k (bound_of e) s t p
leaf_length f (AnyNumber k) e s t p = put_length f k (bound_of e) s t p
leaf_length f (AnyName k) e s t p = put_length f k (bound_of e) s t p
leaf_length f (Number n) (Number m) s t p = ap length (sym (cond_is (n == m) s t p))
leaf_length f (Symbol n) (Symbol m) s t p = ap length (sym (cond_is (n == m) s t p))
leaf_length f (CodeLabel n) (CodeLabel m) s t p = ap length (sym (cond_is (same_label n m) s t p))
leaf_length f (Read (Hard n)) (Read d) s t p = ap length (sym (cond_is (same_cell (Hard n) d) s t p))
leaf_length f (Read (Temp n)) (Read d) s t p = ap length (sym (cond_is (same_cell (Temp n) d) s t p))
leaf_length f (Read (Flag n)) (Read d) s t p = ap length (sym (cond_is (same_cell (Flag n) d) s t p))
leaf_length f (Read Pc) (Read d) s t p = ap length (sym (cond_is (same_cell Pc d) s t p))
leaf_length f (Read Input) (Read d) s t p = ap length (sym (cond_is (same_cell Input d) s t p))
leaf_length f (Read Output) (Read d) s t p = ap length (sym (cond_is (same_cell Output d) s t p))
leaf_length f (Read Halt) (Read d) s t p = ap length (sym (cond_is (same_cell Halt d) s t p))
leaf_length f NoPair NoPair s t p = let x : s ≡ t = cc in ap length (sym x)
leaf_length f _ _ s t p = absurd (clash t p)

way_length : (f : Fit) (r e : Tree) (i : Choice) (s t : Slots) → Way f r e i s t → length t ≡ length s
way_length f _ _ _ _ _ (at_leaf r e s t p) = leaf_length f r e s t p
way_length f _ _ _ _ _ (at_load w a c i s t p) = way_length f a c i s t p
way_length f _ _ _ _ _ (at_unary w a c i s t p) = way_length f a c i s t p
way_length f _ _ _ _ _ (straight o a b c d i j s m t p q) = way_length f b d j m t q ∙ way_length f a c i s m p
way_length f _ _ _ _ _ (crossed o a b c d i j s m t e p q) = way_length f a d j m t q ∙ way_length f b c i s m p

pub ways_slots : (t : Search) (es : List Move) (cs : Choices) (used : Marks) (s : Slots) (left : Marks) (u : Slots) → Ways t es cs used s left u
    → length u ≡ length s
ways_slots t _ _ _ _ _ _ (ended used s) = refl
ways_slots t _ _ _ _ _ _ (next e es j r p v cs used s a b left u q free wp wv ws) =
    ways_slots t es cs (set used j true) b left u ws
    ∙ (way_length t.fit r.value e.value v a b wv ∙ way_length t.fit (goal_tree r.to) (goal_tree e.to) p s a wp)

-- what is accepted

pub record Accepted (t : Search) (left : Marks) (u : Slots) : Type 0 where
  pub held : all_held (take t.count u) ≡ true
  pub others : others_pass (harmless (is_idle t.flags t.barred) (in_marked (fill u) t.row left)) t.row left ≡ true
  pub apart : all_apart u t.row ≡ true

pub accepted : (t : Search) (left : Marks) (to u : Slots) → accept t left to ≡ Some u → (to ≡ u) × Accepted t left to
accepted t left to u e =
    let x = when (is_accepted t.count (is_idle t.flags t.barred) t.row left to) to u e in
    let others = others_pass (harmless (is_idle t.flags t.barred) (in_marked (fill to) t.row left)) t.row left in
    let rest = and_right (all_held (take t.count to)) (others && all_apart to t.row) x.0 in (
      x.1,
      record {
        held = and_left (all_held (take t.count to)) (others && all_apart to t.row) x.0;
        others = and_left others (all_apart to t.row) rest;
        apart = and_right others (all_apart to t.row) rest;
      },
    )
  where
    when : (c : Bool) (x t : Slots) → cond c (Some x) None ≡ Some t → (c ≡ true) × (x ≡ t)
    when true x t e = (refl, cc)
    when false x t e = absurd (clash t e)

part_by : (n : ℕ) (u : Slots) (b : List Bound) → Holds n u b → (row : List Move) (left : Marks)
    → ((j : ℕ) (r : Move) → slice_get row j ≡ Some r → HasHolesBelow n (goal_tree r.to))
    → ((j : ℕ) (r : Move) → slice_get row j ≡ Some r → HasHolesBelow n r.value)
    → (x : Tree) → HasHolesBelow n x → Occurs (fill u) row left x → IsPartOfMarked row left b x
part_by n u b k row left places values x l o =
    let at = o.marked in
    let p = occurs_same n (fill u) (filled b) (fill_filled n u b k) x l (goal_tree o.move.to) (places at.place o.move at.is) in
    let q = occurs_same n (fill u) (filled b) (fill_filled n u b k) x l o.move.value (values at.place o.move at.is) in
    let e = o.part in
    record { move = o.move; marked = at; part = cc }

done_by : (w g : ℕ) (holes : List Hole) (t : Search) (es : List Move) (cs : Choices) (left : Marks) (u : Slots)
    → t.fit ≡ fit_of w g holes → t.count ≡ length holes → IsRow holes t.row → Ways t es cs no_marks no_slots left u → Accepted t left u
    → IsDone w g holes (is_idle t.flags t.barred) t.row es u
done_by w g holes t es cs left u fit count row ws ok =
    let none : IsFit t.fit no_slots = record { each = λ h v p. absurd (none_held h v p) } in
    let grown = ways_grow t es cs no_marks no_slots left u ws none in
    let long : length u ≡ 8 = ways_slots t es cs no_marks no_slots left u ws in
    let room : length holes ≤ length u = omega (arith, long, row.few_holes) in
    let held : all_held (take (length holes) u) ≡ true = subst (λ n. all_held (take n u) ≡ true) count ok.held in
    let holds = known_holds (length holes) u room held in
    let b = known (take (length holes) u) in
    let moves : length t.row ≤ length no_marks = row.few_moves in
    record {
      marks = left;
      does = record {
        fit = fit_all w g holes b
            (known_length (take (length holes) u) held ∙ length-take-le (length holes) u room)
            (λ h v e. fits_by w g holes t.fit u fit grown.fit room h v held e);
        takes = ways_take t holes es cs no_marks no_slots left u row ws none b holds;
        others = λ r m. and_left (is_idle t.flags t.barred r) (traps_pass (in_marked (fill u) t.row left) r.value)
            (others_at (harmless (is_idle t.flags t.barred) (in_marked (fill u) t.row left)) t.row left m.place r ok.others m.is m.marked);
        traps = λ r m. all_traps (length holes) (in_marked (fill u) t.row left) (IsPartOfMarked t.row left b)
            (λ x l e. part_by (length holes) u b holds t.row left row.places row.values x l (marked_occurs (fill u) t.row left x e))
            r.value (row.values m.place r m.is)
            (and_right (is_idle t.flags t.barred r) (traps_pass (in_marked (fill u) t.row left) r.value)
            (others_at (harmless (is_idle t.flags t.barred) (in_marked (fill u) t.row left)) t.row left m.place r ok.others m.is m.marked));
        bound = λ h l. (let x = holds.each h l in elim (ways_from t es cs no_marks no_slots left u ws moves h x.0 x.1) [
          | inl y ↦ absurd (none_held h x.0 y)
          | inr y ↦ y
        ]);
        different = apart_pairs u (assigned b) t.row
            (λ j r e. assigned_same (length holes) u b holds r.to (row.places j r e)) ok.apart;
      };
    }
  where
    fits_by : (w g : ℕ) (holes : List Hole) (f : Fit) (u : Slots) → f ≡ fit_of w g holes → IsFit f u → length holes ≤ length u
        → (h : ℕ) (v : Bound) → all_held (take (length holes) u) ≡ true → slice_get (known (take (length holes) u)) h ≡ Some v
        → fit_of w g holes h v ≡ true
    fits_by w g holes f u e k room h v held q =
        let x = known_at (take (length holes) u) h v held q in
        let l = slice_get_within (take (length holes) u) h (Some v) x in
        let n : length (take (length holes) u) ≡ length holes = length-take-le (length holes) u room in
        let y = sym (taken_at (length holes) u h (omega (arith, l, n))) ∙ x in
        subst (λ (z : Fit). z h v ≡ true) e (k.each h v y)

-- what the search finds makes the row do the transfer
pub found_done : (w g : ℕ) (holes : List Hole) (t : Search) (es : List Move) (u : Slots)
    → t.fit ≡ fit_of w g holes → t.count ≡ length holes → IsRow holes t.row → match_all t es no_marks no_slots ≡ Some u
    → IsDone w g holes (is_idle t.flags t.barred) t.row es u
found_done w g holes t es u fit count row e =
    let x = match_some t es no_marks no_slots u e in
    let y = accepted t x.left x.to u x.goes in
    subst (IsDone w g holes (is_idle t.flags t.barred) t.row es) y.0
    (done_by w g holes t es x.by x.left x.to fit count row x.ways y.1)
