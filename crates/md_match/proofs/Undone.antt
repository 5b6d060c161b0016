-- Where the search finds nothing, no binding makes the row do the transfer.
use Rattle.std.proofs.Common.{◌≡◌, ℕ, zero, suc, ◌<◌, ◌≤◌, Bool, true, false, cond, ◌&&◌, ◌||◌, List, [], ◌∷◌, map, length, take, set, slice_get, Some, None, inl, inr, refl, sym, subst, ap, arith, ◌∙◌}
use Rattle.rtl_tree.specs.Trees.{Tree}
use Rattle.rtl_tree.specs.Moves.{Move}
use Rattle.rtl_tree.specs.Likeness.{IsAlike}
use Rattle.rtl_tree.proofs.Equality.{and_both}
use Rattle.md_rows.specs.declared.row.Hole.{Hole}
use Rattle.md_rows.specs.declared.instance.Bound.{Bound}
use Rattle.md_rows.specs.Instances.{filled}
use Rattle.md_match.specs.Slots.{Slots, no_slots, Fit, fit_of}
use Rattle.md_match.specs.Searches.{Marks, no_marks, is_marked, goal_tree, fill, Search, accept, is_idle, harmless, in_marked, others_pass, traps_pass, all_apart, all_held, match_all, occurs_in_move}
use Rattle.md_match.specs.Ways.{Choices, Ended, Next, Ways, ended, next}
use Rattle.md_match.specs.Does.{Takes, all_taken, taken, has_hole, IsMarked, IsPartOfMarked, Does, HasHolesBelow, IsRow, assigned}
use Rattle.md_match.proofs.Filling.{Alike, IsHeld, IsFilled, IsFit, IsSane, from_alike}
use Rattle.md_match.proofs.Sound.{same_or_not, grows_on, filled_on, way_sound}
use Rattle.md_match.proofs.Whole.{IsPartOf, Reached, way_whole}
use Rattle.md_match.proofs.Binding.{Holds, fill_filled, own_holds, held_in_own, filled_has, whole_filled, fit_each, fit_length, sane, room, none_held, none_room, held_all, occurs_same, or_true}
use Rattle.md_match.proofs.Apart.{assigned_same, pairs_apart}
use Rattle.md_match.proofs.Accepted.{others_all, occurs_marked, traps_all}
use Rattle.md_match.proofs.Choices.{match_none}
use Rattle.md_match.proofs.Done.{ways_grow, ways_length, no_mark}

-- the ways that are reached, below a whole binding's slots
pub record ReachedAll (t : Search) (es : List Move) (used : Marks) (s : Slots) (left : Marks) (whole : Slots) : Type 0 where
  pub by : Choices
  pub to : Slots
  pub ways : Ways t es by used s left to
  pub below : IsPartOf t.fit to whole

alike_in : (n : ℕ) (whole : Slots) (b : List Bound) → Holds n whole b → (r e : Tree) → HasHolesBelow n r → IsAlike (filled b r) e → Alike (fill whole r) e
alike_in n whole b k r e l a = subst (λ x. Alike x e) (sym (fill_filled n whole b k r l)) (from_alike (filled b r) e a)

reach_next : (t : Search) (e : Move) (es : List Move) (j : ℕ) (r : Move) (used : Marks) (s : Slots) (left : Marks) (whole : Slots)
    → slice_get t.row j ≡ Some r → is_marked used j ≡ false
    → (x : Reached t.fit (goal_tree r.to) (goal_tree e.to) s whole) → (y : Reached t.fit r.value e.value x.to whole)
    → ReachedAll t es (set used j true) y.to left whole → ReachedAll t (e ∷ es) used s left whole
reach_next t e es j r used s left whole q free x y z = record {
  by = Next j x.by y.by z.by;
  to = z.to;
  below = z.below;
  ways = next e es j r x.by y.by z.by used s x.to y.to left z.to q free x.way y.way z.ways;
}

reach_all : (t : Search) (holes : List Hole) → IsSane t.fit → IsRow holes t.row → (b : List Bound) (whole : Slots) → Holds (length holes) whole b
    → ((h : ℕ) → h < length holes → IsHeld t.fit whole h)
    → (es : List Move) (used left : Marks) → Takes t.row b used es left → (s : Slots) → IsPartOf t.fit s whole → ReachedAll t es used s left whole
reach_all t holes sane row b whole k held _ _ _ (all_taken used) s below = record { by = Ended; to = s; ways = ended used s; below = below }
reach_all t holes sane row b whole k held _ _ _ (taken e es j r used left q free a rest) s below =
    let x = way_whole t.fit sane (goal_tree r.to) (goal_tree e.to) s whole below
    (whole_filled t.fit (length holes) whole held (goal_tree r.to) (row.places j r q))
    (alike_in (length holes) whole b k (goal_tree r.to) (goal_tree e.to) (row.places j r q) a.place) in
    let y = way_whole t.fit sane r.value e.value x.to whole x.below
    (whole_filled t.fit (length holes) whole held r.value (row.values j r q))
    (alike_in (length holes) whole b k r.value e.value (row.values j r q) a.value) in
    reach_next t e es j r used s left whole q free x y
    (reach_all t holes sane row b whole k held es (set used j true) left rest y.to y.below)

-- an assignment that got a mark on the way is filled

other_mark : (used : Marks) (j k : ℕ) → (k ≡ j → ⊥) → is_marked used k ≡ false → is_marked (set used j true) k ≡ false
other_mark [] j k n e = e
other_mark (u ∷ us) zero zero n e = absurd (n refl)
other_mark (u ∷ us) zero (suc k) n e = e
other_mark (u ∷ us) (suc j) zero n e = e
other_mark (u ∷ us) (suc j) (suc k) n e = other_mark us j k (λ q. n (ap suc q)) e

pub record FilledMove (f : Fit) (u : Slots) (r : Move) : Type 0 where
  pub place : IsFilled f u (goal_tree r.to)
  pub value : IsFilled f u r.value

pub marked_filled : (t : Search) (es : List Move) (cs : Choices) (used : Marks) (s : Slots) (left : Marks) (u : Slots) → Ways t es cs used s left u
    → IsFit t.fit s → (k : ℕ) (m : Move) → slice_get t.row k ≡ Some m → is_marked used k ≡ false → is_marked left k ≡ true → FilledMove t.fit u m
marked_filled t _ _ _ _ _ _ (ended used s) fit k m q n y = let x : true ≡ false = sym y ∙ n in cc
marked_filled t _ _ _ _ _ _ (next e es j r p v cs used s a b left u is free wp wv ws) fit k m q n y =
    let x = way_sound t.fit (goal_tree r.to) (goal_tree e.to) p s a fit wp in
    let z = way_sound t.fit r.value e.value v a b x.fit wv in
    let g = ways_grow t es cs (set used j true) b left u ws z.fit in
    elim (same_or_not k j) [
      | inl i ↦
          (let same : r ≡ m = (let c : slice_get t.row j ≡ Some m = subst (λ o. slice_get t.row o ≡ Some m) i q in cc) in
          subst (FilledMove t.fit u) same (record {
            place = filled_on t.fit a u (grows_on a b u z.grows g.grows) (goal_tree r.to) x.filled;
            value = filled_on t.fit b u g.grows r.value z.filled;
          }))
      | inr d ↦ marked_filled t es cs (set used j true) b left u ws z.fit k m q (other_mark used j k d n) y
    ]

move_has : (f : Fit) (u : Slots) (h : ℕ) (r : Move) → FilledMove f u r → (has_hole h (goal_tree r.to) || has_hole h r.value) ≡ true → IsHeld f u h
move_has f u h r k e = elim (or_true (has_hole h (goal_tree r.to)) (has_hole h r.value) e) [
  | inl x ↦ filled_has f u h (goal_tree r.to) k.place x
  | inr x ↦ filled_has f u h r.value k.value x
]

-- what is reached is accepted

part_in : (n : ℕ) (u : Slots) (b : List Bound) → Holds n u b → (row : List Move) (left : Marks)
    → ((j : ℕ) (r : Move) → slice_get row j ≡ Some r → HasHolesBelow n (goal_tree r.to))
    → ((j : ℕ) (r : Move) → slice_get row j ≡ Some r → HasHolesBelow n r.value)
    → (x : Tree) → HasHolesBelow n x → IsPartOfMarked row left b x → in_marked (fill u) row left x ≡ true
part_in n u b k row left places values x l o =
    let at = o.marked in
    let p = occurs_same n (fill u) (filled b) (fill_filled n u b k) x l (goal_tree o.move.to) (places at.place o.move at.is) in
    let q = occurs_same n (fill u) (filled b) (fill_filled n u b k) x l o.move.value (values at.place o.move at.is) in
    let e = o.part in
    let both : occurs_in_move (fill u) x o.move ≡ true = cc in
    occurs_marked (fill u) row left x at.place o.move at.is at.marked both

pass : (c d e : Bool) (s : Slots) → c ≡ true → d ≡ true → e ≡ true → cond (c && (d && e)) (Some s) None ≡ None → ⊥
pass true true true s p q r e = cc
pass true true false s p q r e = let x : false ≡ true = r in cc
pass true false f s p q r e = let x : false ≡ true = q in cc
pass false d f s p q r e = let x : false ≡ true = p in cc

pub reached_accepted : (w g : ℕ) (holes : List Hole) (t : Search) (es : List Move) (b : List Bound) (marks : Marks)
    → t.count ≡ length holes → IsRow holes t.row → Does w g holes (is_idle t.flags t.barred) t.row es b marks
    → (r : ReachedAll t es no_marks no_slots marks (map Some b)) → accept t marks r.to ≡ None → ⊥
reached_accepted w g holes t es b marks count row d r none =
    let u = r.to in
    let n = length holes in
    let start : IsFit t.fit no_slots = record { each = λ h v p. absurd (none_held h v p) } in
    let held : (h : ℕ) → h < length holes → IsHeld t.fit u h = λ h l.
    (let x = d.bound h l in
    move_has t.fit u h x.move
    (marked_filled t es r.by no_marks no_slots marks u r.ways start x.marked.place x.move x.marked.is (no_mark x.marked.place) x.marked.marked)
    x.has) in
    let holds : Holds (length holes) u b = record {
      each = λ h l.
          (let x = held h l in (x.value, x.held, held_in_own b h x.value (r.below.grows h x.value x.held)));
    } in
    let full : all_held (take t.count u) ≡ true =
    subst (λ m. all_held (take m u) ≡ true) (sym count) (held_all (length holes) u (λ h l. (let x = held h l in (x.value, x.held)))) in
    let long : length t.row ≤ length marks =
    subst (λ m. length t.row ≤ m) (sym (ways_length t es r.by no_marks no_slots marks u r.ways)) row.few_moves in
    let others : others_pass (harmless (is_idle t.flags t.barred) (in_marked (fill u) t.row marks)) t.row marks ≡ true =
    others_all (harmless (is_idle t.flags t.barred) (in_marked (fill u) t.row marks)) t.row marks long
    (λ j m is unmarked. (let at : IsMarked t.row marks false m = record { place = j; is = is; marked = unmarked } in
    and_both (is_idle t.flags t.barred m) (traps_pass (in_marked (fill u) t.row marks) m.value)
    (d.others m at)
    (traps_all (length holes) (in_marked (fill u) t.row marks) (IsPartOfMarked t.row marks b)
    (λ x l p. part_in (length holes) u b holds t.row marks row.places row.values x l p)
    m.value (row.values j m is) (d.traps m at)))) in
    let apart = pairs_apart u (assigned b) t.row
    (λ j m e. assigned_same (length holes) u b holds m.to (row.places j m e)) d.different in
    pass (all_held (take t.count u)) (others_pass (harmless (is_idle t.flags t.barred) (in_marked (fill u) t.row marks)) t.row marks) (all_apart u t.row) u full others apart none

-- where nothing is found, no binding makes the row do the transfer
pub none_done : (w g : ℕ) (holes : List Hole) (t : Search) (es : List Move)
    → t.fit ≡ fit_of w g holes → t.count ≡ length holes → IsRow holes t.row → match_all t es no_marks no_slots ≡ None
    → (b : List Bound) (marks : Marks) → Does w g holes (is_idle t.flags t.barred) t.row es b marks → ⊥
none_done w g holes t es fit count row e b marks d =
    let long = fit_length w g holes b d.fit in
    let holds = own_holds b (length holes) long in
    let held : (h : ℕ) → h < length holes → IsHeld t.fit (map Some b) h = λ h l.
    (let x = holds.each h l in
    record {
      value = x.0;
      held = x.1;
      fitting = subst (λ (z : Fit). z h x.0 ≡ true) (sym fit) (fit_each w g holes b d.fit h x.0 x.2);
    }) in
    let below : IsPartOf t.fit no_slots (map Some b) = record {
      grows = λ h v p. absurd (none_held h v p);
      room = λ h v p q. (let z : fit_of w g holes h v ≡ true = subst (λ (f : Fit). f h v ≡ true) fit p in
          let l = room w g holes h v z in none_room h (omega (arith, l, row.few_holes)) q);
    } in
    let r = reach_all t holes (subst IsSane (sym fit) (sane w g holes)) row b (map Some b) holds held es no_marks marks d.takes no_slots below in
    reached_accepted w g holes t es b marks count row d r (match_none t es no_marks no_slots e r.by marks r.to r.ways)
