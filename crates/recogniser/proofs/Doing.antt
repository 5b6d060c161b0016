-- What the search finds makes the row do the transfer, with the marks that its choices leave.
use Rattle.std.proofs.Common.{◌≡◌, ℕ, ◌≤◌, true, List, length, take, slice_get, Some, inl, inr, sym, subst, arith, ◌∙◌}
use Rattle.std.proofs.lemmas.Option.{slice_get_within}
use Rattle.std.proofs.lemmas.List.{length-take-le}
use Rattle.rtl_tree.specs.Trees.{Tree}
use Rattle.rtl_tree.specs.Moves.{Move}
use Rattle.rtl_tree.proofs.Equality.{and_left, and_right}
use Rattle.md_rows.specs.declared.row.Hole.{Hole}
use Rattle.md_rows.specs.declared.instance.Bound.{Bound}
use Rattle.md_rows.specs.Instances.{filled}
use Rattle.md_match.specs.Slots.{Slots, no_slots, Fit, fit_of}
use Rattle.md_match.specs.Searches.{Marks, no_marks, goal_tree, fill, Search, is_idle, harmless, in_marked, traps_pass, all_held}
use Rattle.md_match.specs.Ways.{Choices as Turns, Ways}
use Rattle.md_match.specs.Does.{IsPartOfMarked, HasHolesBelow, IsRow, assigned, known, Does}
use Rattle.md_match.proofs.Filling.{IsFit}
use Rattle.md_match.proofs.Binding.{Holds, fill_filled, known_holds, known_at, known_length, taken_at, fit_all, occurs_same, none_held}
use Rattle.md_match.proofs.Apart.{assigned_same, apart_pairs}
use Rattle.md_match.proofs.Accepted.{Occurs, others_at, marked_occurs, all_traps}
use Rattle.md_match.proofs.Done.{ways_grow, ways_from, ways_take, ways_slots, Accepted}

pub start : (f : Fit) → IsFit f no_slots
start f = record { each = λ h v p. absurd (none_held h v p) }

part_by : (n : ℕ) (u : Slots) (b : List Bound) → Holds n u b → (row : List Move) (left : Marks)
    → ((j : ℕ) (r : Move) → slice_get row j ≡ Some r → HasHolesBelow n (goal_tree r.to))
    → ((j : ℕ) (r : Move) → slice_get row j ≡ Some r → HasHolesBelow n r.value)
    → (x : Tree) → HasHolesBelow n x → Occurs (fill u) row left x → IsPartOfMarked row left b x
part_by n u b k row left places values x l o =
    let at = o.marked in
    let p = occurs_same n (fill u) (filled b) (fill_filled n u b k) x l (goal_tree o.move.to) (places at.place o.move at.is) in
    let q = occurs_same n (fill u) (filled b) (fill_filled n u b k) x l o.move.value (values at.place o.move at.is) in
    let e = o.part in
    record { move = o.move; marked = at; part = cc }

fits_by : (w g : ℕ) (holes : List Hole) (f : Fit) (u : Slots) → f ≡ fit_of w g holes → IsFit f u → length holes ≤ length u
    → (h : ℕ) (v : Bound) → all_held (take (length holes) u) ≡ true → slice_get (known (take (length holes) u)) h ≡ Some v
    → fit_of w g holes h v ≡ true
fits_by w g holes f u e k room h v held q =
    let x = known_at (take (length holes) u) h v held q in
    let l = slice_get_within (take (length holes) u) h (Some v) x in
    let n : length (take (length holes) u) ≡ length holes = length-take-le (length holes) u room in
    let y = sym (taken_at (length holes) u h (omega (arith, l, n))) ∙ x in
    subst (λ (z : Fit). z h v ≡ true) e (k.each h v y)

-- what the holes hold at the end is the binding
pub bound : (holes : List Hole) (t : Search) (es : List Move) (cs : Turns) (left : Marks) (u : Slots) → t.count ≡ length holes → IsRow holes t.row
    → Ways t es cs no_marks no_slots left u → Accepted t left u → Holds (length holes) u (known (take (length holes) u))
bound holes t es cs left u count row ws ok =
    let long : length u ≡ 8 = ways_slots t es cs no_marks no_slots left u ws in
    known_holds (length holes) u (omega (arith, long, row.few_holes)) (subst (λ n. all_held (take n u) ≡ true) count ok.held)

pub does_by : (w g : ℕ) (holes : List Hole) (t : Search) (es : List Move) (cs : Turns) (left : Marks) (u : Slots)
    → t.fit ≡ fit_of w g holes → t.count ≡ length holes → IsRow holes t.row → Ways t es cs no_marks no_slots left u → Accepted t left u
    → Does w g holes (is_idle t.flags t.barred) t.row es (known (take (length holes) u)) left
does_by w g holes t es cs left u fit count row ws ok =
    let grown = ways_grow t es cs no_marks no_slots left u ws (start t.fit) in
    let long : length u ≡ 8 = ways_slots t es cs no_marks no_slots left u ws in
    let room : length holes ≤ length u = omega (arith, long, row.few_holes) in
    let held : all_held (take (length holes) u) ≡ true = subst (λ n. all_held (take n u) ≡ true) count ok.held in
    let holds = bound holes t es cs left u count row ws ok in
    let b = known (take (length holes) u) in
    let moves : length t.row ≤ length no_marks = row.few_moves in
    let idle = is_idle t.flags t.barred in
    let inside = in_marked (fill u) t.row left in
    record {
      fit = fit_all w g holes b
          (known_length (take (length holes) u) held ∙ length-take-le (length holes) u room)
          (λ h v e. fits_by w g holes t.fit u fit grown.fit room h v held e);
      takes = ways_take t holes es cs no_marks no_slots left u row ws (start t.fit) b holds;
      others = λ r m. and_left (idle r) (traps_pass inside r.value) (others_at (harmless idle inside) t.row left m.place r ok.others m.is m.marked);
      traps = λ r m. all_traps (length holes) inside (IsPartOfMarked t.row left b)
          (λ x l e. part_by (length holes) u b holds t.row left row.places row.values x l (marked_occurs (fill u) t.row left x e))
          r.value (row.values m.place r m.is)
          (and_right (idle r) (traps_pass inside r.value) (others_at (harmless idle inside) t.row left m.place r ok.others m.is m.marked));
      bound = λ h l. (let x = holds.each h l in elim (ways_from t es cs no_marks no_slots left u ws moves h x.0 x.1) [
        | inl y ↦ absurd (none_held h x.0 y)
        | inr y ↦ y
      ]);
      different = apart_pairs u (assigned b) t.row
          (λ j r e. assigned_same (length holes) u b holds r.to (row.places j r e)) ok.apart;
    }
