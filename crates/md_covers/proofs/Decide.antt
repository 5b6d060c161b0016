-- The search for a shape's example, with the tests of its numbers, decides whether a row covers the shape.
use Rattle.std.proofs.Common.{◌≡◌, ◌↔◌, ℕ, ◌≤◌, Bool, true, false, ◌&&◌, List, length, take, get_or, slice_get, Option, Some, None, is_some, refl, sym, subst, ◌∙◌}
use Rattle.std.specs.List.{All}
use Rattle.std.proofs.lemmas.Option.{slice_get_within, slice_get-get_or, get_or_from_slice_get}
use Rattle.rtl_word.specs.Words.{IsWordSize}
use Rattle.rtl_tree.specs.Moves.{Move}
use Rattle.rtl_tree.proofs.Equality.{and_left, and_right}
use Rattle.md_rows.specs.declared.row.Hole.{Hole}
use Rattle.md_match.specs.Slots.{Slots, no_slots}
use Rattle.md_match.specs.Searches.{no_marks, match_all}
use Rattle.md_match.specs.Does.{IsRow, known}
use Rattle.md_match.proofs.Exact.{exact}
use Rattle.md_shapes.specs.declared.patterns.Pattern.{Pattern}
use Rattle.md_shapes.specs.declared.search.Subject.{Subject}
use Rattle.md_shapes.specs.Shapes.{Frame, shape_moves, example, has_transfer, does_example}
use Rattle.md_shapes.specs.Drawings.{search_of}
use Rattle.md_covers.specs.Numbers.{runs_of, has_runs, first_number, takes_runs, is_open_move}
use Rattle.md_covers.specs.Covers.{IsRowMove, IsDoneBySome}
use Rattle.md_covers.specs.Subjects.{IsSeen, CoversWith}
use Rattle.rtl_norm.specs.Transfers.{norm_moves}
use Rattle.md_covers.proofs.Normal.{normal_row, is_row}
use Rattle.md_covers.proofs.Whole.{from_example, to_example, to_takes}

done_by : (t : Subject) (es : List Move) (o : Option Slots) → IsSeen t → o ≡ match_all (search_of t) es no_marks no_slots → is_some o ≡ true
    → IsDoneBySome t.bits t.general t.holes.now t.row.now es
done_by t es None k e s = let q : false ≡ true = s in cc
done_by t es (Some u) k e s =
    let x = exact t.bits t.general t.holes.now (search_of t) es (Some u) refl refl k.row e in
    record { binding = known (take (length t.holes.now) u); marks = x.marks; does = x.does }

none_by : (t : Subject) (es : List Move) (o : Option Slots) → IsSeen t → o ≡ match_all (search_of t) es no_marks no_slots → is_some o ≡ false
    → IsDoneBySome t.bits t.general t.holes.now t.row.now es → ⊥
none_by t es (Some u) k e s d = let q : true ≡ false = s in cc
none_by t es None k e s d = exact t.bits t.general t.holes.now (search_of t) es None refl refl k.row e d.binding d.marks d.does

example_done : (t : Subject) (m : Frame) (pattern : Pattern) (n : ℕ) → IsSeen t → does_example (search_of t) m pattern n ≡ true
    → (has_transfer m pattern ≡ true) × IsDoneBySome t.bits t.general t.holes.now t.row.now (shape_moves m pattern (example n))
example_done t m pattern n k e =
    let es = shape_moves m pattern (example n) in (
      and_left (has_transfer m pattern) (is_some (match_all (search_of t) es no_marks no_slots)) e,
      done_by t es (match_all (search_of t) es no_marks no_slots) k refl
          (and_right (has_transfer m pattern) (is_some (match_all (search_of t) es no_marks no_slots)) e),
    )

both_false : (a b : Bool) → (a && b) ≡ false → a ≡ true → b ≡ false
both_false true b e f = e
both_false false b e f = let q : false ≡ true = f in cc

pub not_covered : (t : Subject) (m : Frame) (pattern : Pattern) → IsSeen t
    → does_example (search_of t) m pattern (first_number (runs_of t.bits pattern)) ≡ false → CoversWith t.bits t.general t.holes.now t.row.now m pattern → ⊥
not_covered t m pattern k e c =
    let es = shape_moves m pattern (example (first_number (runs_of t.bits pattern))) in
    none_by t es (match_all (search_of t) es no_marks no_slots) k refl
    (both_false (has_transfer m pattern) (is_some (match_all (search_of t) es no_marks no_slots)) e c.transfer)
    (to_example t.bits t.general t.holes.now t.row.now m pattern k.size c.each)

pub plain_covered : (t : Subject) (m : Frame) (pattern : Pattern) → IsSeen t
    → does_example (search_of t) m pattern (first_number (runs_of t.bits pattern)) ≡ true → has_runs (runs_of t.bits pattern) ≡ false
    → CoversWith t.bits t.general t.holes.now t.row.now m pattern
plain_covered t m pattern k e n =
    let x = example_done t m pattern (first_number (runs_of t.bits pattern)) k e in
    record {
      transfer = x.0;
      each = from_example t.bits t.general t.holes.now t.row.now m pattern k.size x.0 k.kinds (λ h. (let q : true ≡ false = sym h ∙ n in cc)) x.1;
    }

all_at : {A : Type 0} (P : A → Type 0) (xs : List A) → All P xs → (j : ℕ) (x : A) → slice_get xs j ≡ Some x → P x
all_at {A} P xs k j x e = subst P (get_or_from_slice_get xs j x x e) (k j x (slice_get_within xs j x e))

from_at : {A : Type 0} (P : A → Type 0) (xs : List A) → ((j : ℕ) (x : A) → slice_get xs j ≡ Some x → P x) → All P xs
from_at {A} P xs k = λ j x l. k j (get_or xs j x) (slice_get-get_or xs j x l)

pub ranged_covered : (t : Subject) (m : Frame) (pattern : Pattern) → IsSeen t
    → does_example (search_of t) m pattern (first_number (runs_of t.bits pattern)) ≡ true → has_runs (runs_of t.bits pattern) ≡ true
    → (All (λ r. is_open_move r.to r.value ≡ true) t.row.now × All (λ hole. takes_runs t.bits hole (runs_of t.bits pattern) ≡ true) t.holes.now)
    ↔ CoversWith t.bits t.general t.holes.now t.row.now m pattern
ranged_covered t m pattern k e n =
    let x = example_done t m pattern (first_number (runs_of t.bits pattern)) k e in (
      λ a. record {
        transfer = x.0;
        each = from_example t.bits t.general t.holes.now t.row.now m pattern k.size x.0 k.kinds (λ h. record {
          moves = λ j r q. all_at (λ (r : Move). is_open_move r.to r.value ≡ true) t.row.now a.0 j r q;
          holes_take = λ j r q. all_at (λ (hole : Hole). takes_runs t.bits hole (runs_of t.bits pattern) ≡ true) t.holes.now a.1 j r q;
        }) x.1;
      },
      λ c. (let y = to_takes t.bits t.general t.holes.now t.row.now m pattern k.size c.transfer k.kinds c.each n in (
        from_at (λ (r : Move). is_open_move r.to r.value ≡ true) t.row.now y.moves,
        from_at (λ (hole : Hole). takes_runs t.bits hole (runs_of t.bits pattern) ≡ true) t.holes.now y.holes_take,
      )),
    )

-- a row of a description as the subject of a search
pub seen : (t : Subject) (holes : List Hole) (effects normal : List Move) → IsWordSize t.bits → t.holes.now ≡ holes → t.row.now ≡ normal
    → length holes ≤ 8 → length normal ≤ 6 → All (IsRowMove holes) effects → normal ≡ norm_moves t.bits effects → IsSeen t
seen t holes effects normal z p q few six k e =
    let kinds = normal_row holes t.bits effects normal k e in
    let row = is_row holes normal few six kinds in
    record {
      size = z;
      row = subst (λ x. IsRow x t.row.now) (sym p) (subst (λ x. IsRow holes x) (sym q) row);
      kinds = λ j r o. subst (λ x. IsRowMove x r) (sym p) (kinds j r (subst (λ x. slice_get x j ≡ Some r) q o));
    }
