-- The table of rows, row by row.
use Rattle.std.proofs.Common.{◌≡◌, ℕ, ◌+◌, ◌<◌, List, set, get_or, slice_get, length, Option, Some, None, inl, inr, arith, refl, sym, subst, ap, ◌∙◌}
use Rattle.std.proofs.lemmas.List.{get_or-set_same, get_or-set_other}
use Rattle.md_rows.specs.declared.description.RawDescription.{RawDescription}
use Rattle.md_rows.specs.declared.row.Row.{Row}
use Rattle.md_shapes.specs.declared.table.Shape.{Shape}
use Rattle.md_shapes.specs.declared.patterns.Pattern.{Pattern}
use Rattle.md_shapes.specs.Patterns.{pattern_of}
use Rattle.md_shapes.specs.Shapes.{all_shapes, shape_by}
use Rattle.md_covers.specs.Covers.{Covers}
use Rattle.md_check.specs.Accepted.{IsCovered}
use Rattle.md_check.proofs.Rows.{earlier_one}
use Rattle.temp_shapes.specs.declared.rows.ShapeRows.{ShapeRows}
use Rattle.temp_shapes.proofs.Positions.{shape_at}
use Rattle.temp_shapes.specs.Rows.{IsRowOf, HasRows, AreShapeRows, IsPatternCovered, IsRowFor}

pub one_more : (d : RawDescription) (rows : List (Option ℕ)) (n : ℕ) (o : Option ℕ) (s : Shape) → n < length rows → s ≡ shape_by n → IsRowOf d s o
    → HasRows d rows n → HasRows d (set rows n o) (n + 1)
one_more d rows n o s l e new old i below = elim (earlier_one i n below) [
  | inl m ↦ subst (IsRowOf d (shape_by i)) (sym (get_or-set_other rows n i o None (λ q. omega (arith, m, q)))) (old i m)
  | inr m ↦ subst (IsRowOf d (shape_by i)) (sym (ap (λ (k : ℕ). get_or (set rows n o) k None) m ∙ get_or-set_same rows n o None l))
      (subst (λ (x : Shape). IsRowOf d x o) (e ∙ sym (ap (λ (k : ℕ). shape_by k) m)) new)
]

-- whether a row covers a shape is asked of the shape's pattern alone
covers_like : (d : RawDescription) (row : Row) (s t : Shape) (p : Pattern) → pattern_of s ≡ Some p → pattern_of t ≡ Some p → Covers d row s → Covers d row t
covers_like d row s t p e f c = record {
  frame = c.frame;
  frame_is = c.frame_is;
  pattern = c.pattern;
  pattern_is = f ∙ (sym e ∙ c.pattern_is);
  transfer = c.transfer;
  line = c.line;
  few = c.few;
  each = c.each;
}

for_pattern : (d : RawDescription) (s : Shape) (p : Pattern) (o : Option ℕ) → pattern_of s ≡ Some p → IsRowOf d s o → IsRowFor d p o
for_pattern d s p (Some k) e h = (h.0, h.1, record { shape = s; pattern_is = e; covers = h.2 })
for_pattern d s p None e h =
    λ x. h (record { at = x.at; row = x.row; has = x.has; covers = covers_like d x.row x.covers.shape s p x.covers.pattern_is e x.covers.covers })

pub row_for_pattern : (d : RawDescription) (t : ShapeRows) (p : Pattern) (i : ℕ) (o : Option ℕ) → AreShapeRows d t → i < 137 → pattern_of (shape_by i) ≡ Some p
    → o ≡ get_or t.rows i None → IsRowFor d p o
row_for_pattern d t p i o h l e r = subst (IsRowFor d p) (sym r) (for_pattern d (shape_by i) p (get_or t.rows i None) e (h.rows i l))

pub one_more_at : (d : RawDescription) (rows : List (Option ℕ)) (n : ℕ) (o : Option ℕ) (list : List Shape) (x : Shape) → list ≡ all_shapes → n < 137
    → length rows ≡ 137 → IsRowOf d (get_or list n x) o → HasRows d rows n → HasRows d (set rows n o) (n + 1)
one_more_at d rows n o list x e l long new old =
    one_more d rows n o (get_or list n x) (omega (arith, l, long)) (ap (λ (xs : List Shape). get_or xs n x) e ∙ shape_at n x l) new old
