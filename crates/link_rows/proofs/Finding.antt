-- The row of a shape that linking adds, and the instruction that it makes.
use Rattle.std.proofs.Common.{◌≡◌, ℕ, ◌<◌, List, length, get_or, slice_get, Option, Some, None, Result, refl, sym, subst, ap, ◌∙◌}
use Rattle.std.specs.Prelude.{IfOk}
use Rattle.rtl_tree.specs.declared.memory.NoMemory.{NoMemory}
use Rattle.rtl_tree.specs.declared.cells.Lab.{Lab}
use Rattle.rtl_tree.specs.Moves.{Move}
use Rattle.md_check.proofs.Rows.{ok_by}
use Rattle.md_rows.specs.declared.description.RawDescription.{RawDescription}
use Rattle.md_rows.specs.declared.row.Row.{Row}
use Rattle.md_rows.specs.declared.instance.Instance.{Instance}
use Rattle.md_shapes.specs.declared.patterns.Pattern.{Pattern}
use Rattle.md_shapes.specs.Patterns.{pattern_of}
use Rattle.md_shapes.specs.Shapes.{shape_by, shape_moves}
use Rattle.md_shapes.specs.Drawings.{frame_of}
use Rattle.md_covers.specs.Covers.{general_bits, IsOpenOf}
use Rattle.md_covers.specs.Numbers.{runs_of, IsNumberOf}
use Rattle.temp_shapes.specs.declared.rows.ShapeRows.{ShapeRows}
use Rattle.temp_shapes.specs.Rows.{AreShapeRows, IsRowFor}
use Rattle.temp_shapes.proofs.Table.{row_for_pattern}
use Rattle.temp_laws.specs.Conditions.{on_temporaries}
use Rattle.link_rows.specs.Added.{place_in, made_by, made_in, made_at, found}

pub row_there : (d : RawDescription) (t : ShapeRows) (p : Pattern) (i k : ℕ) → AreShapeRows d t → i < 137 → pattern_of (shape_by i) ≡ Some p
    → Some k ≡ get_or t.rows i None → IsRowFor d p (Some k)
row_there d t p i k h l e r = row_for_pattern d t p i (Some k) h l e r

pub is_open : (d : RawDescription) (p : Pattern) (n : ℕ) (l : Lab) → IsNumberOf (runs_of d.word p) n
    → IsOpenOf d.word (general_bits d.registers) p (on_temporaries 0 1 n 0 l)
is_open d p n l h = record { a = tt; b = tt; number = h }

pub has_found : (d : RawDescription) (t : ShapeRows) (p : Pattern) (n : ℕ) (l : Lab) (i k : ℕ) (row : Row) (g : ℕ) (es : List Move) (r : Result Instance NoMemory)
    → i ≡ place_in p → Some k ≡ get_or t.rows i None → slice_get d.rows k ≡ Some row → g ≡ general_bits d.registers
    → es ≡ shape_moves (frame_of d.word t.frame) p (on_temporaries 0 1 n 0 l) → IfOk r (λ x. made_by d.word g es k row ≡ Some x)
    → IfOk r (λ x. found d t p n l ≡ Some x)
has_found d t p n l i k row g es r at is has q s f =
    ok_by r (λ x. made_by d.word g es k row ≡ Some x) (λ x. found d t p n l ≡ Some x) (λ x e. first ∙ e) f
  where
    ms : List Move
    ms = shape_moves (frame_of d.word t.frame) p (on_temporaries 0 1 n 0 l)

    first : found d t p n l ≡ made_by d.word g es k row
    first =
        ap (λ (j : ℕ). made_at d ms (get_or t.rows j None)) (sym at)
        ∙ (ap (made_at d ms) (sym is)
        ∙ (ap (made_in d ms k) has
        ∙ (ap (λ (b : ℕ). made_by d.word b ms k row) (sym q) ∙ ap (λ (xs : List Move). made_by d.word g xs k row) (sym s))))
