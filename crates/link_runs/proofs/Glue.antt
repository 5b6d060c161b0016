-- The transfers that linking adds were found for their shapes, or are the shapes.
use Rattle.std.proofs.Common.{◌≡◌, ℕ, Bool, true, false, if◌then◌else◌, Option, Some, None, inl, inr, refl}
use Rattle.rtl_tree.specs.declared.cells.Lab.{Lab}
use Rattle.rtl_tree.specs.declared.cells.Lab.TheVariants.{Function}
use Rattle.md_rows.specs.declared.description.RawDescription.{RawDescription}
use Rattle.md_rows.specs.declared.instance.Instance.{Instance}
use Rattle.md_shapes.specs.declared.patterns.Pattern.{Pattern}
use Rattle.md_shapes.specs.declared.patterns.Pattern.TheVariants.{MoveStack, SetStack, Call, Return, SaveLink, RestoreLink, Halt}
use Rattle.md_shapes.specs.Drawings.{frame_of}
use Rattle.md_covers.specs.Numbers.{runs_of, IsNumberOf}
use Rattle.md_check.specs.Checking.{IsChecked}
use Rattle.temp_shapes.specs.declared.rows.ShapeRows.{ShapeRows}
use Rattle.temp_shapes.specs.Rows.{AreShapeRows}
use Rattle.link_rows.specs.Added.{is_added, found}
use Rattle.link_lines.specs.Glue.{has_numbers, transfer_by, shape_at, no_label, made, made_at}
use Rattle.link_lines.proofs.Numbers.{number_of}
use Rattle.row_links.specs.Glue.{IsMade}
use Rattle.link_runs.specs.Found.{FoundIsInstance, GlueIsOfRows}

module _ (law : FoundIsInstance) (w : ℕ) (d : RawDescription) (t : ShapeRows) (c : IsChecked w d) (rows : AreShapeRows d t) where
  made_is : (p : Pattern) (n : ℕ) (l : Lab) → is_added p ≡ true → IsNumberOf (runs_of d.word p) n → IsMade d (frame_of d.word t.frame) p n l (made d t p n l)
  made_is p n l added number = by (found d t p n l) refl
    where
      by : (o : Option Instance) → found d t p n l ≡ o → IsMade d (frame_of d.word t.frame) p n l (transfer_by d (shape_at d t p n l) o)
      by None e = inl refl
      by (Some i) e = inr (law w d t p n l i c rows added number e)

  numbered_is : (p : Pattern) (n : ℕ) → is_added p ≡ true → IsMade d (frame_of d.word t.frame) p n no_label (made_at d t p n)
  numbered_is p n added = by (has_numbers d.word p n) refl
    where
      by : (b : Bool) → has_numbers d.word p n ≡ b
          → IsMade d (frame_of d.word t.frame) p n no_label (if b then made d t p n no_label else shape_at d t p n no_label)
      by true e = made_is p n no_label added (number_of (runs_of d.word p) n e)
      by false e = inl refl

pub glue : FoundIsInstance → GlueIsOfRows
glue law w d t c rows = record {
  set_stack = made_is law w d t c rows SetStack 0 no_label refl tt;
  move_stack = λ n. numbered_is law w d t c rows MoveStack n refl;
  calling = λ f. made_is law w d t c rows Call 0 (Function f) refl tt;
  going_back = made_is law w d t c rows Return 0 no_label refl tt;
  save = λ z k e. numbered_is law w d t c rows SaveLink k refl;
  fetch = λ z k e. numbered_is law w d t c rows RestoreLink k refl;
  finish = made_is law w d t c rows Halt 0 no_label refl tt;
}
