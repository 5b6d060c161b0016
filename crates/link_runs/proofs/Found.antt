-- What the search in the row of a shape finds does the shape.
use Rattle.std.proofs.Common.{◌≡◌, ℕ, ◌<◌, ◌≤◌, true, false, List, take, length, get_or, slice_get, Option, Some, None, refl, sym, subst, ap, arith, ◌∙◌}
use Rattle.std.proofs.lemmas.List.{length-map}
use Rattle.rtl_tree.specs.declared.cells.Lab.{Lab}
use Rattle.rtl_tree.specs.Moves.{Move}
use Rattle.rtl_norm.specs.Transfers.{norm_move}
use Rattle.md_rows.specs.declared.description.RawDescription.{RawDescription}
use Rattle.md_rows.specs.declared.row.Row.{Row}
use Rattle.md_rows.specs.declared.instance.Instance.{Instance}
use Rattle.md_rows.specs.Instances.{effects_with}
use Rattle.md_match.specs.Slots.{Slots, no_slots}
use Rattle.md_match.specs.Searches.{no_marks, match_all}
use Rattle.md_match.specs.Does.{IsRow, known}
use Rattle.md_match.proofs.Done.{found_done}
use Rattle.md_shapes.specs.declared.patterns.Pattern.{Pattern}
use Rattle.md_shapes.specs.declared.patterns.Pattern.TheVariants.{MoveStack, SetStack, Call, Return, SaveLink, RestoreLink, Halt}
use Rattle.md_shapes.specs.Patterns.{pattern_of}
use Rattle.md_shapes.specs.Shapes.{Open, shape_by, shape_moves}
use Rattle.md_shapes.specs.Drawings.{frame_of}
use Rattle.md_covers.specs.Covers.{general_bits, IsReadRow}
use Rattle.md_covers.specs.Numbers.{runs_of, IsNumberOf}
use Rattle.md_covers.proofs.Normal.{is_row, normal_row}
use Rattle.md_said.specs.Sound.{SaidIsSound}
use Rattle.md_said.specs.Limits.{SaidIsLimited}
use Rattle.md_bounds.specs.Bounds.{SaidIsBounded}
use Rattle.md_check.specs.Checking.{IsChecked}
use Rattle.md_filled.proofs.Doing.{none_some, some_same}
use Rattle.temp_code.specs.declared.code.Transfer.{Transfer}
use Rattle.temp_shapes.specs.declared.rows.ShapeRows.{ShapeRows}
use Rattle.temp_shapes.specs.Rows.{AreShapeRows, IsRowFor, CoversPattern}
use Rattle.temp_shapes.specs.Instances.{IsInstanceOf}
use Rattle.temp_shapes.proofs.Covering.{pattern_done, instance_done, transfer_done}
use Rattle.temp_shapes.proofs.Roles.{checked_general}
use Rattle.temp_shapes.proofs.Table.{row_for_pattern}
use Rattle.temp_laws.specs.Conditions.{on_temporaries}
use Rattle.temp_laws.proofs.Targets.{BitsAreSum}
use Rattle.rtl_machine.specs.Loading.{moves_by, moves_of}
use Rattle.row_laws.proofs.Rows.{good_rows}
use Rattle.link_rows.specs.Added.{is_added, place_in, search_in, bound_by, made_by, made_in, made_at, found}
use Rattle.link_rows.proofs.Finding.{is_open}
use Rattle.row_links.specs.Glue.{IsFound}
use Rattle.link_runs.specs.Found.{FoundIsInstance}

-- where the shapes stand in the list of the shapes

pub record Stands (p : Pattern) : Type 0 where
  pub within : place_in p < 137
  pub shape : pattern_of (shape_by (place_in p)) ≡ Some p

false_true : {A : Type 0} → false ≡ true → A
false_true e = absurd (never e)
  where
    never : false ≡ true → ⊥
    never e = cc

stands : (p : Pattern) → is_added p ≡ true → Stands p
stands MoveStack a = record { within = omega arith; shape = refl }
stands SetStack a = record { within = omega arith; shape = refl }
stands Call a = record { within = omega arith; shape = refl }
stands Return a = record { within = omega arith; shape = refl }
stands SaveLink a = record { within = omega arith; shape = refl }
stands RestoreLink a = record { within = omega arith; shape = refl }
stands Halt a = record { within = omega arith; shape = refl }
stands _ a = false_true a

module _ (sound : SaidIsSound) (limited : SaidIsLimited) (bounded : SaidIsBounded) (sums : BitsAreSum) (w : ℕ) (d : RawDescription) (t : ShapeRows)
    (c : IsChecked w d) (rows : AreShapeRows d t) where
  -- a row of an accepted description, as a search has it
  read_row : (k : ℕ) (row : Row) → slice_get d.rows k ≡ Some row → IsReadRow d.word row
  read_row k row has = let good = good_rows w d sound bounded c k row has in record { effects = good.moves; normal = good.normal }

  row_is : (k : ℕ) (row : Row) → slice_get d.rows k ≡ Some row → length row.holes ≤ 8 → IsRow row.holes row.normal
  row_is k row has few =
      let good = good_rows w d sound bounded c k row has in
      let same : length row.normal ≡ length row.effects = ap (λ (ms : List Move). length ms) good.normal ∙ length-map row.effects (norm_move d.word) in
      let six = good.formed.short in
      is_row row.holes row.normal few (omega (arith, same, six)) (normal_row row.holes d.word row.effects row.normal good.moves good.normal)

  module _ (p : Pattern) (n : ℕ) (l : Lab) where
    abbrev at : Open
    at = on_temporaries 0 1 n 0 l

    abbrev moves : List Move
    moves = shape_moves (frame_of d.word t.frame) p at

    -- what is found in a row
    in_row : (k : ℕ) (row : Row) (i : Instance) → slice_get d.rows k ≡ Some row → CoversPattern d row p
        → made_by d.word (general_bits d.registers) moves k row ≡ Some i → IsInstanceOf d (frame_of d.word t.frame) p at i
    in_row k row i has covers e = by (match_all (search_in d.word (general_bits d.registers) row) moves no_marks no_slots) refl e
      where
        by : (o : Option Slots) → match_all (search_in d.word (general_bits d.registers) row) moves no_marks no_slots ≡ o → bound_by row k o ≡ Some i
            → IsInstanceOf d (frame_of d.word t.frame) p at i
        by None q f = absurd (none_some i f)
        by (Some s) q f =
            let done = pattern_done d t p row rows covers in
            let x = found_done d.word (general_bits d.registers) row.holes (search_in d.word (general_bits d.registers) row) moves s refl refl (row_is k row has done.few) q in
            subst (IsInstanceOf d (frame_of d.word t.frame) p at) (some_same (record { row = k; binding = known (take (length row.holes) s) }) i f)
            (instance_done d (general_bits d.registers) k (frame_of d.word t.frame) p at row (record { row = k; binding = known (take (length row.holes) s) }) has
            (read_row k row has) (checked_general w d limited c sums) done.line (record { at = refl; marks = x.marks; does = x.does }))

    in_table : (i : Instance) (o : Option ℕ) → IsRowFor d p o → made_at d moves o ≡ Some i → IsInstanceOf d (frame_of d.word t.frame) p at i
    in_table i None h e = absurd (none_some i e)
    in_table i (Some k) h e = in_row k h.0 i h.1 h.2 (ap (made_in d moves k) (sym h.1) ∙ e)

    instance_found : (i : Instance) → is_added p ≡ true → found d t p n l ≡ Some i → IsInstanceOf d (frame_of d.word t.frame) p at i
    instance_found i added e =
        let x = stands p added in
        in_table i (get_or t.rows (place_in p) None) (row_for_pattern d t p (place_in p) (get_or t.rows (place_in p) None) rows x.within x.shape refl) e

    -- its transfer
    transfer_found : (i : Instance) → IsNumberOf (runs_of d.word p) n → IsInstanceOf d (frame_of d.word t.frame) p at i
        → IsFound d (frame_of d.word t.frame) p n l (moves_of d i)
    transfer_found i number x =
        let made : Transfer = record { what = effects_with x.row i.binding; by = i } in
        record {
          transfer = made;
          at = at;
          number = refl;
          label = refl;
          operands = is_open d p n l number;
          of_shape = transfer_done d (frame_of d.word t.frame) p at made x refl;
          what = sym (ap (λ (o : Option Row). moves_by o i.binding) x.instance.has_row);
        }

pub found_instance : SaidIsSound → SaidIsLimited → SaidIsBounded → BitsAreSum → FoundIsInstance
found_instance sound limited bounded sums w d t p n l i c rows added number e =
    transfer_found sound limited bounded sums w d t c rows p n l i number (instance_found sound limited bounded sums w d t c rows p n l i added e)
