-- A row that covers a shape does its transfer, and the instance that does it is one of the description.
use Rattle.std.proofs.Common.{◌≡◌, ℕ, ◌≤◌, true, List, length, slice_get, get_or, Option, Some, Result, refl, sym, subst, ap, ◌∙◌}
use Rattle.std.specs.Prelude.{IfOk}
use Rattle.std.proofs.lemmas.Option.{get_or_from_slice_get}
use Rattle.rtl_tree.specs.declared.memory.NoMemory.{NoMemory}
use Rattle.md_said.specs.Sound.{SaidIsSound}
use Rattle.md_check.specs.Checking.{IsChecked}
use Rattle.md_check.proofs.Telling.{checked_rows}
use Rattle.md_check.proofs.Rows.{ok_by}
use Rattle.rtl_tree.specs.Moves.{Move}
use Rattle.rtl_tree.proofs.Equality.{and_left}
use Rattle.md_rows.specs.declared.description.RawDescription.{RawDescription}
use Rattle.md_rows.specs.declared.row.Row.{Row}
use Rattle.md_rows.specs.declared.row.Hole.{Hole}
use Rattle.md_rows.specs.declared.instance.Bound.{Bound}
use Rattle.md_rows.specs.declared.instance.Instance.{Instance}
use Rattle.md_rows.specs.Instances.{IsInstance, effects_with, general_set}
use Rattle.md_rows.specs.Lines.{longest_line}
use Rattle.md_match.specs.Searches.{Marks, no_marks, is_flag_of, is_idle}
use Rattle.md_match.specs.Does.{Does, IsRow, IsMarked}
use Rattle.md_shapes.specs.declared.patterns.Pattern.{Pattern}
use Rattle.md_shapes.specs.Shapes.{Frame, Open, shape_moves, has_transfer}
use Rattle.md_shapes.specs.Drawings.{frame_of}
use Rattle.md_covers.specs.Covers.{general_bits, frame_in, IsOpenOf, IsReadRow, IsDoneBySome}
use Rattle.md_covers.proofs.Normal.{normal_row, is_row}
use Rattle.temp_code.specs.declared.code.Transfer.{Transfer}
use Rattle.temp_code.specs.Realised.{IsRealised}
use Rattle.temp_shapes.specs.declared.rows.ShapeRows.{ShapeRows}
use Rattle.temp_shapes.specs.Patterns.{is_listed}
use Rattle.temp_shapes.specs.Rows.{AreShapeRows, CoversPattern}
use Rattle.temp_shapes.specs.Instances.{IsDoer, IsDoing, IsInstanceOf}
use Rattle.temp_shapes.specs.Elementary.{IsTemporary, IsShapeOf, IsElementary, IsTransferOf}
use Rattle.temp_shapes.proofs.Binding.{different}
use Rattle.temp_shapes.proofs.Roles.{checked_word}

some_frame : (f g : Frame) → Some f ≡ Some g → f ≡ g
some_frame f g e = cc

some_pattern : (p q : Pattern) → Some p ≡ Some q → p ≡ q
some_pattern p q e = cc

-- what covering says, of the frame and pattern that the table has
pub record IsPatternDone (d : RawDescription) (frame : Frame) (pattern : Pattern) (row : Row) : Type 0 where
  pub transfer : has_transfer frame pattern ≡ true
  pub line : longest_line d.registers row.holes row.text ≤ 640
  pub few : length row.holes ≤ 8
  pub each : (p : Open) → IsOpenOf d.word (general_bits d.registers) pattern p
      → IsDoneBySome d.word (general_bits d.registers) row.holes row.normal (shape_moves frame pattern p)

pub pattern_done : (d : RawDescription) (t : ShapeRows) (pattern : Pattern) (row : Row) → AreShapeRows d t → CoversPattern d row pattern
    → IsPatternDone d (frame_of d.word t.frame) pattern row
pattern_done d t pattern row h c =
    let v = c.covers in
    let f : v.frame ≡ frame_of d.word t.frame = some_frame _ _ (sym v.frame_is ∙ h.frame) in
    let p : v.pattern ≡ pattern = some_pattern _ _ (sym v.pattern_is ∙ c.pattern_is) in
    subst (λ (g : Frame). IsPatternDone d g pattern row) f
    (subst (λ (q : Pattern). IsPatternDone d v.frame q row) p (record { transfer = v.transfer; line = v.line; few = v.few; each = v.each }))

-- a row that can do a transfer, as a search has it
pub row_of : (w : ℕ) (row : Row) (holes : List Hole) (moves : List Move) → length row.holes ≤ 8 → IsReadRow w row → holes ≡ row.holes → moves ≡ row.normal
    → length moves ≤ 6 → IsRow holes moves
row_of w row holes moves few read h m six =
    subst (λ (hs : List Hole). IsRow hs moves) (sym h)
    (subst (λ (ms : List Move). IsRow row.holes ms) (sym m)
    (is_row row.holes row.normal few (subst (λ (ms : List Move). length ms ≤ 6) m six) (normal_row row.holes w row.effects row.normal read.effects read.normal)))

pub instance_done : (d : RawDescription) (g place : ℕ) (frame : Frame) (pattern : Pattern) (p : Open) (row : Row) (i : Instance)
    → slice_get d.rows place ≡ Some row → IsReadRow d.word row → g ≡ general_set d.registers → longest_line d.registers row.holes row.text ≤ 640
    → IsDoing d.word g row place (shape_moves frame pattern p) i → IsInstanceOf d frame pattern p i
instance_done d g place frame pattern p row i has read e short h =
    let x = subst (λ (n : ℕ). IsDoing d.word n row place (shape_moves frame pattern p) i) e h in
    record {
      row = row;
      instance = record {
        has_row = ap (λ (k : ℕ). slice_get d.rows k) x.at ∙ has;
        short = short;
        fit = x.does.fit;
        different = different d.word i.binding row read.normal x.does.different;
      };
      marks = x.marks;
      does = x.does;
    }

pub transfer_done : (d : RawDescription) (frame : Frame) (pattern : Pattern) (p : Open) (t : Transfer) (i : IsInstanceOf d frame pattern p t.by)
    → t.what ≡ effects_with i.row t.by.binding → IsTransferOf d frame pattern p t
transfer_done d frame pattern p t i e = record { row = i.row; instance = i.instance; effects = e; marks = i.marks; does = i.does }

pub transfer_realised : (d : RawDescription) (frame : Frame) (pattern : Pattern) (p : Open) (t : Transfer) → IsTransferOf d frame pattern p t → IsRealised d t
transfer_realised d frame pattern p t h = record { row = h.row; instance = h.instance; effects = h.effects }

pub transfer_elementary : (d : RawDescription) (table : ShapeRows) (pattern : Pattern) (p : Open) (t : Transfer) (row : Row) → AreShapeRows d table
    → is_listed pattern ≡ true → CoversPattern d row pattern → IsOpenOf d.word (general_bits d.registers) pattern p
    → IsTransferOf d (frame_of d.word table.frame) pattern p t → IsTemporary p.a → IsTemporary p.b → IsElementary d t
transfer_elementary d table pattern p t row rows listed covers fit h a b =
    let done = pattern_done d table pattern row rows covers in
    record {
      row = h.row;
      instance = h.instance;
      effects = h.effects;
      frame = frame_of d.word table.frame;
      pattern = pattern;
      at = p;
      shape = record { frame_is = rows.frame; listed = listed; transfer = done.transfer; operands = fit; a = a; b = b };
      marks = h.marks;
      takes = h.does.takes;
      others = λ r m. and_left (is_flag_of 255 r.to) _ (h.does.others r m);
    }

pub same_row : (rows es : List Row) (n k : ℕ) (row other : Row) → rows ≡ es → n ≡ k → slice_get es k ≡ Some other → row ≡ get_or rows n row → row ≡ other
same_row rows es n k row other e f has is =
    is ∙ (ap (λ (xs : List Row). get_or xs n row) e ∙ (ap (λ (i : ℕ). get_or es i row) f ∙ get_or_from_slice_get es k other row has))

read_at : (w : ℕ) (e : RawDescription) (k : ℕ) (row : Row) → SaidIsSound → IsChecked w e → slice_get e.rows k ≡ Some row → IsReadRow e.word row
read_at w e k row sound c has = subst (λ (v : ℕ). IsReadRow v row) (sym (checked_word w e c)) (checked_rows w e sound c k row has)

pub make_doer : (w : ℕ) (e : RawDescription) (t : ShapeRows) (pattern : Pattern) (p : Open) (g k : ℕ) (row : Row) (es : List Move) → SaidIsSound → IsChecked w e
    → AreShapeRows e t → slice_get e.rows k ≡ Some row → CoversPattern e row pattern → IsOpenOf e.word (general_bits e.registers) pattern p
    → g ≡ general_bits e.registers → es ≡ shape_moves (frame_of e.word t.frame) pattern p → IsDoer e.word g row es
make_doer w e t pattern p g k row es sound c h has covers fit q s =
    let done = pattern_done e t pattern row h covers in
    record {
      few = done.few;
      read = read_at w e k row sound c has;
      done = subst (λ (n : ℕ). IsDoneBySome e.word n row.holes row.normal es) (sym q)
          (subst (λ (ms : List Move). IsDoneBySome e.word (general_bits e.registers) row.holes row.normal ms) (sym s) (done.each p fit));
    }

pub make_instance : (w : ℕ) (e : RawDescription) (t : ShapeRows) (pattern : Pattern) (p : Open) (g k : ℕ) (row : Row) (es : List Move) (r : Result Instance NoMemory)
    → SaidIsSound → IsChecked w e → AreShapeRows e t → slice_get e.rows k ≡ Some row → CoversPattern e row pattern
    → g ≡ general_set e.registers → es ≡ shape_moves (frame_of e.word t.frame) pattern p → IfOk r (IsDoing e.word g row k es)
    → IfOk r (IsInstanceOf e (frame_of e.word t.frame) pattern p)
make_instance w e t pattern p g k row es r sound c h has covers q s f =
    let done = pattern_done e t pattern row h covers in
    ok_by r (IsDoing e.word g row k es) (IsInstanceOf e (frame_of e.word t.frame) pattern p)
    (λ i x. instance_done e g k (frame_of e.word t.frame) pattern p row i has (read_at w e k row sound c has) q done.line
    (subst (λ (ms : List Move). IsDoing e.word g row k ms i) s x)) f
