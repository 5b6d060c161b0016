-- What makes a transfer of a shape: the row of an accepted description, its binding, and which of its assignments take the shape's.
use Rattle.std.proofs.Common.{◌≡◌, ◌⊎◌, inl, inr, ℕ, zero, suc, Bool, true, false, List, [], ◌∷◌, map, slice_get, get_or, Some, All, refl, sym, subst, ap, ◌∙◌}
use Rattle.rtl_tree.specs.Moves.{Move}
use Rattle.rtl_tree.specs.WellFormed.{IsWellFormed}
use Rattle.rtl_tree.proofs.Equality.{and_left, and_right}
use Rattle.rtl_norm.specs.Transfers.{norm_move, norm_moves, IsMoveFitting}
use Rattle.md_rows.specs.declared.description.RawDescription.{RawDescription}
use Rattle.md_rows.specs.declared.row.Row.{Row}
use Rattle.md_rows.specs.declared.instance.Bound.{Bound}
use Rattle.md_rows.specs.Instances.{filled_move, general_set}
use Rattle.md_match.specs.Searches.{Marks, no_marks, is_marked, is_idle, names_none, is_flag_of}
use Rattle.md_match.specs.Does.{Does, IsAlikeMove, IsMarked, AllTraps, IsPartOfMarked}
use Rattle.md_shapes.specs.declared.patterns.Pattern.{Pattern}
use Rattle.md_shapes.specs.Shapes.{Frame, Open, shape_moves}
use Rattle.md_covers.specs.Covers.{IsRowMove}
use Rattle.md_said.specs.Sound.{SaidIsSound}
use Rattle.md_bounds.specs.Bounds.{SaidIsBounded}
use Rattle.md_check.specs.Accepted.{normalised_row}
use Rattle.md_check.specs.Checking.{IsChecked}
use Rattle.md_filled.specs.Doing.{IsHeldMove, IsRowFilled}
use Rattle.md_filled.proofs.Lookups.{Among}
use Rattle.md_filled.proofs.Doing.{none_some, some_same, mapped, unmapped, all_at, no_mark, of_marked, of_move, FlagGoal, flag_goal}
use Rattle.temp_code.specs.declared.code.Transfer.{Transfer}
use Rattle.temp_shapes.specs.Elementary.{IsTransferOf}
use Rattle.temp_laws.proofs.Holding.{move_held}

-- a row as an accepted description has it
pub record IsGoodRow (w : ℕ) (row : Row) : Type 0 where
  pub moves : All (IsRowMove row.holes) row.effects
  pub numbers : All (IsMoveFitting w) row.effects
  pub formed : IsWellFormed row.effects
  pub normal : row.normal ≡ norm_moves w row.effects

good_at : (w : ℕ) (rows : List Row) → ((i : ℕ) (row : Row) → slice_get rows i ≡ Some row → IsGoodRow w (normalised_row w row)) → (k : ℕ) (row : Row)
    → slice_get (map (normalised_row w) rows) k ≡ Some row → IsGoodRow w row
good_at w [] h k row e = absurd (none_some row e)
good_at w (r ∷ rows) h zero row e = subst (IsGoodRow w) (some_same (normalised_row w r) row e) (h zero r refl)
good_at w (r ∷ rows) h (suc k) row e = good_at w rows (λ i x f. h (suc i) x f) k row e

good_rows : (w : ℕ) (d : RawDescription) → SaidIsSound → SaidIsBounded → IsChecked w d → (k : ℕ) (row : Row) → slice_get d.rows k ≡ Some row
    → IsGoodRow d.word row
good_rows w d sound bounded c =
    let s = sound c.text c.said c.accepted.says in
    let f = bounded c.text c.said c.accepted.says in
    subst (λ (e : RawDescription). (k : ℕ) (row : Row) → slice_get e.rows k ≡ Some row → IsGoodRow e.word row) (sym c.normal)
    (good_at c.said.word c.said.rows (λ i r e.
    (let x = s.rows i r e in record { moves = x.effects; numbers = x.numbers; formed = (f.rows i r e).formed; normal = refl })))

-- with words of w bits and the general registers g, a row makes the transfer ms for the transfer es of a shape
pub record Makes (w g : ℕ) (es ms : List Move) : Type 0 where
  pub binding : List Bound
  pub row : Row
  pub good : IsGoodRow w row
  pub effects : ms ≡ map (filled_move binding) row.effects
  pub marks : Marks
  pub does : Does w g row.holes (is_idle 255 g) (norm_moves w row.effects) es binding marks

pub made_of : (w : ℕ) (d : RawDescription) (frame : Frame) (pattern : Pattern) (at : Open) (t : Transfer) → SaidIsSound → SaidIsBounded → IsChecked w d
    → IsTransferOf d frame pattern at t → Makes d.word (general_set d.registers) (shape_moves frame pattern at) t.what
made_of w d frame pattern at t sound bounded c h =
    let g = general_set d.registers in
    let good = good_rows w d sound bounded c t.by.row h.row h.instance.has_row in
    record {
      binding = t.by.binding;
      row = h.row;
      good = good;
      effects = h.effects;
      marks = h.marks;
      does = subst (λ (ns : List Move). Does d.word g h.row.holes (is_idle 255 g) ns (shape_moves frame pattern at) t.by.binding h.marks) good.normal h.does;
    }

module _ (w g : ℕ) (es ms : List Move) (m : Makes w g es ms) where
  abbrev pub normal : List Move
  normal = norm_moves w m.row.effects

  pub held_at : (i : ℕ) (e : Move) → slice_get m.row.effects i ≡ Some e → IsHeldMove w m.binding e
  held_at i e is = move_held w g m.row.holes m.binding e m.does.fit (all_at (IsRowMove m.row.holes) m.row.effects i e m.good.moves is)

  pub row_filled : IsRowFilled w m.binding m.row.effects
  row_filled = record {
    held = λ k e l. move_held w g m.row.holes m.binding (get_or m.row.effects k e) m.does.fit (m.good.moves k e l);
    numbers = m.good.numbers;
    formed = m.good.formed;
  }

  -- an assignment of the row takes one of the shape's
  pub record Taking (e : Move) : Type 0 where
    pub move : Move
    pub among : Among es move
    pub alike : IsAlikeMove m.binding (norm_move w e) move

  -- or it is to a flag, names no general register, and traps only where one that takes one of the shape's does
  pub record Idling (e : Move) : Type 0 where
    pub flag : FlagGoal e.to
    pub names : names_none g (norm_move w e).value ≡ true
    pub traps : AllTraps (IsPartOfMarked normal m.marks m.binding) (norm_move w e).value

  takes : (i : ℕ) (e : Move) → slice_get m.row.effects i ≡ Some e → is_marked m.marks i ≡ true → Taking e
  takes i e is q =
      let p = of_marked normal m.binding es no_marks m.marks i m.does.takes q (no_mark i) in
      let same : p.row_move ≡ norm_move w e = some_same _ _ (sym p.row_is ∙ mapped (norm_move w) m.row.effects i e is) in
      record { move = p.move; among = p.among; alike = subst (λ (x : Move). IsAlikeMove m.binding x p.move) same p.alike }

  -- an assignment of the row that has a mark
  pub marked_takes : (r : Move) → IsMarked normal m.marks true r → (e : Move) × Among m.row.effects e × (norm_move w e ≡ r) × Taking e
  marked_takes r k =
      let from = unmapped (norm_move w) m.row.effects k.place r k.is in
      (from.from, record { place = k.place; is = from.is }, from.to, takes k.place from.from from.is k.marked)

  idles : (i : ℕ) (e : Move) → slice_get m.row.effects i ≡ Some e → is_marked m.marks i ≡ false → Idling e
  idles i e is q =
      let k : IsMarked normal m.marks false (norm_move w e) = record { place = i; is = mapped (norm_move w) m.row.effects i e is; marked = q } in
      let idle = m.does.others (norm_move w e) k in
      record {
        flag = flag_goal w e.to (and_left (is_flag_of 255 (norm_move w e).to) (names_none g (norm_move w e).value) idle);
        names = and_right (is_flag_of 255 (norm_move w e).to) (names_none g (norm_move w e).value) idle;
        traps = m.does.traps (norm_move w e) k;
      }

  pub kind : (e : Move) → Among m.row.effects e → Taking e ⊎ Idling e
  kind e a = by (is_marked m.marks a.place) refl
    where
      by : (q : Bool) → is_marked m.marks a.place ≡ q → Taking e ⊎ Idling e
      by true q = inl (takes a.place e a.is q)
      by false q = inr (idles a.place e a.is q)

  -- the assignment of the row that takes one of the shape's
  pub taker : (x : Move) → Among es x → (e : Move) × Among m.row.effects e × IsAlikeMove m.binding (norm_move w e) x
  taker x a =
      let f = of_move normal m.binding es no_marks m.marks a.place x m.does.takes a.is in
      let from = unmapped (norm_move w) m.row.effects f.place f.row_move f.row_is in
      (from.from, record { place = f.place; is = from.is }, subst (λ (r : Move). IsAlikeMove m.binding r x) (sym from.to) f.alike)

  -- an assignment of the transfer comes from one of the row
  pub comes_from : (x : Move) → Among ms x → (e : Move) × Among m.row.effects e × (filled_move m.binding e ≡ x)
  comes_from x a =
      let from = unmapped (filled_move m.binding) m.row.effects a.place x (ap (λ (xs : List Move). slice_get xs a.place) (sym m.effects) ∙ a.is) in
      (from.from, record { place = a.place; is = from.is }, from.to)

  pub made : (e : Move) → Among m.row.effects e → Among ms (filled_move m.binding e)
  made e a = record {
    place = a.place;
    is = ap (λ (xs : List Move). slice_get xs a.place) m.effects ∙ mapped (filled_move m.binding) m.row.effects a.place e a.is;
  }
