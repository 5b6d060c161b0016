-- The rows of an accepted description, and what stands in the holes of an instance.
use Rattle.std.proofs.Common.{◌≡◌, ℕ, zero, suc, List, [], ◌∷◌, map, slice_get, Some, refl, sym, subst}
use Rattle.rtl_tree.specs.Moves.{Move}
use Rattle.md_rows.specs.declared.description.RawDescription.{RawDescription}
use Rattle.md_rows.specs.declared.row.Row.{Row}
use Rattle.md_rows.specs.declared.instance.Instance.{Instance}
use Rattle.md_rows.specs.Instances.{IsInstance, general_set}
use Rattle.md_covers.specs.Covers.{IsRowMove}
use Rattle.md_said.specs.Sound.{SaidIsSound}
use Rattle.md_bounds.specs.Bounds.{SaidIsBounded}
use Rattle.md_check.specs.Accepted.{normalised_row}
use Rattle.md_check.specs.Checking.{IsChecked}
use Rattle.md_filled.specs.Doing.{IsHeldMove}
use Rattle.md_filled.proofs.Doing.{none_some, some_same, all_at}
use Rattle.temp_laws.proofs.Holding.{move_held}
use Rattle.temp_laws.proofs.Making.{IsGoodRow}

good_at : (w : ℕ) (rows : List Row) → ((i : ℕ) (row : Row) → slice_get rows i ≡ Some row → IsGoodRow w (normalised_row w row)) → (k : ℕ) (row : Row)
    → slice_get (map (normalised_row w) rows) k ≡ Some row → IsGoodRow w row
good_at w [] h k row e = absurd (none_some row e)
good_at w (r ∷ rows) h zero row e = subst (IsGoodRow w) (some_same (normalised_row w r) row e) (h zero r refl)
good_at w (r ∷ rows) h (suc k) row e = good_at w rows (λ i x f. h (suc i) x f) k row e

pub good_rows : (w : ℕ) (d : RawDescription) → SaidIsSound → SaidIsBounded → IsChecked w d → (k : ℕ) (row : Row) → slice_get d.rows k ≡ Some row
    → IsGoodRow d.word row
good_rows w d sound bounded c =
    let s = sound c.text c.said c.accepted.says in
    let f = bounded c.text c.said c.accepted.says in
    subst (λ (e : RawDescription). (k : ℕ) (row : Row) → slice_get e.rows k ≡ Some row → IsGoodRow e.word row) (sym c.normal)
    (good_at c.said.word c.said.rows (λ i r e.
    (let x = s.rows i r e in record { moves = x.effects; numbers = x.numbers; formed = (f.rows i r e).formed; normal = refl })))

-- in each hole of an instance's row stands a value of its kind
pub instance_held : (d : RawDescription) (i : Instance) (row : Row) → IsGoodRow d.word row → IsInstance d i row → (k : ℕ) (m : Move)
    → slice_get row.effects k ≡ Some m → IsHeldMove d.word i.binding m
instance_held d i row good is k m e =
    move_held d.word (general_set d.registers) row.holes i.binding m is.fit (all_at (IsRowMove row.holes) row.effects k m good.moves e)
