-- What an accepted description gives of its rows, so that lines can be read and written.
use Rattle.std.specs.Prelude.{◌≡◌, ℕ, suc, ◌<◌, ◌≤◌, List, [], ◌∷◌, length, slice_get, Some, is_some, IsTrue}
use Rattle.rtl_word.specs.Words.{IsWordSize}
use Rattle.md_rows.specs.declared.description.Register.{Register}
use Rattle.md_rows.specs.declared.description.RawDescription.{RawDescription}
use Rattle.md_rows.specs.declared.row.Row.{Row}
use Rattle.md_rows.specs.declared.row.Hole.{Hole}
use Rattle.md_rows.specs.declared.row.Hole.TheVariants.{Reg as RegHole}
use Rattle.md_rows.specs.declared.row.Piece.{Piece}
use Rattle.md_rows.specs.declared.row.Piece.TheVariants.{Name, Num, Byte, Hole as HolePiece}
use Rattle.md_rows.specs.Fits.{is_in}
use Rattle.md_rows.specs.Instances.{register_name}
use Rattle.md_overlap.specs.Overlap.{Overlap}
use Rattle.md_overlap.specs.Premises.{AreNames}

-- a row's holes stand in its text one after another, and nothing else does; n holes stand before
abbrev pub StandInOrder : ℕ → List Piece → List Hole → Type 0
StandInOrder n [] [] = Unit {0}
StandInOrder n [] (h ∷ hs) = ⊥
StandInOrder n (Name bytes ∷ ps) hs = StandInOrder n ps hs
StandInOrder n (Num z ∷ ps) hs = StandInOrder n ps hs
StandInOrder n (Byte b ∷ ps) hs = StandInOrder n ps hs
StandInOrder n (HolePiece k ∷ ps) (h ∷ hs) = (k ≡ n) × StandInOrder (suc n) ps hs
StandInOrder n (HolePiece k ∷ ps) [] = ⊥

-- each register of a class has a name
abbrev pub HasNames : List Register → Hole → Type 0
HasNames rs (RegHole class) = (k : ℕ) → k < 64 → IsTrue (is_in class k) → IsTrue (is_some (register_name rs k))
HasNames rs _ = Unit {0}

abbrev pub HaveNames : List Register → List Hole → Type 0
HaveNames rs [] = Unit {0}
HaveNames rs (h ∷ hs) = HasNames rs h × HaveNames rs hs

pub record IsReadableRow (d : RawDescription) (row : Row) : Type 0 where
  pub in_order : StandInOrder 0 row.text row.holes
  pub few : length row.holes ≤ 8
  pub named : HaveNames d.registers row.holes

pub record IsReadable (d : RawDescription) : Type 0 where
  pub size : IsWordSize d.word
  pub names : AreNames d.registers
  pub few : length d.rows ≤ 4096
  pub rows : (i : ℕ) (row : Row) → slice_get d.rows i ≡ Some row → IsReadableRow d row
  pub apart : (i j : ℕ) (r s : Row) → slice_get d.rows i ≡ Some r → slice_get d.rows j ≡ Some s → Overlap d r s → i ≡ j
