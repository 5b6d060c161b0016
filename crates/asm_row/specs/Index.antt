-- An index of rows by the first tokens of their texts.
use Rattle.std.specs.Prelude.{◌≡◌, ℕ, ◌<◌, List, [], ◌∷◌, slice_get, Option, Some, None, Contains}
use Rattle.std.specs.Option.{option_map_or}
use Rattle.std.specs.Str.{bytes_eq}
use Rattle.std.specs.Borrow.{Bor}
use Rattle.std.specs.Global.{Vec}
use Rattle.std.specs.HashMap.{HashMap, get_by}
use Rattle.std.specs.List.{AllByRecursion}
use Rattle.asm_token.specs.Tokens.{Token, Name as NameToken}
use Rattle.md_rows.specs.declared.description.RawDescription.{RawDescription}
use Rattle.md_rows.specs.declared.row.Row.{Row}
use Rattle.md_rows.specs.declared.row.Piece.{Piece}
use Rattle.md_rows.specs.declared.row.Piece.TheVariants.{Name}
use Rattle.asm_row.specs.declared.listing.Index.{Index}
use Rattle.asm_row.specs.Reading.{Value, IsReading}
use Rattle.asm_row.specs.Found.{IsFound}

-- the name that a row's text begins with
abbrev pub first_name : List Piece → Option (List ℕ)
first_name (Name bytes ∷ ps) = Some bytes
first_name _ = None

-- the name that a line begins with
abbrev pub first_word : List Token → Option (List ℕ)
first_word (NameToken name ∷ ts) = Some name
first_word _ = None

-- the places under a name
abbrev pub listed : {S : Type 0} → HashMap (Bor (List ℕ)) (Vec ℕ) S → List ℕ → List ℕ
listed places name = option_map_or (λ v. v.items) (get_by (λ k. bytes_eq name k.now) places) []

-- the places of rows that begin with the name, or with none
abbrev pub places_under : Index → Option (List ℕ) → List ℕ
places_under x (Some name) = listed x.named name
places_under x None = x.others.items

-- a place is added under a key, and none is lost
pub record IsAdded (old new : Index) (key : Option (List ℕ)) (place : ℕ) : Type 0 where
  pub is_there : Contains (places_under new key) place
  pub kept : (other : Option (List ℕ)) (i : ℕ) → Contains (places_under old other) i → Contains (places_under new other) i

-- each of the first rows stands under the name that it begins with
abbrev pub AreListed : RawDescription → ℕ → Index → Type 0
AreListed d count x = (i : ℕ) (row : Row) → i < count → slice_get d.rows i ≡ Some row → Contains (places_under x (first_name row.text)) i

-- the tokens are no line of the row at this place, or one with these values
abbrev pub IsReadAt : RawDescription → List Token → ℕ → Option (List Value) → Type 0
IsReadAt d ts place None = (row : Row) (vs : List Value) → slice_get d.rows place ≡ Some row → IsReading d row ts vs → ⊥
IsReadAt d ts place (Some vs) = IsFound d ts place vs

-- the tokens are no line of a row at these places
abbrev pub NoneAmong : RawDescription → List Token → List ℕ → Type 0
NoneAmong d ts places = AllByRecursion (λ place. IsReadAt d ts place None) places
