-- Fields of a line.
use Rattle.std.specs.Prelude.{◌≡◌, ℕ, ◌<◌, ℤ, true, IsTrue, List, [], ◌∷◌, ◌++◌, length, map, flat_map}
use Rattle.std.specs.Fmt.{signed_decimal}
use Rattle.asm_token.specs.Tokens.{Token, Number, IsToken, IsName, spelling}
use Rattle.md_text.specs.Pieces.{Range, Kind, Numbers, Slot, IsRange, IsKind, IsSlot, range_text, kind_text, slot_text}
use Rattle.md_text.specs.Lines.{lacks}
use Rattle.md_text.specs.Forms.{EachName}

-- the bytes are this token, and nothing else
pub record IsWholeToken (bytes : List ℕ) (t : Token) : Type 0 where
  pub token : IsToken t
  pub text : bytes ≡ spelling t

-- the bytes are this number, and nothing else
pub record IsWholeNumber (bytes : List ℕ) (z : ℤ) : Type 0 where
  pub text : bytes ≡ signed_decimal z
  pub number : IsToken (Number z)

-- the bytes are one name or more, with a space before each
pub record AreSpacedNames (bytes : List ℕ) (names : List (List ℕ)) : Type 0 where
  pub text : bytes ≡ flat_map (λ name. 32 ∷ name) names
  pub each : EachName names
  pub some : 0 < length names

-- the bytes are this range of numbers
pub record IsRangeText (bytes : List ℕ) (r : Range) : Type 0 where
  pub range : IsRange r
  pub text : bytes ≡ range_text r

-- the bytes are this kind of hole
pub record IsKindText (bytes : List ℕ) (k : Kind) : Type 0 where
  pub kind : IsKind k
  pub text : bytes ≡ kind_text k

-- a kind whose numbers aren't inverted
abbrev pub IsPlain : Kind → Type 0
IsPlain (Numbers true r) = ⊥
IsPlain k = Unit {0}

-- the bytes are this hole, without `<` and `>`
pub record IsSlotText (bytes : List ℕ) (h : Slot) : Type 0 where
  pub slot : IsSlot h
  pub text : bytes ≡ slot_text h

-- the bytes end, or a space follows
abbrev pub StopsAtSpace : List ℕ → Type 0
StopsAtSpace [] = Unit {0}
StopsAtSpace (b ∷ bs) = b ≡ 32

-- the first part is what stands before the first space, or all
pub record IsUptoSpace (bytes front back : List ℕ) : Type 0 where
  pub text : bytes ≡ front ++ back
  pub first : IsTrue (lacks 32 front)
  pub stops : StopsAtSpace back

-- the bytes begin with a space and this name, behind which they stop or a space follows
pub record BeginsWithName (bytes name back : List ℕ) : Type 0 where
  pub text : bytes ≡ 32 ∷ (name ++ back)
  pub named : IsName name
  pub stops : StopsAtSpace back
