-- The first piece of a text.
use Rattle.std.specs.Prelude.{◌≡◌, ℕ, ◌+◌, false, List, ◌∷◌, ◌++◌, length, drop}
use Rattle.asm_token.specs.Tokens.{Token, LongestToken}
use Rattle.md_text.specs.Pieces.{Slot, Piece, Literal, Hole, IsSlot, slot_text, is_colon}

-- the text begins with this token, which has n bytes
pub record BeginsWithToken (text : List ℕ) (t : Token) (n : ℕ) : Type 0 where
  pub longest : LongestToken text t n
  pub no_colon : is_colon t ≡ false

-- the text begins with this hole, which has n bytes
pub record BeginsWithHole (text : List ℕ) (h : Slot) (n : ℕ) : Type 0 where
  pub slot : IsSlot h
  pub spelled : text ≡ 60 ∷ (slot_text h ++ 62 ∷ drop n text)
  pub bytes : length (slot_text h) + 2 ≡ n

abbrev pub BeginsWith : List ℕ → Piece → ℕ → Type 0
BeginsWith text (Literal t) n = BeginsWithToken text t n
BeginsWith text (Hole h) n = BeginsWithHole text h n
