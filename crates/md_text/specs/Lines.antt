-- The lines of a description's text.
use Rattle.std.specs.Prelude.{◌≡◌, ◌≢◌, ℕ, suc, ◌==◌, Bool, true, false, not, ◌&&◌, IsTrue, nat_le, if◌then◌else◌, List, [], ◌∷◌, ◌++◌, length, flat_map, filter, codes}
use Rattle.std.specs.List.{list_all}
use Rattle.std.specs.Str.{bytes_eq}

-- none of the bytes is b
abbrev pub lacks : ℕ → List ℕ → Bool
lacks b bytes = list_all (λ c. not (c == b)) bytes

-- no line feed stands in these bytes
abbrev pub is_one_line : List ℕ → Bool
is_one_line bytes = lacks 10 bytes

-- each line with its line feed
abbrev pub text_of : List (List ℕ) → List ℕ
text_of lines = flat_map (λ line. line ++ 10 ∷ []) lines

-- the text falls into these lines, each before a line feed, and what follows the last line feed
pub record FallsInto (text : List ℕ) (lines : List (List ℕ)) (rest : List ℕ) : Type 0 where
  pub whole : text ≡ text_of lines ++ rest
  pub each : IsTrue (list_all is_one_line lines)
  pub unended : IsTrue (is_one_line rest)

-- the text is these lines, the last with its line feed as well
abbrev pub IsText : List ℕ → List (List ℕ) → Type 0
IsText text lines = FallsInto text lines []

abbrev pub is_printable : ℕ → Bool
is_printable b = nat_le 32 b && nat_le b 126

-- at most 255 bytes, without the line feed, each of which can be printed
abbrev pub is_good_line : List ℕ → Bool
is_good_line bytes = nat_le (length bytes) 255 && list_all is_printable bytes

-- a line of the text is too long, has a byte that can't be printed, or has no line feed; lines are counted from 1
pub data HasBadLine (text : List ℕ) : ℕ → Type 0 where
  bad :
      (before after : List (List ℕ)) (line rest : List ℕ) → FallsInto text (before ++ line ∷ after) rest → is_good_line line ≡ false
      → HasBadLine text (suc (length before))
  unfinished : (lines : List (List ℕ)) (rest : List ℕ) → FallsInto text lines rest → rest ≢ [] → HasBadLine text (suc (length lines))

-- a line with its number
pub record Line : Type 0 where
  pub number : ℕ
  pub bytes : List ℕ

abbrev pub numbered_from : ℕ → List (List ℕ) → List Line
numbered_from n [] = []
numbered_from n (line ∷ lines) = record { number = n; bytes = line } ∷ numbered_from (suc n) lines

-- empty lines and those that begin with `*` are skipped
abbrev pub is_skipped : List ℕ → Bool
is_skipped [] = true
is_skipped (b ∷ bs) = b == 42

-- the lines that say something
abbrev pub kept : List (List ℕ) → List Line
kept lines = filter (λ line. not (is_skipped line.bytes)) (numbered_from 1 lines)

-- the first line that is kept isn't that of this version; told at line 1 where none is kept
abbrev pub BeginsOtherwise : List Line → ℕ → Type 0
BeginsOtherwise [] n = n ≡ 1
BeginsOtherwise (line ∷ lines) n = (n ≡ line.number) × (line.bytes ≢ codes "vpo 1")

-- the bits of a word by which transfers are read: 16 where the third line that is kept says so, else 32
abbrev pub width_of : List Line → ℕ
width_of (version ∷ name ∷ word ∷ lines) = if bytes_eq word.bytes (codes "word 16") then 16 else 32
width_of _ = 32
