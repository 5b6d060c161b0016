-- Worked objects, with their addresses and bytes.
use Rattle.std.specs.Prelude.{◌≡◌, List, [], ◌∷◌, Some, None}
use Rattle.c_tree.specs.declared.types.CType.TheVariants.{Schar, Int}
use Rattle.c_tree.specs.declared.typed.Static.{Static}
use Rattle.c_limits.specs.Limits.{limit_faults}
use Rattle.c_meaning.specs.Sketches.{object}
use Rattle.temp_machine.specs.Routines.{Image, Target}
use Rattle.naive_data.specs.Layout.{addresses, data_of, size_of}
use Rattle.naive_data.specs.Placed.{IsPlaced}

-- `signed char text[3] = {65, -1};`, `int number = 515;` and `signed char letter = -2;`, with values of words of 16 bits
abbrev pub text : Static
text = record { object = object Schar (Some 3); init = 65 ∷ 65535 ∷ [] }

abbrev pub number : Static
number = record { object = object Int None; init = 515 ∷ [] }

abbrev pub letter : Static
letter = record { object = object Schar None; init = 65534 ∷ [] }

abbrev pub objects : List Static
objects = text ∷ number ∷ letter ∷ []

-- characters of an array are bytes, and one alone is a word; the low byte comes first, and a word of text isn't used whole
pub record Objects : Type 0 where
  pub at : addresses 16 1000 objects ≡ 1000 ∷ 1004 ∷ 1006 ∷ []
  pub bytes : data_of 16 objects ≡ 65 ∷ 255 ∷ 0 ∷ 0 ∷ 3 ∷ 2 ∷ 254 ∷ 255 ∷ []
  pub size : size_of 16 objects ≡ 8
  pub within : limit_faults [] 16 8 (record { statics = objects; functions = [] }) ≡ []
  pub placed : (t : Target) (u : Image) → t.word ≡ 16 → t.base ≡ 1000 → u.symbols ≡ 1000 ∷ 1004 ∷ 1006 ∷ [] → u.bytes ≡ 65 ∷ 255 ∷ 0 ∷ 0 ∷ 3 ∷ 2 ∷ 254 ∷ 255 ∷ [] → IsPlaced t u objects
