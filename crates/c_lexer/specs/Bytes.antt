-- Classes of bytes, and runs of bytes of a class.
use Rattle.std.specs.Prelude.{ℕ, List, [], ◌∷◌, Bool, nat_le, ◌==◌, ◌&&◌, ◌||◌}
use Rattle.c_lexer.specs.declared.bytes.ByteClass.{ByteClass}
use Rattle.c_lexer.specs.declared.bytes.ByteClass.TheVariants.{Blank, LineBlank, Letter, Digit, Octal, Hexadecimal, NameByte, NumberByte}

abbrev pub within : ℕ → ℕ → ℕ → Bool
within low high b = nat_le low b && nat_le b high

abbrev pub is_letter : ℕ → Bool
is_letter b = within 97 122 b || within 65 90 b || (b == 95)

-- 9 to 13 are tab, line feed, vertical tab, form feed and carriage return
abbrev pub is_in : ByteClass → ℕ → Bool
is_in Blank b = (b == 32) || within 9 13 b
is_in LineBlank b = (b == 32) || (b == 9) || within 11 13 b
is_in Letter b = is_letter b
is_in Digit b = within 48 57 b
is_in Octal b = within 48 55 b
is_in Hexadecimal b = within 48 57 b || within 97 102 b || within 65 70 b
is_in NameByte b = is_letter b || within 48 57 b
is_in NumberByte b = is_letter b || within 48 57 b || (b == 46)

-- the first byte; past the end stands 0, which is in no class
abbrev pub first : List ℕ → ℕ
first [] = 0
first (b ∷ bs) = b
