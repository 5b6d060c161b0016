-- What the constants are worth (C11 6.4.4).
use Rattle.std.specs.Prelude.{ℕ, ℤ, pos, ◌+◌, ◌-◌, ◌*◌, ◌-ℤ◌, List, [], ◌∷◌, length, take, drop, Bool, true, false, nat_le, nat_lt, ◌==◌, ◌&&◌, ◌||◌, if◌then◌else◌, fold, min, Option, Some, None, slice_index}
use Rattle.std.specs.List.{list_all}
use Rattle.std.specs.Option.{option_map}
use Rattle.c_tree.specs.declared.token.TokenKind.{TokenKind}
use Rattle.c_tree.specs.declared.token.TokenKind.TheVariants.{Number}
use Rattle.c_lexer.specs.declared.bytes.ByteClass.{ByteClass}
use Rattle.c_lexer.specs.declared.bytes.ByteClass.TheVariants.{Digit, Octal, Hexadecimal}
use Rattle.c_lexer.specs.Bytes.{is_in, within, first}

abbrev pub digit_of : ℕ → ℕ
digit_of b = if nat_le b 57 then b - 48 else (if nat_le b 70 then b - 55 else b - 87)

abbrev pub value_of : ℕ → List ℕ → ℕ
value_of base digits = fold (λ v b. v * base + digit_of b) 0 digits

-- the value, where 2^32 stands for every greater number
abbrev pub number_of : ℕ → List ℕ → ℕ
number_of base digits = min (value_of base digits) 4294967296

-- the constant of these digits, at least one and all of the class
abbrev pub digits_only : ByteClass → ℕ → List ℕ → Bool → Bool → Option TokenKind
digits_only class base digits decimal unsigned =
    if nat_lt 0 (length digits) && list_all (is_in class) digits then Some (Number (number_of base digits) decimal unsigned) else None

abbrev pub is_x : ℕ → Bool
is_x b = (b == 120) || (b == 88)

abbrev pub is_u : ℕ → Bool
is_u b = (b == 117) || (b == 85)

-- 0x or 0X and hexadecimal digits, 0 and octal digits, or decimal digits
abbrev pub unsuffixed : List ℕ → Bool → Option TokenKind
unsuffixed text unsigned =
    if first text == 48
    then (if is_x (first (drop 1 text)) then digits_only Hexadecimal 16 (drop 2 text) false unsigned else digits_only Octal 8 text false unsigned)
    else digits_only Digit 10 text true unsigned

-- the constant that a numeral spells, with the suffix u or U or none
abbrev pub constant : List ℕ → Option TokenKind
constant text =
    if is_u (slice_index text (length text - 1)) then unsuffixed (take (length text - 1) text) true else unsuffixed text false

abbrev pub simple_escape : ℕ → Option ℕ
simple_escape b =
    if b == 110 then Some 10 else if b == 116 then Some 9 else if b == 114 then Some 13 else if b == 97 then Some 7
    else if b == 98 then Some 8 else if b == 102 then Some 12 else if b == 118 then Some 11
    else if (b == 92) || (b == 39) || (b == 34) || (b == 63) then Some b else None

abbrev pub up_to_255 : ℕ → Option ℕ
up_to_255 n = if nat_le n 255 then Some n else None

abbrev pub octal_escape : List ℕ → Option ℕ
octal_escape digits = if nat_le (length digits) 3 && list_all (is_in Octal) digits then up_to_255 (number_of 8 digits) else None

abbrev pub hexadecimal_escape : List ℕ → Option ℕ
hexadecimal_escape digits = if list_all (is_in Hexadecimal) digits then up_to_255 (number_of 16 digits) else None

-- what the bytes behind a backslash stand for
abbrev pub escape_value : List ℕ → Option ℕ
escape_value [] = None
escape_value (b ∷ []) = if is_in Octal b then octal_escape (b ∷ []) else simple_escape b
escape_value (b ∷ c ∷ more) = if b == 120 then hexadecimal_escape (c ∷ more) else octal_escape (b ∷ c ∷ more)

abbrev pub is_plain : ℕ → Bool
is_plain b = within 32 126 b && (if (b == 39) || (b == 92) then false else true)

-- what the bytes between the quotes stand for
abbrev pub character_value : List ℕ → Option ℕ
character_value [] = None
character_value (b ∷ []) = if is_plain b then Some b else None
character_value (b ∷ c ∷ more) = if b == 92 then escape_value (c ∷ more) else None

-- read as a signed char
abbrev pub signed_char : ℕ → ℤ
signed_char n = if nat_lt n 128 then pos n else (pos n -ℤ pos 256)
