-- The heading: six lines, and the ranges of numbers.
use Rattle.std.specs.Prelude.{ℕ, ◌+◌, ◌-◌, ◌/◌, ◌%◌, ◌^◌, ℤ, pos, negsuc, int_le, Bool, true, false, not, ◌&&◌, ◌||◌, ◌==◌, nat_lt, min, if◌then◌else◌, List, length}
use Rattle.std.specs.Int.{int_gap}
use Rattle.std.specs.List.{list_any}
use Rattle.md_text.specs.Pieces.{Range, OfWord, Between, Kind, Numbers, Piece, slots}
use Rattle.md_text.specs.Forms.{Form, Version, MachineName, WordBits, MemorySize, DataBegin, StackSize, RegisterLine, FlagLine, ModeLine, RowLine}
use Rattle.md_text.specs.Declarations.{Declaration, number_of, memory_in, data_in}

-- the place of a form in the heading, and 6 for what stands behind it
abbrev pub place_in_heading : Form → ℕ
place_in_heading Version = 0
place_in_heading (MachineName name) = 1
place_in_heading (WordBits z) = 2
place_in_heading (MemorySize z) = 3
place_in_heading (DataBegin z) = 4
place_in_heading (StackSize z) = 5
place_in_heading _ = 6

-- whether a form behind these declarations breaks the order of the heading, or stands there again
abbrev pub breaks_heading : List Declaration → Form → Bool
breaks_heading before form = not (place_in_heading form == min (length before) 6)

abbrev pub is_word_size : ℤ → Bool
is_word_size (pos n) = n == 16 || n == 32
is_word_size _ = false

-- whole words of w bits
abbrev pub is_whole : ℕ → ℤ → Bool
is_whole w (pos n) = n % (w / 8) == 0
is_whole w _ = false

abbrev pub is_from_to : ℕ → ℕ → ℤ → Bool
is_from_to low high z = int_le (pos low) z && int_le z (pos high)

abbrev pub most_memory : ℕ → ℕ
most_memory w = if w == 16 then 65534 else 16777216

-- data and stack leave some memory between them
abbrev pub leaves_room : List Declaration → ℤ → Bool
leaves_room before z = nat_lt (data_in before + number_of z) (memory_in before)

-- readings of words, with or without sign, in order, and no more of them than there are words
abbrev pub is_legal_range : ℕ → Range → Bool
is_legal_range w OfWord = true
is_legal_range w (Between low high) =
    int_le low high && (nat_lt (int_gap low high) (2 ^ w) && (int_le (negsuc (2 ^ (w - 1) - 1)) low && int_le high (pos (2 ^ w - 1))))

abbrev pub is_legal_kind : ℕ → Kind → Bool
is_legal_kind w (Numbers inverted range) = is_legal_range w range
is_legal_kind w _ = true

abbrev pub has_bad_range : ℕ → List Piece → Bool
has_bad_range w text = list_any (λ h. not (is_legal_kind w h.kind)) (slots text)

-- whether a number of a form behind these declarations is out of its range
abbrev pub is_out_of_range : ℕ → List Declaration → Form → Bool
is_out_of_range w before (WordBits z) = not (is_word_size z)
is_out_of_range w before (MemorySize z) = not (is_whole w z && is_from_to 4096 (most_memory w) z)
is_out_of_range w before (DataBegin z) = not (is_whole w z)
is_out_of_range w before (StackSize z) = not (is_whole w z && (is_from_to 1024 1048576 z && leaves_room before z))
is_out_of_range w before (RegisterLine k name role) = not (is_from_to 0 63 k)
is_out_of_range w before (FlagLine k name) = not (is_from_to 0 7 k)
is_out_of_range w before (ModeLine name text tree) = has_bad_range w text
is_out_of_range w before (RowLine text transfer) = has_bad_range w text
is_out_of_range w before _ = false
