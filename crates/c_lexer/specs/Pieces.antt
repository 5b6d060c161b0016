-- What stands at the front of a text: a blank, a comment (C11 6.4.9) or a token (C11 6.4), and how long it is.
use Rattle.std.specs.Prelude.{ℕ, ◌+◌, suc, List, [], ◌∷◌, ◌++◌, length, take, drop, Bool, true, false, not, nat_lt, ◌==◌, ◌&&◌, if◌then◌else◌, Option, Some, None, Result, Ok, Err, codes, slice_index}
use Rattle.std.specs.List.{prefix_len}
use Rattle.std.specs.Option.{option_map}
use Rattle.std.specs.Str.{bytes_eq}
use Rattle.c_tree.specs.declared.token.TokenKind.{TokenKind}
use Rattle.c_tree.specs.declared.token.TokenKind.TheVariants.{Name, Keyword, Character, Mark, Include}
use Rattle.c_lexer.specs.declared.rule.Rule.{Rule}
use Rattle.c_lexer.specs.declared.rule.Rule.TheVariants.{Unknown, Misspelt, OpenComment, LongName}
use Rattle.c_lexer.specs.declared.bytes.ByteClass.TheVariants.{Blank, LineBlank, Digit, NameByte, NumberByte, Hexadecimal}
use Rattle.c_lexer.specs.Bytes.{is_in, is_letter, first}
use Rattle.c_lexer.specs.Words.{keywords, marks, is_one_of}
use Rattle.c_lexer.specs.Constants.{constant, character_value, signed_char}

-- the token that a front is, or none for a blank or a comment, and the front's length; or the rule that is broken there
abbrev pub Found : Type 0
Found = Result (Option TokenKind × ℕ) Rule

abbrev pub gap : ℕ → Found
gap n = Ok (None, n)

abbrev pub token : TokenKind → ℕ → Found
token k n = Ok (Some k, n)

-- the longest front of bytes that pass
abbrev pub run : (ℕ → Bool) → List ℕ → List ℕ
run test bytes = take (prefix_len test bytes) bytes

-- a name or a keyword
unfoldable pub word : List ℕ → Found
word bytes =
    if nat_lt 63 (length bytes) then Err LongName
    else if is_one_of keywords bytes then token (Keyword bytes) (length bytes)
    else token (Name bytes) (length bytes)

abbrev pub constant_or_not : ℕ → Option TokenKind → Found
constant_or_not n None = Err Misspelt
constant_or_not n (Some k) = token k n

-- a numeral takes all letters, digits, _ and . that follow its first digit
unfoldable pub numeral : List ℕ → Found
numeral bytes = constant_or_not (length bytes) (constant bytes)

-- how many bytes stand between the quotes: one, or a backslash, a byte and the hexadecimal digits behind it
abbrev pub content_len : List ℕ → ℕ
content_len [] = 0
content_len (b ∷ bs) = if b == 92 then 2 + prefix_len (is_in Hexadecimal) (drop 1 bs) else 1

abbrev pub character_or_not : ℕ → Option ℕ → Found
character_or_not n None = Err Misspelt
character_or_not n (Some value) = token (Character (signed_char value)) n

-- a character constant, given what stands behind its first quote
unfoldable pub character : List ℕ → Found
character bytes =
    let n = content_len bytes in
    if slice_index bytes n == 39 then character_or_not (n + 2) (character_value (take n bytes)) else Err Misspelt

-- the mark of these bytes, else what is told
abbrev pub mark_or : List ℕ → Found → Found
mark_or bytes other = if is_one_of marks bytes then token (Mark bytes) (length bytes) else other

-- the longest mark
unfoldable pub mark : List ℕ → Found
mark bytes = mark_or (take 3 bytes) (mark_or (take 2 bytes) (mark_or (take 1 bytes) (Err Unknown)))

abbrev pub is_line_feed : ℕ → Bool
is_line_feed b = b == 10

abbrev pub is_close : List ℕ → Bool
is_close [] = false
is_close (b ∷ bs) = (b == 42) && (first bs == 47)

-- how many bytes stand before the first */
abbrev pub close_at : List ℕ → Option ℕ
close_at [] = None
close_at (b ∷ bs) = if is_close (b ∷ bs) then Some 0 else option_map suc (close_at bs)

abbrev pub comment_or_not : Option ℕ → Found
comment_or_not None = Err OpenComment
comment_or_not (Some n) = gap (n + 4)

-- a comment of either kind, or a mark
unfoldable pub slash : List ℕ → Found
slash bytes =
    if slice_index bytes 1 == 47 then gap (2 + prefix_len (λ b. not (is_line_feed b)) (drop 2 bytes))
    else if slice_index bytes 1 == 42 then comment_or_not (close_at (drop 2 bytes))
    else mark bytes

-- what stands behind these bytes, if the text begins with them
abbrev pub behind : List ℕ → List ℕ → Option (List ℕ)
behind bytes text = if bytes_eq (take (length bytes) text) bytes then Some (drop (length bytes) text) else None

abbrev pub blanks : List ℕ → ℕ
blanks = prefix_len (is_in LineBlank)

abbrev pub header_len : ℕ → List ℕ → Option ℕ
header_len n text = option_map (λ _. n + blanks text + 9) (behind (codes "<stdio.h>") (drop (blanks text) text))

abbrev pub directive_len : ℕ → Option (List ℕ) → Option ℕ
directive_len n None = None
directive_len n (Some text) = header_len n text

-- the length of #include <stdio.h> with blanks between its parts, given what stands behind #
unfoldable pub include_len : List ℕ → Option ℕ
include_len bytes = directive_len (blanks bytes + 8) (behind (codes "include") (drop (blanks bytes) bytes))

abbrev pub include_or_not : Option ℕ → Found
include_or_not None = Err Unknown
include_or_not (Some n) = token Include n

-- the piece at the front of a text that isn't empty; fresh tells that no token stands before it on its line
unfoldable pub piece_at : Bool → List ℕ → Found
piece_at fresh text =
    if is_in Blank (first text) then gap 1
    else if is_letter (first text) then word (run (is_in NameByte) text)
    else if is_in Digit (first text) then numeral (run (is_in NumberByte) text)
    else if first text == 39 then character (drop 1 text)
    else if first text == 47 then slash text
    else if (first text == 35) && fresh then include_or_not (include_len (drop 1 text))
    else mark text
