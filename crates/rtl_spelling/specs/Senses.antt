-- What a token says to a reader.
use Rattle.std.specs.Prelude.{ℕ, suc, ◌-◌, ◌+◌, ◌^◌, ◌==◌, Bool, false, ◌&&◌, ◌||◌, not, nat_lt, if◌then◌else◌, List, [], ◌∷◌, length, Option, Some, None, codes}
use Rattle.std.specs.Char.{is_ascii_digit}
use Rattle.std.specs.List.{list_all}
use Rattle.std.specs.Option.{option_map}
use Rattle.std.specs.Str.{bytes_eq}
use Rattle.std.specs.Str.Parse.{digits_value}
use Rattle.rtl_word.specs.declared.Rel.TheVariants.{Eq, Ne, Lt, Le, Gt, Ge, Ltu, Leu, Gtu, Geu}
use Rattle.rtl_tree.specs.declared.cells.Cell.{Cell}
use Rattle.rtl_tree.specs.declared.cells.Cell.TheVariants.{Hard, Temp, Flag, Pc, Input, Output, Halt}
use Rattle.rtl_tree.specs.declared.cells.Lab.TheVariants.{Block, Function}
use Rattle.rtl_tree.specs.declared.expressions.Width.TheVariants.{Byte, Full}
use Rattle.rtl_tree.specs.declared.expressions.UnOp.TheVariants.{Neg, Not, Sxb}
use Rattle.rtl_tree.specs.declared.expressions.BinOp.TheVariants.{Add, Sub, Mul, Div, Divu, Rem, Remu, And, Or, Xor, Shl, Shr, Shru, Cmp, Pair, When}
use Rattle.rtl_spelling.specs.declared.signs.Sign.{Sign}
use Rattle.rtl_spelling.specs.declared.signs.Sign.TheVariants as sign
use Rattle.rtl_spelling.specs.declared.senses.Bank.{Bank}
use Rattle.rtl_spelling.specs.declared.senses.Bank.TheVariants.{Register, Temporary, Flag as FlagBank}
use Rattle.rtl_spelling.specs.declared.senses.Sense.{Sense}
use Rattle.rtl_spelling.specs.declared.senses.Sense.TheVariants as sense
use Rattle.rtl_spelling.specs.Tokens.{Token, Word, Number, Mark}
use Rattle.rtl_spelling.specs.Spelling.{Context}

-- digits, the first of which is 0 only where it stands alone
abbrev pub is_plain : List ℕ → Bool
is_plain [] = false
is_plain (b ∷ bs) = list_all is_ascii_digit (b ∷ bs) && (not (b == 48) || length bs == 0)

-- the number below a bound that the digits spell
abbrev pub number_below : ℕ → List ℕ → Option ℕ
number_below bound bs = if is_plain bs && nat_lt (digits_value 10 bs) bound then Some (digits_value 10 bs) else None

-- the word of a magnitude below zero
abbrev pub negative_word : ℕ → Option ℕ → Option ℕ
negative_word w None = None
negative_word w (Some m) = if m == 0 then None else Some (2 ^ w - m)

-- the word whose signed reading the bytes spell
abbrev pub word_spelled : ℕ → List ℕ → Option ℕ
word_spelled w [] = None
word_spelled w (b ∷ bs) = if b == 45 then negative_word w (number_below (2 ^ (w - 1) + 1) bs) else number_below (2 ^ (w - 1)) (b ∷ bs)

-- the place of a name among names
abbrev pub place_among : List (List ℕ) → List ℕ → Option ℕ
place_among [] name = None
place_among (n ∷ ns) name = if bytes_eq n name then Some 0 else option_map suc (place_among ns name)

-- the words that always say the same
abbrev pub keywords : List (List ℕ × Sense)
keywords =
    (codes "r", sense.Bank Register) ∷ (codes "t", sense.Bank Temporary) ∷ (codes "f", sense.Bank FlagBank)
    ∷ (codes "PC", sense.Cell Pc) ∷ (codes "IN", sense.Cell Input) ∷ (codes "OUT", sense.Cell Output) ∷ (codes "HALT", sense.Cell Halt)
    ∷ (codes "M", sense.Memory Full) ∷ (codes "B", sense.Memory Byte)
    ∷ (codes "neg", sense.Unary Neg) ∷ (codes "not", sense.Unary Not) ∷ (codes "sxb", sense.Unary Sxb)
    ∷ (codes "div", sense.Binary Div) ∷ (codes "divu", sense.Binary Divu) ∷ (codes "rem", sense.Binary Rem)
    ∷ (codes "remu", sense.Binary Remu) ∷ (codes "shl", sense.Binary Shl) ∷ (codes "shr", sense.Binary Shr)
    ∷ (codes "shru", sense.Binary Shru) ∷ (codes "eq", sense.Binary (Cmp Eq)) ∷ (codes "ne", sense.Binary (Cmp Ne))
    ∷ (codes "lt", sense.Binary (Cmp Lt)) ∷ (codes "le", sense.Binary (Cmp Le)) ∷ (codes "gt", sense.Binary (Cmp Gt))
    ∷ (codes "ge", sense.Binary (Cmp Ge)) ∷ (codes "ltu", sense.Binary (Cmp Ltu)) ∷ (codes "leu", sense.Binary (Cmp Leu))
    ∷ (codes "gtu", sense.Binary (Cmp Gtu)) ∷ (codes "geu", sense.Binary (Cmp Geu)) ∷ (codes "lost", sense.Lost) ∷ []

abbrev pub sense_among : List (List ℕ × Sense) → List ℕ → Sense
sense_among [] bs = sense.Strange
sense_among (k ∷ ks) bs = if bytes_eq k.0 bs then k.1 else sense_among ks bs

-- the block label with these digits
abbrev pub block_sense : Option ℕ → Sense
block_sense (Some k) = sense.Label (Block k)
block_sense None = sense.Strange

abbrev pub function_sense : Option ℕ → Sense
function_sense (Some k) = sense.Label (Function k)
function_sense None = sense.Strange

-- the name of an object, or else of a function
abbrev pub name_sense : Option ℕ → Option ℕ → Sense
name_sense (Some k) f = sense.Object k
name_sense None f = function_sense f

abbrev pub word_sense : Context → List ℕ → Sense
word_sense c [] = sense.Strange
word_sense c (b ∷ bs) =
    if b == 95 then name_sense (place_among c.objects bs) (place_among c.functions bs)
    else if b == 76 then block_sense (number_below (2 ^ 32) bs)
    else sense_among keywords (b ∷ bs)

abbrev pub number_sense : Option ℕ → Sense
number_sense (Some n) = sense.Number n
number_sense None = sense.Strange

abbrev pub mark_sense : Sign → Sense
mark_sense sign.Plus = sense.Binary Add
mark_sense sign.Minus = sense.Binary Sub
mark_sense sign.Star = sense.Binary Mul
mark_sense sign.Ampersand = sense.Binary And
mark_sense sign.Bar = sense.Binary Or
mark_sense sign.Caret = sense.Binary Xor
mark_sense sign.Question = sense.Binary Pair
mark_sense sign.Arrow = sense.Binary When
mark_sense s = sense.Sign s

abbrev pub sense_of : Context → Token → Sense
sense_of c (Word bs) = word_sense c bs
sense_of c (Number bs) = number_sense (word_spelled c.width bs)
sense_of c (Mark s) = mark_sense s

-- how many cells of a bank have a spelling
abbrev pub bank_size : Bank → ℕ
bank_size Register = 64
bank_size Temporary = 65536
bank_size FlagBank = 8

abbrev pub bank_cell : Bank → ℕ → Cell
bank_cell Register n = Hard n
bank_cell Temporary n = Temp n
bank_cell FlagBank n = Flag n

-- the cell of a bank whose index the token is
abbrev pub cell_at : Bank → Token → Option Cell
cell_at b (Number bs) = option_map (bank_cell b) (number_below (bank_size b) bs)
cell_at b t = None
