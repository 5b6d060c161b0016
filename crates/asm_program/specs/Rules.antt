-- The rules of assembly texts: which lines keep them, and which rule is told at which line.
use Rattle.std.specs.Prelude.{◌≡◌, ◌≢◌, ℕ, suc, ◌+◌, ◌-◌, ◌/◌, ◌^◌, ◌<◌, ◌≤◌, ◌==◌, nat_lt, Bool, true, false, not, if◌then◌else◌, ℤ, pos, negsuc, List, [], ◌∷◌, ◌++◌, length, Option, Some, None, All}
use Rattle.std.specs.List.{list_all, AllZip}
use Rattle.asm_token.specs.Tokens.{Token, Name}
use Rattle.md_rows.specs.declared.description.RawDescription.{RawDescription}
use Rattle.asm_row.specs.Reading.{Value, Object, Block as BlockValue, Function}
use Rattle.asm_row.specs.Found.{IsFound}
use Rattle.asm_program.specs.TextLines.{Label, Block, Symbol, Said, Nothing, Unreadable, TextBegins, DataBegins, Labelled, Word, Byte, Space, Others, Says, lines_of, is_skipped, line_limit}
use Rattle.asm_program.specs.declared.places.Part.{Part}
use Rattle.asm_program.specs.declared.places.Part.TheVariants.{Outside, InText, InData}
use Rattle.asm_program.specs.declared.rules.Rule.{Rule}
use Rattle.asm_program.specs.declared.rules.Rule.TheVariants.{BadTokens, NoRow, StandsAlready, NotInPart, Misplaced, PassesLimit}
use Rattle.asm_program.specs.Places.{first_place, Position, start, after}

abbrev pub number_of : Rule → ℕ
number_of BadTokens = 1
number_of NoRow = 2
number_of StandsAlready = 3
number_of NotInPart = 4
number_of Misplaced = 5
number_of PassesLimit = 6

abbrev pub begins_with : ℕ → List ℕ → Bool
begins_with b [] = false
begins_with b (c ∷ cs) = c == b

-- the line begins with a name in `.`
abbrev pub is_dotted : List Token → Bool
is_dotted (Name name ∷ ts) = begins_with 46 name
is_dotted _ = false

-- the tokens of an instruction
abbrev pub instruction_in : Part → Said → Option (List Token)
instruction_in InText (Others ts) = if is_dotted ts then None else Some ts
instruction_in part s = None

-- from -low on, and below high
abbrev pub is_between : ℕ → ℕ → ℤ → Bool
is_between low high (pos n) = nat_lt n high
is_between low high (negsuc n) = nat_lt n low

-- a line may stand in its part, on words of w bits
abbrev pub is_in_place : ℕ → Part → Said → Bool
is_in_place w part Nothing = true
is_in_place w part Unreadable = true
is_in_place w Outside TextBegins = true
is_in_place w InText DataBegins = true
is_in_place w InText (Labelled l) = true
is_in_place w InText (Others ts) = not (is_dotted ts)
is_in_place w InData (Labelled l) = true
is_in_place w InData (Word z) = is_between (2 ^ (w - 1)) (2 ^ w) z
is_in_place w InData (Byte z) = is_between 128 256 z
is_in_place w InData (Space z) = is_between 0 16777217 z
is_in_place w _ _ = false

-- a label stands first in this part
pub record StandsIn (all : List Said) (l : Label) (part : Part) : Type 0 where
  pub line : ℕ
  pub first : first_place all l ≡ Some (record { line = line; part = part })

-- a label stands first at this line
pub record StandsAt (all : List Said) (l : Label) (line : ℕ) : Type 0 where
  pub part : Part
  pub first : first_place all l ≡ Some (record { line = line; part = part })

-- a label hole names a label of the text part, a symbol hole one of the data part
abbrev pub IsPlaced : List Said → Value → Type 0
IsPlaced all (Object o) = StandsIn all (Symbol o) InData
IsPlaced all (BlockValue b) = StandsIn all (Block b) InText
IsPlaced all (Function f) = StandsIn all (Symbol f) InText
IsPlaced all _ = Unit {0}

-- a row makes the instruction, and each label that it names is in its part
pub record IsMade (d : RawDescription) (all : List Said) (ts : List Token) : Type 0 where
  pub place : ℕ
  pub values : List Value
  pub found : IsFound d ts place values
  pub placed : All (IsPlaced all) values

abbrev pub instruction_limit : ℕ → ℕ
instruction_limit w = if w == 16 then 65535 else 1000000

abbrev pub name_limit : ℕ
name_limit = 65000

abbrev pub word_bytes : RawDescription → ℕ
word_bytes d = d.word / 8

-- no limit is passed
pub record IsWithin (d : RawDescription) (p : Position) : Type 0 where
  pub instructions : p.count ≤ instruction_limit d.word
  pub statics : d.base + p.reach ≤ d.memory - d.stack
  pub names : length p.names ≤ name_limit

-- the line at this position keeps the rules
pub record IsGood (d : RawDescription) (all : List Said) (p : Position) (s : Said) : Type 0 where
  pub readable : s ≢ Unreadable
  pub made : (ts : List Token) → instruction_in p.part s ≡ Some ts → IsMade d all ts
  pub first : (l : Label) → s ≡ Labelled l → StandsAt all l p.line
  pub in_place : is_in_place d.word p.part s ≡ true
  pub within : IsWithin d (after (word_bytes d) p s)

-- an instruction that no row makes
pub record HasNoRow (d : RawDescription) (p : Position) (s : Said) : Type 0 where
  pub tokens : List Token
  pub is_instruction : instruction_in p.part s ≡ Some tokens
  pub never : (place : ℕ) (values : List Value) → IsFound d tokens place values → ⊥

-- a label that stands already
pub record HasStood (all : List Said) (p : Position) (s : Said) : Type 0 where
  pub label : Label
  pub is_label : s ≡ Labelled label
  pub earlier : StandsAt all label p.line → ⊥

-- an instruction that a row makes, and that names a label that isn't in its part
pub record NamesElsewhere (d : RawDescription) (all : List Said) (p : Position) (s : Said) : Type 0 where
  pub tokens : List Token
  pub is_instruction : instruction_in p.part s ≡ Some tokens
  pub place : ℕ
  pub values : List Value
  pub found : IsFound d tokens place values
  pub elsewhere : IsMade d all tokens → ⊥

-- the line at this position breaks the rule
abbrev pub Breaks : RawDescription → List Said → Position → Said → Rule → Type 0
Breaks d all p s BadTokens = s ≡ Unreadable
Breaks d all p s NoRow = HasNoRow d p s
Breaks d all p s StandsAlready = HasStood all p s
Breaks d all p s NotInPart = NamesElsewhere d all p s
Breaks d all p s Misplaced = is_in_place d.word p.part s ≡ false
Breaks d all p s PassesLimit = IsWithin d (after (word_bytes d) p s) → ⊥

-- the lines keep the rules, from the first position to the last
abbrev pub Walks : RawDescription → List Said → Position → List Said → Position → Type 0
Walks d all p [] q = p ≡ q
Walks d all p (s ∷ ss) q = IsGood d all p s × Walks d all (after (word_bytes d) p s) ss q

-- each line says this
abbrev pub AreSaid : List ℕ → List Said → Type 0
AreSaid text saids = AllZip Says (lines_of text) saids

-- the text keeps the rules
pub record IsSound (d : RawDescription) (all : List Said) : Type 0 where
  pub last : Position
  pub walks : Walks d all start all last
  pub begun : last.part ≢ Outside

-- this is the least line that breaks a rule, and there the least rule; lines are counted from 1
pub record IsBrokenAt (d : RawDescription) (all : List Said) (line : ℕ) (rule : Rule) : Type 0 where
  pub before : List Said
  pub said : Said
  pub behind : List Said
  pub are : all ≡ before ++ said ∷ behind
  pub position : Position
  pub walks : Walks d all start before position
  pub breaks : Breaks d all position said rule
  pub least : (other : Rule) → number_of other < number_of rule → Breaks d all position said other → ⊥
  pub is_line : line ≡ suc (length before)

abbrev pub is_blank : List ℕ → Bool
is_blank text = list_all is_skipped (lines_of text)

abbrev pub first_is_long : List (List ℕ) → Bool
first_is_long [] = false
first_is_long (line ∷ lines) = nat_lt line_limit (length line)

-- the line and the rule that are told; a text without `.text` is told at its first line
pub data IsTold (d : RawDescription) (text : List ℕ) : ℕ → Rule → Type 0 where
  nothing : is_blank text ≡ true → first_is_long (lines_of text) ≡ false → IsTold d text 1 Misplaced
  long_nothing : is_blank text ≡ true → first_is_long (lines_of text) ≡ true → IsTold d text 1 BadTokens
  broken : (all : List Said) (line : ℕ) (rule : Rule) → is_blank text ≡ false → AreSaid text all → IsBrokenAt d all line rule → IsTold d text line rule
