-- The words with which lines begin.
use Rattle.std.specs.Prelude.{◌≡◌, ℕ, List, ◌++◌, codes}
use Rattle.md_text.specs.Forms as says
use Rattle.md_parser.specs.declared.keywords.Keyword.{Keyword}
use Rattle.md_parser.specs.declared.keywords.Keyword.TheVariants.{Version, MachineName, WordBits, MemorySize, DataBegin, StackSize, Register, Flag, Class, Mode, Row}

-- the word with its space, or for the version the whole line
abbrev pub keyword_text : Keyword → List ℕ
keyword_text Version = codes "vpo 1"
keyword_text MachineName = codes "name "
keyword_text WordBits = codes "word "
keyword_text MemorySize = codes "memory "
keyword_text DataBegin = codes "data "
keyword_text StackSize = codes "stack "
keyword_text Register = codes "reg "
keyword_text Flag = codes "flag "
keyword_text Class = codes "class "
keyword_text Mode = codes "mode "
keyword_text Row = codes "row "

-- the line begins with the keyword
pub record Begins (line : List ℕ) (k : Keyword) : Type 0 where
  pub rest : List ℕ
  pub is : line ≡ keyword_text k ++ rest

abbrev pub keyword_of : says.Form → Keyword
keyword_of says.Version = Version
keyword_of (says.MachineName name) = MachineName
keyword_of (says.WordBits z) = WordBits
keyword_of (says.MemorySize z) = MemorySize
keyword_of (says.DataBegin z) = DataBegin
keyword_of (says.StackSize z) = StackSize
keyword_of (says.RegisterLine k name role) = Register
keyword_of (says.FlagLine k name) = Flag
keyword_of (says.ClassLine name registers) = Class
keyword_of (says.ModeLine name text tree) = Mode
keyword_of (says.RowLine text transfer) = Row
