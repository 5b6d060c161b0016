-- What it means that a line with a keyword has none of the keyword's forms.
use Rattle.std.specs.Prelude.{◌≡◌, ℕ, ℤ, List, codes}
use Rattle.md_rows.specs.declared.description.Role.{Role}
use Rattle.md_text.specs.Pieces.{Piece}
use Rattle.md_text.specs.Forms.{OpenTree, OpenTransfer, IsNameLine, IsNumberLine, IsRegisterLine, IsFlagLine, IsClassLine, IsModeLine, IsRowLine}
use Rattle.md_parser.specs.declared.keywords.Keyword.{Keyword}
use Rattle.md_parser.specs.declared.keywords.Keyword.TheVariants.{Version, MachineName, WordBits, MemorySize, DataBegin, StackSize, Register, Flag, Class, Mode, Row}

abbrev pub RefusesKind : Keyword → ℕ → List ℕ → Type 0
RefusesKind Version w line = line ≡ codes "vpo 1" → ⊥
RefusesKind MachineName w line = (name : List ℕ) → IsNameLine (codes "name ") line name → ⊥
RefusesKind WordBits w line = (z : ℤ) → IsNumberLine (codes "word ") line z → ⊥
RefusesKind MemorySize w line = (z : ℤ) → IsNumberLine (codes "memory ") line z → ⊥
RefusesKind DataBegin w line = (z : ℤ) → IsNumberLine (codes "data ") line z → ⊥
RefusesKind StackSize w line = (z : ℤ) → IsNumberLine (codes "stack ") line z → ⊥
RefusesKind Register w line = (k : ℤ) (name : List ℕ) (role : Role) → IsRegisterLine line k name role → ⊥
RefusesKind Flag w line = (k : ℤ) (name : List ℕ) → IsFlagLine line k name → ⊥
RefusesKind Class w line = (name : List ℕ) (registers : List (List ℕ)) → IsClassLine line name registers → ⊥
RefusesKind Mode w line = (name : List ℕ) (text : List Piece) (tree : OpenTree) → IsModeLine w line name text tree → ⊥
RefusesKind Row w line = (text : List Piece) (transfer : OpenTransfer) → IsRowLine w line text transfer → ⊥
