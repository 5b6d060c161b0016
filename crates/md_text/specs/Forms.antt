-- What a line says.
use Rattle.std.specs.Prelude.{◌≡◌, ℕ, suc, ◌<◌, ℤ, IsTrue, List, [], ◌∷◌, ◌++◌, length, flat_map, codes, Option, Some, Bool, true, false, ◌&&◌}
use Rattle.std.specs.Fmt.{signed_decimal}
use Rattle.std.specs.List.{list_all}
use Rattle.asm_token.specs.Tokens.{IsToken, IsName, Number}
use Rattle.rtl_tree.specs.declared.cells.Cell.TheVariants.{Hole}
use Rattle.rtl_tree.specs.Trees.{Tree, CodeLabel, Read, Load, Unary, Binary}
use Rattle.rtl_tree.specs.Moves.{Goal, ToMemory}
use Rattle.rtl_spelling.specs.declared.signs.Sign.TheVariants as sign
use Rattle.rtl_spelling.specs.Tokens.{Token, Word, Mark, Lexes}
use Rattle.rtl_spelling.specs.Holes.{Open}
use Rattle.rtl_spelling.specs.Spelling.{Context, Placed, Said, Spells, IsSpelled, AreWithin, tokens_in}
use Rattle.md_rows.specs.declared.description.Role.{Role}
use Rattle.md_rows.specs.declared.description.Role.TheVariants.{General, Result, Stack, Link, Other}
use Rattle.md_text.specs.Pieces.{Piece, SpellsText}

-- the names of the holes in a transfer or tree, as often as they stand there
abbrev pub hole_names : List Token → List (List ℕ)
hole_names (Mark sign.Less ∷ Word name ∷ ts) = name ∷ hole_names ts
hole_names (t ∷ ts) = hole_names ts
hole_names [] = []

-- each hole stands as a register hole with the number of its name's first place
abbrev pub open_from : ℕ → List (List ℕ) → List Open
open_from n [] = []
open_from n (name ∷ names) = record { name = name; leaf = Read (Hole n) } ∷ open_from (suc n) names

-- a transfer is read without names of objects and functions
abbrev pub context : ℕ → List (List ℕ) → Context
context w names = record { width = w; objects = []; functions = []; holes = open_from 0 names }

-- a tree with holes, which are numbered by the names
pub record OpenTree : Type 0 where
  pub names : List (List ℕ)
  pub tree : Tree

-- a transfer with holes, which are numbered by the names
pub record OpenTransfer : Type 0 where
  pub names : List (List ℕ)
  pub moves : List Said

-- no label stands in a tree
abbrev pub has_no_label : Tree → Bool
has_no_label (CodeLabel l) = false
has_no_label (Load w a) = has_no_label a
has_no_label (Unary o a) = has_no_label a
has_no_label (Binary o a b) = has_no_label a && has_no_label b
has_no_label _ = true

abbrev pub goal_has_no_label : Option Goal → Bool
goal_has_no_label (Some (ToMemory w a)) = has_no_label a
goal_has_no_label _ = true

-- the bytes spell a tree within depth 32, on words of w bits
pub record SpellsTree (w : ℕ) (bytes : List ℕ) (t : OpenTree) : Type 0 where
  pub tokens : List Token
  pub placed : List Placed
  pub lexes : Lexes bytes tokens
  pub split : tokens ≡ tokens_in placed ++ Mark sign.End ∷ []
  pub names : t.names ≡ hole_names tokens
  pub spells : Spells (context w t.names) 1 t.tree placed
  pub within : AreWithin 32 placed
  pub no_label : has_no_label t.tree ≡ true

-- the bytes spell a transfer within depth 32, on words of w bits
pub record SpellsMoves (w : ℕ) (bytes : List ℕ) (t : OpenTransfer) : Type 0 where
  pub tokens : List Token
  pub lexes : Lexes bytes tokens
  pub names : t.names ≡ hole_names tokens
  pub spelled : IsSpelled (context w t.names) t.moves tokens
  pub no_label : IsTrue (list_all (λ m. goal_has_no_label m.to && has_no_label m.value) t.moves)

-- what a line may say
pub data Form : Type 0 where
  Version : Form
  MachineName : List ℕ → Form
  WordBits : ℤ → Form
  MemorySize : ℤ → Form
  DataBegin : ℤ → Form
  StackSize : ℤ → Form
  RegisterLine : ℤ → List ℕ → Role → Form
  FlagLine : ℤ → List ℕ → Form
  ClassLine : List ℕ → List (List ℕ) → Form
  ModeLine : List ℕ → List Piece → OpenTree → Form
  RowLine : List Piece → OpenTransfer → Form

-- a word, and a name
pub record IsNameLine (word line name : List ℕ) : Type 0 where
  pub text : line ≡ word ++ name
  pub named : IsName name

-- a word, and a number
pub record IsNumberLine (word line : List ℕ) (z : ℤ) : Type 0 where
  pub text : line ≡ word ++ signed_decimal z
  pub number : IsToken (Number z)

abbrev pub role_word : Role → List ℕ
role_word General = codes "general"
role_word Result = codes "result"
role_word Stack = codes "stack"
role_word Link = codes "link"
role_word Other = codes "other"

pub record IsRegisterLine (line : List ℕ) (k : ℤ) (name : List ℕ) (role : Role) : Type 0 where
  pub text : line ≡ codes "reg " ++ (signed_decimal k ++ 32 ∷ (name ++ 32 ∷ role_word role))
  pub number : IsToken (Number k)
  pub named : IsName name

pub record IsFlagLine (line : List ℕ) (k : ℤ) (name : List ℕ) : Type 0 where
  pub text : line ≡ codes "flag " ++ (signed_decimal k ++ 32 ∷ name)
  pub number : IsToken (Number k)
  pub named : IsName name

-- each is a name
abbrev pub EachName : List (List ℕ) → Type 0
EachName [] = Unit {0}
EachName (name ∷ names) = IsName name × EachName names

pub record IsClassLine (line name : List ℕ) (registers : List (List ℕ)) : Type 0 where
  pub text : line ≡ codes "class " ++ (name ++ flat_map (λ register. 32 ∷ register) registers)
  pub named : IsName name
  pub each : EachName registers
  pub some : 0 < length registers

-- no piece of a text has a bar, so the first ` | ` behind the name and the second are meant
pub record IsModeLine (w : ℕ) (line name : List ℕ) (pieces : List Piece) (tree : OpenTree) : Type 0 where
  pub shown : List ℕ
  pub meant : List ℕ
  pub text : line ≡ codes "mode " ++ (name ++ (codes " | " ++ (shown ++ (codes " | " ++ meant))))
  pub named : IsName name
  pub pieces_are : SpellsText shown pieces
  pub tree_is : SpellsTree w meant tree

-- no piece of a text has a bar, so the first ` | ` is meant
pub record IsRowLine (w : ℕ) (line : List ℕ) (pieces : List Piece) (transfer : OpenTransfer) : Type 0 where
  pub shown : List ℕ
  pub meant : List ℕ
  pub text : line ≡ codes "row " ++ (shown ++ (codes " | " ++ meant))
  pub pieces_are : SpellsText shown pieces
  pub transfer_is : SpellsMoves w meant transfer

-- the line says this, where transfers are on words of w bits
abbrev pub HasForm : ℕ → List ℕ → Form → Type 0
HasForm w line Version = line ≡ codes "vpo 1"
HasForm w line (MachineName name) = IsNameLine (codes "name ") line name
HasForm w line (WordBits z) = IsNumberLine (codes "word ") line z
HasForm w line (MemorySize z) = IsNumberLine (codes "memory ") line z
HasForm w line (DataBegin z) = IsNumberLine (codes "data ") line z
HasForm w line (StackSize z) = IsNumberLine (codes "stack ") line z
HasForm w line (RegisterLine k name role) = IsRegisterLine line k name role
HasForm w line (FlagLine k name) = IsFlagLine line k name
HasForm w line (ClassLine name registers) = IsClassLine line name registers
HasForm w line (ModeLine name pieces tree) = IsModeLine w line name pieces tree
HasForm w line (RowLine pieces transfer) = IsRowLine w line pieces transfer
