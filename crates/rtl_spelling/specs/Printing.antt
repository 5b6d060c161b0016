-- What is printed of a transfer.
use Rattle.std.specs.Prelude.{ℕ, ◌^◌, ◌<◌, List, [], ◌∷◌, ◌++◌, length, get_or, All, codes, decimal}
use Rattle.std.specs.Fmt.{signed_decimal}
use Rattle.rtl_word.specs.Words.{word_signed}
use Rattle.rtl_tree.specs.declared.cells.Cell.{Cell}
use Rattle.rtl_tree.specs.declared.cells.Cell.TheVariants.{Hard, Flag, Hole, Temp}
use Rattle.rtl_tree.specs.declared.cells.Lab.{Lab}
use Rattle.rtl_tree.specs.declared.cells.Lab.TheVariants.{Block, Function}
use Rattle.rtl_tree.specs.declared.expressions.UnOp.TheVariants.{Test}
use Rattle.rtl_tree.specs.Trees.{Tree, Number as NumberTree, Symbol, CodeLabel, Read, Load, Unary, Binary, NoPair}
use Rattle.rtl_tree.specs.Moves.{Goal, ToCell, ToMemory, Move}
use Rattle.rtl_spelling.specs.declared.signs.Sign.TheVariants as sign
use Rattle.rtl_spelling.specs.Tokens.{Token, Word, Number, Mark, spelled}
use Rattle.rtl_spelling.specs.Spelling.{Context, cell_tokens, name_token, memory_word, relation_word, unary_word, operator_token}

abbrev pub label_tokens : Context → Lab → List Token
label_tokens c (Block k) = Word (76 ∷ decimal k) ∷ []
label_tokens c (Function k) = name_token (get_or c.functions k []) ∷ []

-- a hole prints nothing
abbrev pub tree_tokens : Context → Tree → List Token
tree_tokens c (NumberTree n) = Number (signed_decimal (word_signed c.width n)) ∷ []
tree_tokens c (Symbol k) = name_token (get_or c.objects k []) ∷ []
tree_tokens c (CodeLabel l) = label_tokens c l
tree_tokens c (Read x) = cell_tokens x
tree_tokens c (Load w a) = Word (memory_word w) ∷ Mark sign.LeftBracket ∷ (tree_tokens c a ++ Mark sign.RightBracket ∷ [])
tree_tokens c (Unary (Test r) a) =
    Mark sign.LeftParen ∷ (tree_tokens c a ++ Mark sign.Space ∷ Word (relation_word r) ∷ Mark sign.RightParen ∷ [])
tree_tokens c (Unary o a) = Mark sign.LeftParen ∷ Word (unary_word o) ∷ Mark sign.Space ∷ (tree_tokens c a ++ Mark sign.RightParen ∷ [])
tree_tokens c (Binary o a b) =
    Mark sign.LeftParen
    ∷ (tree_tokens c a ++ Mark sign.Space ∷ operator_token o ∷ Mark sign.Space ∷ (tree_tokens c b ++ Mark sign.RightParen ∷ []))
tree_tokens c NoPair = Word (codes "lost") ∷ []
tree_tokens c t = []

abbrev pub goal_tokens : Context → Goal → List Token
goal_tokens c (ToCell x) = cell_tokens x
goal_tokens c (ToMemory w a) = tree_tokens c (Load w a)

abbrev pub move_tokens : Context → Move → List Token
move_tokens c m = goal_tokens c m.to ++ Mark sign.Space ∷ Mark sign.Equals ∷ Mark sign.Space ∷ tree_tokens c m.value

-- the assignments behind the first
abbrev pub tokens_behind : Context → List Move → List Token
tokens_behind c [] = Mark sign.End ∷ []
tokens_behind c (m ∷ ms) = Mark sign.Semicolon ∷ Mark sign.Space ∷ (move_tokens c m ++ tokens_behind c ms)

abbrev pub tokens_of : Context → List Move → List Token
tokens_of c [] = Mark sign.End ∷ []
tokens_of c (m ∷ ms) = move_tokens c m ++ tokens_behind c ms

abbrev pub text_of : Context → List Move → List ℕ
text_of c ms = spelled (tokens_of c ms)

abbrev pub IsPrintableCell : Cell → Type 0
IsPrintableCell (Hard n) = n < 64
IsPrintableCell (Flag n) = n < 8
IsPrintableCell (Hole n) = ⊥
IsPrintableCell x = Unit {0}

abbrev pub IsPrintableLabel : Context → Lab → Type 0
IsPrintableLabel c (Block k) = Unit {0}
IsPrintableLabel c (Function k) = k < length c.functions

-- numbers are words, cells and names are in range, and no hole stands there
abbrev pub IsPrintableTree : Context → Tree → Type 0
IsPrintableTree c (NumberTree n) = n < 2 ^ c.width
IsPrintableTree c (Symbol k) = k < length c.objects
IsPrintableTree c (CodeLabel l) = IsPrintableLabel c l
IsPrintableTree c (Read x) = IsPrintableCell x
IsPrintableTree c (Load w a) = IsPrintableTree c a
IsPrintableTree c (Unary o a) = IsPrintableTree c a
IsPrintableTree c (Binary o a b) = IsPrintableTree c a × IsPrintableTree c b
IsPrintableTree c NoPair = Unit {0}
IsPrintableTree c t = ⊥

abbrev pub IsPrintableGoal : Context → Goal → Type 0
IsPrintableGoal c (ToCell x) = IsPrintableCell x
IsPrintableGoal c (ToMemory w a) = IsPrintableTree c a

abbrev pub IsPrintable : Context → List Move → Type 0
IsPrintable c ms = All (λ m. IsPrintableGoal c m.to × IsPrintableTree c m.value) ms

-- temporaries have 16 bits, and block labels 32, as their types have it
abbrev pub IsTypedCell : Cell → Type 0
IsTypedCell (Temp n) = n < 65536
IsTypedCell x = Unit {0}

abbrev pub IsTypedTree : Tree → Type 0
IsTypedTree (CodeLabel (Block k)) = k < 2 ^ 32
IsTypedTree (Read x) = IsTypedCell x
IsTypedTree (Load w a) = IsTypedTree a
IsTypedTree (Unary o a) = IsTypedTree a
IsTypedTree (Binary o a b) = IsTypedTree a × IsTypedTree b
IsTypedTree t = Unit {0}

abbrev pub IsTypedGoal : Goal → Type 0
IsTypedGoal (ToCell x) = IsTypedCell x
IsTypedGoal (ToMemory w a) = IsTypedTree a

abbrev pub IsTyped : List Move → Type 0
IsTyped ms = All (λ m. IsTypedGoal m.to × IsTypedTree m.value) ms
