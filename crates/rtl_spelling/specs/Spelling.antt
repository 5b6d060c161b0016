-- Which tokens spell a transfer, and how deep the trees stand that they begin.
use Rattle.std.specs.Prelude.{ℕ, suc, ◌^◌, ◌<◌, ◌≤◌, ◌≡◌, List, [], ◌∷◌, ◌++◌, map, All, Contains, Option, Some, None, slice_get, codes, decimal}
use Rattle.std.specs.Fmt.{signed_decimal}
use Rattle.rtl_word.specs.Words.{IsWordSize, word_signed}
use Rattle.rtl_tree.specs.Names.{AreNames}
use Rattle.rtl_word.specs.declared.Rel.{Rel}
use Rattle.rtl_word.specs.declared.Rel.TheVariants.{Eq, Ne, Lt, Le, Gt, Ge, Ltu, Leu, Gtu, Geu}
use Rattle.rtl_tree.specs.declared.cells.Cell.{Cell}
use Rattle.rtl_tree.specs.declared.cells.Cell.TheVariants.{Hard, Temp, Flag, Pc, Input, Output, Halt, Hole}
use Rattle.rtl_tree.specs.declared.cells.Lab.TheVariants.{Block, Function}
use Rattle.rtl_tree.specs.declared.expressions.Width.{Width}
use Rattle.rtl_tree.specs.declared.expressions.Width.TheVariants.{Byte, Full}
use Rattle.rtl_tree.specs.declared.expressions.UnOp.{UnOp}
use Rattle.rtl_tree.specs.declared.expressions.UnOp.TheVariants.{Neg, Not, Sxb, Test}
use Rattle.rtl_tree.specs.declared.expressions.BinOp.{BinOp}
use Rattle.rtl_tree.specs.declared.expressions.BinOp.TheVariants.{Add, Sub, Mul, Div, Divu, Rem, Remu, And, Or, Xor, Shl, Shr, Shru, Cmp, Pair, When}
use Rattle.rtl_tree.specs.Trees.{Tree, Number as NumberTree, Symbol, CodeLabel, Read, Load, Unary, Binary, NoPair}
use Rattle.rtl_tree.specs.Moves.{Goal, ToCell, ToMemory}
use Rattle.rtl_spelling.specs.declared.signs.Sign.{Sign}
use Rattle.rtl_spelling.specs.declared.signs.Sign.TheVariants as sign
use Rattle.rtl_spelling.specs.Tokens.{Token, Word, Number, Mark}
use Rattle.rtl_spelling.specs.Holes.{Open, leaf_named}

-- what a text is read by: the bits of a word, the names of objects and functions, and the holes
pub record Context : Type 0 where
  pub width : ℕ
  pub objects : List (List ℕ)
  pub functions : List (List ℕ)
  pub holes : List Open

-- no name stands in both lists
abbrev pub AreApart : List (List ℕ) → List (List ℕ) → Type 0
AreApart ms ns = (name : List ℕ) → Contains ms name → Contains ns name → ⊥

-- the word has a size of a machine's, and no name stands twice
pub record IsContext (c : Context) : Type 0 where
  pub size : IsWordSize c.width
  pub objects : AreNames c.objects
  pub functions : AreNames c.functions
  pub apart : AreApart c.objects c.functions

-- a token, and the depth of the tree that it begins, 0 where it begins none
pub record Placed : Type 0 where
  pub token : Token
  pub depth : ℕ

abbrev pub starts : ℕ → Token → Placed
starts d t = record { token = t; depth = d }

abbrev pub inner : Token → Placed
inner t = record { token = t; depth = 0 }

abbrev pub mark : Sign → Placed
mark s = inner (Mark s)

abbrev pub tokens_in : List Placed → List Token
tokens_in ps = map (λ p. p.token) ps

-- the tokens of a tree at depth d, the first of which begins it
abbrev pub begun : ℕ → List Token → List Placed
begun d [] = []
begun d (t ∷ ts) = starts d t ∷ map inner ts

abbrev pub relation_word : Rel → List ℕ
relation_word Eq = codes "eq"
relation_word Ne = codes "ne"
relation_word Lt = codes "lt"
relation_word Le = codes "le"
relation_word Gt = codes "gt"
relation_word Ge = codes "ge"
relation_word Ltu = codes "ltu"
relation_word Leu = codes "leu"
relation_word Gtu = codes "gtu"
relation_word Geu = codes "geu"

-- `neg`, `not` and `sxb` stand before their tree, a relation that tests a flag behind it
abbrev pub unary_word : UnOp → List ℕ
unary_word Neg = codes "neg"
unary_word Not = codes "not"
unary_word Sxb = codes "sxb"
unary_word (Test r) = relation_word r

abbrev pub StandsBefore : UnOp → Type 0
StandsBefore (Test r) = ⊥
StandsBefore o = Unit {0}

abbrev pub operator_token : BinOp → Token
operator_token Add = Mark sign.Plus
operator_token Sub = Mark sign.Minus
operator_token Mul = Mark sign.Star
operator_token Div = Word (codes "div")
operator_token Divu = Word (codes "divu")
operator_token Rem = Word (codes "rem")
operator_token Remu = Word (codes "remu")
operator_token And = Mark sign.Ampersand
operator_token Or = Mark sign.Bar
operator_token Xor = Mark sign.Caret
operator_token Shl = Word (codes "shl")
operator_token Shr = Word (codes "shr")
operator_token Shru = Word (codes "shru")
operator_token (Cmp r) = Word (relation_word r)
operator_token Pair = Mark sign.Question
operator_token When = Mark sign.Arrow

abbrev pub memory_word : Width → List ℕ
memory_word Full = codes "M"
memory_word Byte = codes "B"

abbrev pub indexed : List ℕ → ℕ → List Token
indexed word n = Word word ∷ Mark sign.LeftBracket ∷ Number (decimal n) ∷ Mark sign.RightBracket ∷ []

abbrev pub cell_tokens : Cell → List Token
cell_tokens (Hard n) = indexed (codes "r") n
cell_tokens (Temp n) = indexed (codes "t") n
cell_tokens (Flag n) = indexed (codes "f") n
cell_tokens Pc = Word (codes "PC") ∷ []
cell_tokens Input = Word (codes "IN") ∷ []
cell_tokens Output = Word (codes "OUT") ∷ []
cell_tokens Halt = Word (codes "HALT") ∷ []
cell_tokens (Hole n) = []

-- the cells that have a spelling
abbrev pub IsSpelledCell : Cell → Type 0
IsSpelledCell (Hard n) = n < 64
IsSpelledCell (Temp n) = n < 65536
IsSpelledCell (Flag n) = n < 8
IsSpelledCell (Hole n) = ⊥
IsSpelledCell c = Unit {0}

abbrev pub name_token : List ℕ → Token
name_token name = Word (95 ∷ name)

abbrev pub hole_tokens : List ℕ → List Token
hole_tokens name = Mark sign.Less ∷ Word name ∷ Mark sign.Greater ∷ []

-- a memory place or tree at depth d, from the tokens of its address
abbrev pub memory_tokens : ℕ → Width → List Placed → List Placed
memory_tokens d w address = starts d (Word (memory_word w)) ∷ mark sign.LeftBracket ∷ (address ++ mark sign.RightBracket ∷ [])

-- the tree t at depth d has the spelling ps
pub data Spells (c : Context) : ℕ → Tree → List Placed → Type 0 where
  number : (d n : ℕ) → n < 2 ^ c.width → Spells c d (NumberTree n) (starts d (Number (signed_decimal (word_signed c.width n))) ∷ [])
  symbol : (d k : ℕ) (name : List ℕ) → slice_get c.objects k ≡ Some name → Spells c d (Symbol k) (starts d (name_token name) ∷ [])
  function : (d k : ℕ) (name : List ℕ) → slice_get c.functions k ≡ Some name → Spells c d (CodeLabel (Function k)) (starts d (name_token name) ∷ [])
  block : (d k : ℕ) → k < 2 ^ 32 → Spells c d (CodeLabel (Block k)) (starts d (Word (76 ∷ decimal k)) ∷ [])
  cell : (d : ℕ) (x : Cell) → IsSpelledCell x → Spells c d (Read x) (begun d (cell_tokens x))
  memory : (d : ℕ) (w : Width) (a : Tree) (ps : List Placed) → Spells c (suc d) a ps → Spells c d (Load w a) (memory_tokens d w ps)
  unary :
      (d : ℕ) (o : UnOp) (a : Tree) (ps : List Placed) → StandsBefore o → Spells c (suc d) a ps
      → Spells c d (Unary o a)
      (starts d (Mark sign.LeftParen) ∷ inner (Word (unary_word o)) ∷ mark sign.Space ∷ (ps ++ mark sign.RightParen ∷ []))
  binary :
      (d : ℕ) (o : BinOp) (a b : Tree) (ps qs : List Placed) → Spells c (suc d) a ps → Spells c (suc d) b qs
      → Spells c d (Binary o a b)
      (starts d (Mark sign.LeftParen)
      ∷ (ps ++ mark sign.Space ∷ inner (operator_token o) ∷ mark sign.Space ∷ (qs ++ mark sign.RightParen ∷ [])))
  test :
      (d : ℕ) (r : Rel) (n : ℕ) → n < 8
      → Spells c d (Unary (Test r) (Read (Flag n)))
      (starts d (Mark sign.LeftParen)
      ∷ (begun (suc d) (cell_tokens (Flag n)) ++ mark sign.Space ∷ inner (Word (relation_word r)) ∷ mark sign.RightParen ∷ []))
  hole : (d : ℕ) (name : List ℕ) (leaf : Tree) → leaf_named c.holes name ≡ Some leaf → Spells c d leaf (begun d (hole_tokens name))

-- what an assignment says; no goal, where a hole's leaf stands as the place and can't be one
pub record Said : Type 0 where
  pub to : Option Goal
  pub value : Tree

-- the place that a leaf can be
abbrev pub goal_of_leaf : Tree → Option Goal
goal_of_leaf (Read x) = Some (ToCell x)
goal_of_leaf (Load w a) = Some (ToMemory w a)
goal_of_leaf t = None

-- a place counts as a tree at depth 1
pub data SpellsPlace (c : Context) : Option Goal → List Placed → Type 0 where
  to_cell : (x : Cell) → IsSpelledCell x → SpellsPlace c (Some (ToCell x)) (begun 1 (cell_tokens x))
  to_memory : (w : Width) (a : Tree) (ps : List Placed) → Spells c 2 a ps → SpellsPlace c (Some (ToMemory w a)) (memory_tokens 1 w ps)
  to_hole : (name : List ℕ) (leaf : Tree) → leaf_named c.holes name ≡ Some leaf → SpellsPlace c (goal_of_leaf leaf) (begun 1 (hole_tokens name))

abbrev pub becomes : List Placed → List Placed
becomes ps = mark sign.Space ∷ mark sign.Equals ∷ mark sign.Space ∷ ps

pub data SpellsMove (c : Context) : Said → List Placed → Type 0 where
  value : (g : Option Goal) (t : Tree) (ps qs : List Placed) → SpellsPlace c g ps → Spells c 1 t qs → SpellsMove c (record { to = g; value = t }) (ps ++ becomes qs)
  lost : (g : Option Goal) (ps : List Placed) → SpellsPlace c g ps → SpellsMove c (record { to = g; value = NoPair }) (ps ++ becomes (inner (Word (codes "lost")) ∷ []))

-- one assignment or more, with `; ` between them and the end behind them
pub data SpellsTransfer (c : Context) : List Said → List Placed → Type 0 where
  last : (m : Said) (ps : List Placed) → SpellsMove c m ps → SpellsTransfer c (m ∷ []) (ps ++ mark sign.End ∷ [])
  more :
      (m : Said) (ms : List Said) (ps qs : List Placed) → SpellsMove c m ps → SpellsTransfer c ms qs
      → SpellsTransfer c (m ∷ ms) (ps ++ mark sign.Semicolon ∷ mark sign.Space ∷ qs)

abbrev pub AreWithin : ℕ → List Placed → Type 0
AreWithin most ps = All (λ p. p.depth ≤ most) ps

-- the tokens spell what is said, and each tree that they begin has depth at most 32
pub record IsSpelled (c : Context) (ms : List Said) (ts : List Token) : Type 0 where
  pub placed : List Placed
  pub tokens : tokens_in placed ≡ ts
  pub spells : SpellsTransfer c ms placed
  pub within : AreWithin 32 placed
