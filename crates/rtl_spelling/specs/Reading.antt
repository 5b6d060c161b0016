-- The reading of tokens with one token of lookahead.
use Rattle.std.specs.Prelude.{ℕ, zero, suc, ◌-◌, nat_lt, Bool, true, false, ◌&&◌, if◌then◌else◌, List, [], ◌∷◌, length, drop, Option, Some, None, Result, Ok, Err}
use Rattle.std.specs.Option.{is_none}
use Rattle.rtl_tree.specs.declared.cells.Cell.{Cell}
use Rattle.rtl_tree.specs.declared.expressions.UnOp.TheVariants.{Test}
use Rattle.rtl_tree.specs.declared.expressions.BinOp.{BinOp}
use Rattle.rtl_tree.specs.declared.expressions.BinOp.TheVariants.{Cmp}
use Rattle.rtl_word.specs.declared.Rel.{Rel}
use Rattle.rtl_tree.specs.Trees.{Tree, Number as NumberTree, Symbol, CodeLabel, Read as ReadTree, Load, Unary, Binary, NoPair}
use Rattle.rtl_tree.specs.Moves.{Goal, ToCell, ToMemory}
use Rattle.rtl_spelling.specs.declared.signs.Sign.{Sign}
use Rattle.rtl_spelling.specs.declared.signs.Sign.TheVariants as sign
use Rattle.rtl_spelling.specs.declared.senses.Bank.{Bank}
use Rattle.rtl_spelling.specs.declared.senses.Bank.TheVariants.{Flag as FlagBank}
use Rattle.rtl_spelling.specs.declared.senses.Sense.{Sense}
use Rattle.rtl_spelling.specs.declared.senses.Sense.TheVariants as sense
use Rattle.rtl_spelling.specs.Tokens.{Token, Word, Number, Mark}
use Rattle.rtl_spelling.specs.Holes.{Open, leaf_named}
use Rattle.rtl_spelling.specs.Spelling.{Context, Said, goal_of_leaf}
use Rattle.rtl_spelling.specs.Senses.{sense_of, cell_at}

-- why nothing was read, and how many tokens are left from there on
pub data Trouble : Type 0 where
  Wrong Deep : ℕ → Trouble

-- what was read, and the tokens behind it
abbrev pub Read : Type 0 → Type 0
Read A = Result (A × List Token) Trouble

infixl 10 ◌>>=◌
abbrev pub ◌>>=◌ : {A B : Type 0} → Read A → (A → List Token → Read B) → Read B
(Ok x) >>= f = f x.0 x.1
(Err e) >>= f = Err e

-- past the tokens stands one that says nothing
abbrev pub head_of : List Token → Token
head_of [] = Number []
head_of (t ∷ ts) = t

abbrev pub rest_of : List Token → List Token
rest_of [] = []
rest_of (t ∷ ts) = ts

abbrev pub gives : {A : Type 0} → A → List Token → Read A
gives a ts = Ok (a, ts)

abbrev pub wrong : {A : Type 0} → List Token → Read A
wrong ts = Err (Wrong (length ts))

abbrev pub deep : {A : Type 0} → List Token → Read A
deep ts = Err (Deep (length ts))

abbrev pub same_sign : Sign → Sign → Bool
same_sign sign.Space sign.Space = true
same_sign sign.LeftBracket sign.LeftBracket = true
same_sign sign.RightBracket sign.RightBracket = true
same_sign sign.LeftParen sign.LeftParen = true
same_sign sign.RightParen sign.RightParen = true
same_sign sign.Semicolon sign.Semicolon = true
same_sign sign.Equals sign.Equals = true
same_sign sign.Plus sign.Plus = true
same_sign sign.Minus sign.Minus = true
same_sign sign.Star sign.Star = true
same_sign sign.Ampersand sign.Ampersand = true
same_sign sign.Bar sign.Bar = true
same_sign sign.Caret sign.Caret = true
same_sign sign.Question sign.Question = true
same_sign sign.Less sign.Less = true
same_sign sign.Greater sign.Greater = true
same_sign sign.Arrow sign.Arrow = true
same_sign sign.End sign.End = true
same_sign _ _ = false

abbrev pub is_sign : Sign → Token → Bool
is_sign s (Mark t) = same_sign s t
is_sign s t = false

-- the sign, and no other token
abbrev pub expect : Sign → List Token → Read (Unit {0})
expect s ts = if is_sign s (head_of ts) then gives tt (rest_of ts) else wrong ts

abbrev pub index_on : List Token → Option Cell → Read Cell
index_on ts (Some x) = expect sign.RightBracket (rest_of ts) >>= λ _ us. gives x us
index_on ts None = wrong ts

-- the index of a cell, in brackets
abbrev pub index : Bank → List Token → Read Cell
index b ts = expect sign.LeftBracket ts >>= λ _ us. index_on us (cell_at b (head_of us))

abbrev pub hole_on : List Token → Option Tree → Read Tree
hole_on ts (Some leaf) = expect sign.Greater (rest_of ts) >>= λ _ us. gives leaf us
hole_on ts None = wrong ts

abbrev pub leaf_at : Context → Token → Option Tree
leaf_at c (Word name) = leaf_named c.holes name
leaf_at c t = None

abbrev pub has_holes : List Open → Bool
has_holes [] = false
has_holes (h ∷ hs) = true

-- a hole, whose `<` stands at the front
abbrev pub hole : Context → List Token → Read Tree
hole c ts = if has_holes c.holes then hole_on (rest_of ts) (leaf_at c (head_of (rest_of ts))) else wrong ts

-- a tree that would stand too deep: a token that begins no tree is wrong first
abbrev pub too_deep : Context → List Token → Sense → Read Tree
too_deep c ts (sense.Number n) = deep ts
too_deep c ts (sense.Object k) = deep ts
too_deep c ts (sense.Label l) = deep ts
too_deep c ts (sense.Cell x) = deep ts
too_deep c ts (sense.Bank b) = deep ts
too_deep c ts (sense.Memory w) = deep ts
too_deep c ts (sense.Sign sign.LeftParen) = deep ts
too_deep c ts (sense.Sign sign.Less) = if has_holes c.holes then deep ts else wrong ts
too_deep c ts _ = wrong ts

-- R reads the trees within
abbrev pub Reader : Type 0
Reader = List Token → Read Tree

-- the address of a memory place or tree, in brackets
abbrev pub address : Reader → List Token → Read Tree
address R ts =
    expect sign.LeftBracket ts >>= λ _ us. R us >>= λ a us. expect sign.RightBracket us >>= λ _ us. gives a us

-- a space, the tree to the right of an operator, and the bracket
abbrev pub right : Reader → BinOp → Tree → List Token → Read Tree
right R o a ts =
    expect sign.Space ts >>= λ _ us. R us >>= λ b us. expect sign.RightParen us >>= λ _ us. gives (Binary o a b) us

abbrev pub operator_on : Reader → Tree → List Token → Sense → Read Tree
operator_on R a ts (sense.Binary o) = right R o a (rest_of ts)
operator_on R a ts _ = wrong ts

-- what follows the left tree
abbrev pub operator : Context → Reader → Tree → List Token → Read Tree
operator c R a ts = expect sign.Space ts >>= λ _ us. operator_on R a us (sense_of c (head_of us))

-- the relation has been read: with the bracket it tests the flag
abbrev pub after_relation : Reader → Rel → Tree → List Token → Read Tree
after_relation R r a ts = if is_sign sign.RightParen (head_of ts) then gives (Unary (Test r) a) (rest_of ts) else right R (Cmp r) a ts

abbrev pub tested_on : Reader → Tree → List Token → Sense → Read Tree
tested_on R a ts (sense.Binary (Cmp r)) = after_relation R r a (rest_of ts)
tested_on R a ts s = operator_on R a ts s

-- what follows a flag as the left tree
abbrev pub tested : Context → Reader → Tree → List Token → Read Tree
tested c R a ts = expect sign.Space ts >>= λ _ us. tested_on R a us (sense_of c (head_of us))

-- behind the bracket: an operator before its tree, or a tree
abbrev pub inside_on : Context → Reader → List Token → Sense → Read Tree
inside_on c R ts (sense.Unary o) =
    expect sign.Space (rest_of ts) >>= λ _ us. R us >>= λ a us. expect sign.RightParen us >>= λ _ us. gives (Unary o a) us
inside_on c R ts (sense.Bank FlagBank) = R ts >>= λ a us. tested c R a us
inside_on c R ts s = R ts >>= λ a us. operator c R a us

abbrev pub inside : Context → Reader → List Token → Read Tree
inside c R ts = inside_on c R ts (sense_of c (head_of ts))

abbrev pub tree_on : Context → Reader → List Token → Sense → Read Tree
tree_on c R ts (sense.Number n) = gives (NumberTree n) (rest_of ts)
tree_on c R ts (sense.Object k) = gives (Symbol k) (rest_of ts)
tree_on c R ts (sense.Label l) = gives (CodeLabel l) (rest_of ts)
tree_on c R ts (sense.Cell x) = gives (ReadTree x) (rest_of ts)
tree_on c R ts (sense.Bank b) = index b (rest_of ts) >>= λ x us. gives (ReadTree x) us
tree_on c R ts (sense.Memory w) = address R (rest_of ts) >>= λ a us. gives (Load w a) us
tree_on c R ts (sense.Sign sign.LeftParen) = inside c R (rest_of ts)
tree_on c R ts (sense.Sign sign.Less) = hole c ts
tree_on c R ts _ = wrong ts

-- a tree that may have so many trees one in the other
abbrev pub tree : Context → ℕ → Reader
tree c zero ts = too_deep c ts (sense_of c (head_of ts))
tree c (suc f) ts = tree_on c (tree c f) ts (sense_of c (head_of ts))

abbrev pub place_on : Context → Reader → List Token → Sense → Read (Option Goal)
place_on c R ts (sense.Cell x) = gives (Some (ToCell x)) (rest_of ts)
place_on c R ts (sense.Bank b) = index b (rest_of ts) >>= λ x us. gives (Some (ToCell x)) us
place_on c R ts (sense.Memory w) = address R (rest_of ts) >>= λ a us. gives (Some (ToMemory w a)) us
place_on c R ts (sense.Sign sign.Less) = hole c ts >>= λ t us. gives (goal_of_leaf t) us
place_on c R ts _ = wrong ts

-- a place, whose address R reads
abbrev pub place : Context → Reader → List Token → Read (Option Goal)
place c R ts = place_on c R ts (sense_of c (head_of ts))

abbrev pub value_on : Reader → List Token → Sense → Read Tree
value_on S ts sense.Lost = gives NoPair (rest_of ts)
value_on S ts s = S ts

-- `lost`, or a tree that S reads
abbrev pub value : Context → Reader → List Token → Read Tree
value c S ts = value_on S ts (sense_of c (head_of ts))

-- an assignment, whose place's address may have f trees one in the other, and its value one more
abbrev pub move : Context → ℕ → List Token → Read Said
move c f ts =
    place c (tree c f) ts >>= λ g us. expect sign.Space us >>= λ _ us. expect sign.Equals us >>= λ _ us. expect sign.Space us
    >>= λ _ us. value c (tree c (suc f)) us >>= λ t us. gives (record { to = g; value = t }) us

-- assignments up to the end, n of them at most
abbrev pub moves : Context → ℕ → ℕ → List Token → Read (List Said)
moves c f zero ts = wrong ts
moves c f (suc n) ts =
    move c f ts >>= λ m us.
    (if is_sign sign.End (head_of us) then gives (m ∷ []) (rest_of us)
    else (expect sign.Semicolon us >>= λ _ us. expect sign.Space us >>= λ _ us. moves c f n us >>= λ ms us. gives (m ∷ ms) us))

-- no more assignments than tokens
abbrev pub transfer : Context → ℕ → List Token → Read (List Said)
transfer c f ts = moves c f (length ts) ts

abbrev pub last_tokens : ℕ → List Token → List Token
last_tokens n ts = drop (length ts - n) ts

abbrev pub is_unknown : Context → Token → Bool
is_unknown c (Word name) = is_none (leaf_named c.holes name)
is_unknown c t = false

-- whether a whole hole stands at the front that isn't open
abbrev pub is_unknown_hole : Context → List Token → Bool
is_unknown_hole c ts =
    is_sign sign.Less (head_of ts) && (is_unknown c (head_of (rest_of ts)) && is_sign sign.Greater (head_of (rest_of (rest_of ts))))

-- where the trouble is the name in a whole hole that isn't open, or the depth of one, the hole is wrong
abbrev pub settled : Context → List Token → Trouble → Trouble
settled c ts (Wrong n) = if nat_lt n (length ts) && is_unknown_hole c (last_tokens (suc n) ts) then Wrong (suc n) else Wrong n
settled c ts (Deep n) = if is_unknown_hole c (last_tokens n ts) then Wrong n else Deep n

abbrev pub answer : Context → List Token → Read (List Said) → Result (List Said) Trouble
answer c ts (Ok x) = Ok x.0
answer c ts (Err e) = Err (settled c ts e)

-- what the tokens of a text say, with trees of depth 32 at most
abbrev pub reading : Context → List Token → Result (List Said) Trouble
reading c ts = answer c ts (transfer c 31 ts)
