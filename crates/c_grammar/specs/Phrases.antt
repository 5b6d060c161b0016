-- Phrases: what a grammar says of a tree that is made of parts.
use Rattle.std.specs.Prelude.{ℕ, suc, ◌+◌, List, [], ◌∷◌, ◌++◌, Bool, true, false, nat_le, ◌==◌, ◌&&◌, Option, Some, None, if◌then◌else◌}
use Rattle.c_tree.specs.declared.token.At.{At}
use Rattle.c_grammar.specs.Words.{Word, a_name, a_sign}
use Rattle.c_grammar.specs.declared.sign.Sign.{Sign}
use Rattle.c_grammar.specs.declared.sign.Sign.TheVariants as sign

-- a token as a tree has it: its word, its place if a node begins there, and its nesting
pub record Leaf : Type 0 where
  pub word : Word
  pub at : Option At
  pub nesting : ℕ

-- what is known of a tree: its level, its place, how many of its tokens count for the nesting of what follows it in the same phrase,
-- its tokens where the first has a nesting and others follow, and whether each part has the level and the place that it must have
pub record Said : Type 0 where
  pub level : ℕ
  pub at : Option At
  pub marks : ℕ
  pub leaves : ℕ → List Leaf → List Leaf
  pub fits : Bool

-- a part of a phrase
pub data Part : Type 0 where
  -- a token, and one that counts for the nesting of what follows, as operators do
  the mark : Word → Part
  -- a tree of at least a level, and one that is an open phrase of its own
  sub open_ : ℕ → Said → Part
  -- an expression or an item of a block: an open phrase unless its level is 0
  expr item : Said → Part
  -- a tree in which nothing counts for the nesting behind it
  piece : Said → Part
  -- a condition
  only : Bool → Part

abbrev pub stands : ℕ → Said → Bool
stands k a = nat_le k a.level && a.fits

abbrev pub leaf : Word → Option At → ℕ → Leaf
leaf w at n = record { word = w; at = at; nesting = n }

abbrev pub is_open : Said → Bool
is_open a = nat_le 1 a.level

-- the nesting of the first token of a tree that stands where the nesting is n
abbrev pub entry : ℕ → Said → ℕ
entry n a = if is_open a then suc n else n

-- the nesting behind it
abbrev pub behind : ℕ → Said → ℕ
behind n a = if is_open a then n else n + a.marks

abbrev pub marks_of : List Part → ℕ
marks_of [] = 0
marks_of (the w ∷ ps) = marks_of ps
marks_of (mark w ∷ ps) = suc (marks_of ps)
marks_of (sub k a ∷ ps) = a.marks + marks_of ps
marks_of (open_ k a ∷ ps) = marks_of ps
marks_of (expr a ∷ ps) = behind 0 a + marks_of ps
marks_of (item a ∷ ps) = marks_of ps
marks_of (piece a ∷ ps) = marks_of ps
marks_of (only b ∷ ps) = marks_of ps

-- the tokens of parts, where the first one has the nesting n, and others follow
abbrev pub leaves_of : List Part → ℕ → List Leaf → List Leaf
leaves_of [] n more = more
leaves_of (the w ∷ ps) n more = leaf w None n ∷ leaves_of ps n more
leaves_of (mark w ∷ ps) n more = leaf w None n ∷ leaves_of ps (suc n) more
leaves_of (sub k a ∷ ps) n more = a.leaves n (leaves_of ps (n + a.marks) more)
leaves_of (open_ k a ∷ ps) n more = a.leaves (suc n) (leaves_of ps n more)
leaves_of (expr a ∷ ps) n more = a.leaves (entry n a) (leaves_of ps (behind n a) more)
leaves_of (item a ∷ ps) n more = a.leaves (entry n a) (leaves_of ps n more)
leaves_of (piece a ∷ ps) n more = a.leaves n (leaves_of ps n more)
leaves_of (only b ∷ ps) n more = leaves_of ps n more

abbrev pub all_fit : List Part → Bool
all_fit [] = true
all_fit (the w ∷ ps) = all_fit ps
all_fit (mark w ∷ ps) = all_fit ps
all_fit (sub k a ∷ ps) = stands k a && all_fit ps
all_fit (open_ k a ∷ ps) = stands k a && all_fit ps
all_fit (expr a ∷ ps) = a.fits && all_fit ps
all_fit (item a ∷ ps) = a.fits && all_fit ps
all_fit (piece a ∷ ps) = a.fits && all_fit ps
all_fit (only b ∷ ps) = b && all_fit ps

abbrev pub same_place : At → At → Bool
same_place a b = (a.line == b.line) && (a.column == b.column)

abbrev pub is_at : At → Option At → Bool
is_at at None = false
is_at at (Some b) = same_place at b

-- a node that begins with a token has that token's place; one that begins with another node has that node's place
abbrev pub leaves_at : At → List Part → ℕ → List Leaf → List Leaf
leaves_at at (the w ∷ ps) n more = leaf w (Some at) n ∷ leaves_of ps n more
leaves_at at (mark w ∷ ps) n more = leaf w (Some at) n ∷ leaves_of ps (suc n) more
leaves_at at (only b ∷ ps) n more = leaves_at at ps n more
leaves_at at ps n more = leaves_of ps n more

abbrev pub begins_at : At → List Part → Bool
begins_at at (sub k a ∷ ps) = is_at at a.at
begins_at at (open_ k a ∷ ps) = is_at at a.at
begins_at at (expr a ∷ ps) = is_at at a.at
begins_at at (only b ∷ ps) = begins_at at ps
begins_at at ps = true

-- a node of the tree
abbrev pub node : At → ℕ → List Part → Said
node at level parts = record { level = level; at = Some at; marks = marks_of parts; leaves = leaves_at at parts; fits = begins_at at parts && all_fit parts }

-- a phrase that is no node
abbrev pub phrase : List Part → Said
phrase parts = record { level = 0; at = None; marks = marks_of parts; leaves = leaves_of parts; fits = all_fit parts }

abbrev pub the_sign : Sign → Part
the_sign s = the (a_sign s)

-- an operator, a comma of an expression, or the end of a cast
abbrev pub operator : Sign → Part
operator s = mark (a_sign s)

abbrev pub name : List ℕ → Part
name bytes = the (a_name bytes)

-- a token that the tree has the place of
abbrev pub placed : At → Word → Part
placed at w = piece (node at 0 (the w ∷ []))

abbrev pub each : (Said → Part) → List Said → List Part
each part [] = []
each part (a ∷ more) = part a ∷ each part more

-- trees with commas between, in a list that isn't one expression
abbrev pub commas : (Said → Part) → List Said → List Part
commas part [] = []
commas part (a ∷ []) = part a ∷ []
commas part (a ∷ b ∷ more) = part a ∷ the_sign sign.Comma ∷ commas part (b ∷ more)

abbrev pub some : {A : Type 0} → List A → Part
some [] = only false
some (a ∷ more) = only true
