-- The rows of a description, with each mode replaced by its alternatives.
use Rattle.std.specs.Prelude.{ℕ, suc, ◌+◌, ◌-◌, ◌^◌, ℤ, pos, negsuc, if◌then◌else◌, List, [], ◌∷◌, ◌++◌, length, map, flat_map, filter, filter_map, Option, Some, None, slice_get, unwrap_or, option_map, option_and_then}
use Rattle.std.specs.Str.{bytes_eq}
use Rattle.asm_token.specs.Tokens.{Token}
use Rattle.rtl_tree.specs.declared.cells.Cell.TheVariants.{Hole as HoleCell}
use Rattle.rtl_tree.specs.Trees.{Tree, Read, Load, Unary, Binary, NoPair, AnyNumber, AnyName}
use Rattle.rtl_tree.specs.Moves.{Goal, ToCell, ToMemory, Move}
use Rattle.rtl_spelling.specs.Holes.{Open, leaf_named}
use Rattle.rtl_spelling.specs.Spelling.{Said, goal_of_leaf}
use Rattle.md_rows.specs.declared.row.Hole.{Hole as RowHole}
use Rattle.md_rows.specs.declared.row.Hole.TheVariants.{Reg, Num, Sym, Label}
use Rattle.md_text.specs.Pieces.{Range, OfWord, Between, Kind, Named, Numbers, Symbols, Labels, Slot, Piece, Literal, Hole, slots, has_name}
use Rattle.md_text.specs.Forms.{OpenTransfer, Form, RowLine}
use Rattle.md_text.specs.Declarations.{Declaration, Alternative, alternatives_in, class_bits, mode_names}

-- a piece of a row's text once its modes are replaced
pub data Shown : Type 0 where
  Fixed : Token → Shown
  Vacant : RowHole → Shown

abbrev pub low_end : ℕ → Range → ℤ
low_end w OfWord = negsuc (2 ^ (w - 1) - 1)
low_end w (Between low high) = low

abbrev pub high_end : ℕ → Range → ℤ
high_end w OfWord = pos (2 ^ (w - 1) - 1)
high_end w (Between low high) = high

-- what a hole takes that is for no mode
abbrev pub taken_by : ℕ → List Declaration → Kind → RowHole
taken_by w ds (Named name) = Reg (class_bits ds name)
taken_by w ds (Numbers inverted range) = Num (low_end w range) (high_end w range) inverted
taken_by w ds Symbols = Sym
taken_by w ds Labels = Label

-- the leaf that stands for the hole of this number
abbrev pub leaf_of : RowHole → ℕ → Tree
leaf_of (Reg class) n = Read (HoleCell n)
leaf_of (Num low high inverted) n = AnyNumber n
leaf_of Sym n = AnyName n
leaf_of Label n = AnyName n

-- a list of leaves in place of the holes of a tree, by their numbers
abbrev pub with_leaves : List Tree → Tree → Tree
with_leaves leaves (Read (HoleCell n)) = unwrap_or (slice_get leaves n) NoPair
with_leaves leaves (Load w a) = Load w (with_leaves leaves a)
with_leaves leaves (Unary o a) = Unary o (with_leaves leaves a)
with_leaves leaves (Binary o a b) = Binary o (with_leaves leaves a) (with_leaves leaves b)
with_leaves leaves t = t

-- a place with leaves in place of its holes, unless a leaf would stand there that is no place
abbrev pub goal_with : List Tree → Goal → Option Goal
goal_with leaves (ToCell (HoleCell n)) = goal_of_leaf (unwrap_or (slice_get leaves n) NoPair)
goal_with leaves (ToCell c) = Some (ToCell c)
goal_with leaves (ToMemory w a) = Some (ToMemory w (with_leaves leaves a))

abbrev pub move_to : Tree → Goal → Move
move_to value goal = record { to = goal; value = value }

abbrev pub move_with : List Tree → Said → Option Move
move_with leaves said = option_map (move_to (with_leaves leaves said.value)) (option_and_then (goal_with leaves) said.to)

-- the items, if each is there
abbrev pub all_there : {A : Type 0} → List (Option A) → Option (List A)
all_there [] = Some []
all_there (None ∷ os) = None
all_there (Some x ∷ os) = option_map (λ xs. x ∷ xs) (all_there os)

-- the leaves of the holes of these names, in their order
abbrev pub leaves_by : List Open → List (List ℕ) → List Tree
leaves_by holes names = map (λ name. unwrap_or (leaf_named holes name) NoPair) names

-- the leaves of the holes of a text without modes, where n holes stand before it
abbrev pub holes_from : ℕ → List Declaration → ℕ → List Slot → List Open
holes_from w ds n [] = []
holes_from w ds n (h ∷ hs) = record { name = h.name; leaf = leaf_of (taken_by w ds h.kind) n } ∷ holes_from w ds (suc n) hs

-- what stands in place of a hole: a text without modes, and the tree that it means where n holes stand before it
pub record Filling : Type 0 where
  pub text : List Shown
  pub tree : ℕ → Tree

abbrev pub shown : ℕ → List Declaration → Piece → Shown
shown w ds (Literal t) = Fixed t
shown w ds (Hole h) = Vacant (taken_by w ds h.kind)

abbrev pub filling_of : ℕ → List Declaration → Alternative → Filling
filling_of w ds a = record {
  text = map (shown w ds) a.text;
  tree = λ n. with_leaves (leaves_by (holes_from w ds n (slots a.text)) a.tree.names) a.tree.tree;
}

-- a hole that is for no mode stands for itself
abbrev pub itself : RowHole → Filling
itself h = record { text = Vacant h ∷ []; tree = leaf_of h }

abbrev pub alternatives_of : List Declaration → List ℕ → List Alternative
alternatives_of ds name = filter (λ a. bytes_eq a.mode name) (alternatives_in ds)

-- what may stand in place of a hole, in order
abbrev pub fillings : ℕ → List Declaration → Kind → List Filling
fillings w ds (Named name) =
    if has_name (mode_names ds) name then map (filling_of w ds) (alternatives_of ds name) else itself (taken_by w ds (Named name)) ∷ []
fillings w ds kind = itself (taken_by w ds kind) ∷ []

-- the lists with one item of each list; the last item changes fastest
abbrev pub choices : {A : Type 0} → List (List A) → List (List A)
choices [] = [] ∷ []
choices (xs ∷ xss) = flat_map (λ x. map (λ ys. x ∷ ys) (choices xss)) xs

abbrev pub hole_of : Shown → Option RowHole
hole_of (Fixed t) = None
hole_of (Vacant h) = Some h

abbrev pub holes_in : List Shown → List RowHole
holes_in text = filter_map hole_of text

-- a row's text with its holes replaced
abbrev pub replaced : List Piece → List Filling → List Shown
replaced [] fs = []
replaced (Literal t ∷ ps) fs = Fixed t ∷ replaced ps fs
replaced (Hole h ∷ ps) [] = []
replaced (Hole h ∷ ps) (f ∷ fs) = f.text ++ replaced ps fs

-- the trees that stand for a row's holes, where n holes stand before them
abbrev pub meant : ℕ → List Slot → List Filling → List Open
meant n (h ∷ hs) (f ∷ fs) = record { name = h.name; leaf = f.tree n } ∷ meant (n + length (holes_in f.text)) hs fs
meant n _ _ = []

-- a row without modes; no transfer, where a hole would stand as a place that can be none
pub record Expanded : Type 0 where
  pub line : ℕ
  pub text : List Shown
  pub transfer : Option (List Move)

abbrev pub transfer_with : List Open → OpenTransfer → Option (List Move)
transfer_with holes t = all_there (map (move_with (leaves_by holes t.names)) t.moves)

abbrev pub expanded : ℕ → List Piece → OpenTransfer → List Filling → Expanded
expanded line text transfer fs = record { line = line; text = replaced text fs; transfer = transfer_with (meant 0 (slots text) fs) transfer }

abbrev pub expansions_of : ℕ → List Declaration → ℕ → Form → List Expanded
expansions_of w ds line (RowLine text transfer) =
    map (expanded line text transfer) (choices (map (λ h. fillings w ds h.kind) (slots text)))
expansions_of w ds line _ = []

-- the rows of the description without modes, in order
abbrev pub expansions : ℕ → List Declaration → List Expanded
expansions w ds = flat_map (λ d. expansions_of w ds d.line d.form) ds
