-- The cells that the rows of a text name: those that are spelled, and holes.
use Rattle.std.proofs.Common.{◌≡◌, ℕ, zero, suc, ◌+◌, Bool, true, false, cond, List, [], ◌∷◌, length, map, Option, Some, None, slice_get, unwrap_or, option_map, option_and_then, subst}
use Rattle.std.specs.List.{cons_option}
use Rattle.std.specs.Str.{bytes_eq}
use Rattle.rtl_tree.specs.declared.cells.Cell.{Cell}
use Rattle.rtl_tree.specs.declared.cells.Cell.TheVariants.{Hard, Temp, Flag, Pc, Input, Output, Halt, Hole as HoleCell}
use Rattle.rtl_tree.specs.Trees.{Tree, Number, Symbol, CodeLabel, Read, Load, Unary, Binary, NoPair, AnyNumber, AnyName}
use Rattle.rtl_tree.specs.Moves.{Goal, ToCell, ToMemory, Move}
use Rattle.rtl_spelling.specs.Holes.{Open, leaf_named}
use Rattle.rtl_spelling.specs.Spelling.{Placed, Said, IsSpelledCell, Spells, number, symbol, function, block, cell, memory, unary, binary, test, hole, goal_of_leaf, SpellsPlace, to_cell, to_memory, to_hole, SpellsMove, value, lost, SpellsTransfer, last, more}
use Rattle.md_rows.specs.declared.row.Hole.{Hole as RowHole}
use Rattle.md_rows.specs.declared.row.Hole.TheVariants.{Reg, Num, Sym, Label}
use Rattle.md_text.specs.Lines.{Line}
use Rattle.md_text.specs.Pieces.{Kind, Named, Slot, Piece, slots, has_name}
use Rattle.md_text.specs.Forms.{OpenTransfer, Form, ModeLine, RowLine, HasForm, open_from, context}
use Rattle.md_text.specs.Declarations.{Declaration, HaveForms, Alternative, alternative_of, alternatives_in, mode_names}
use Rattle.md_text.specs.Expansion.{taken_by, leaf_of, with_leaves, goal_with, move_to, move_with, all_there, leaves_by, holes_from, Filling, filling_of, itself, alternatives_of, fillings, choices, holes_in, meant, Expanded, expanded, expansions_of, expansions}
use Rattle.md_said.proofs.Lists.{Each, each_map, each_flat_map, each_filter}
use Rattle.md_said.proofs.Forms.{no_some, some_same}
use Rattle.md_bounds.specs.Bounds.{IsBoundedCell, IsBoundedTree, IsBoundedGoal}

-- what is spelled

abbrev IsBoundedPlace : Option Goal → Type 0
IsBoundedPlace None = Unit {0}
IsBoundedPlace (Some g) = IsBoundedGoal g

abbrev IsBoundedSaid : Said → Type 0
IsBoundedSaid s = IsBoundedPlace s.to × IsBoundedTree s.value

cell_bounded : (c : Cell) → IsSpelledCell c → IsBoundedCell c
cell_bounded (Hard n) s = s
cell_bounded (Flag n) s = s
cell_bounded (Temp n) s = tt
cell_bounded (HoleCell n) s = tt
cell_bounded Pc s = tt
cell_bounded Input s = tt
cell_bounded Output s = tt
cell_bounded Halt s = tt

chosen : (b : Bool) (t leaf : Tree) (o : Option Tree) → IsBoundedTree t → (o ≡ Some leaf → IsBoundedTree leaf) → cond b (Some t) o ≡ Some leaf → IsBoundedTree leaf
chosen true t leaf o h k e = subst IsBoundedTree (some_same t leaf e) h
chosen false t leaf o h k e = k e

leaf_bounded : (n : ℕ) (names : List (List ℕ)) (name : List ℕ) (leaf : Tree) → leaf_named (open_from n names) name ≡ Some leaf → IsBoundedTree leaf
leaf_bounded n [] name leaf e = absurd (no_some leaf e)
leaf_bounded n (m ∷ names) name leaf e =
    chosen (bytes_eq m name) (Read (HoleCell n)) leaf (leaf_named (open_from (suc n) names) name) tt (λ k. leaf_bounded (suc n) names name leaf k) e

leaf_place : (t : Tree) → IsBoundedTree t → IsBoundedPlace (goal_of_leaf t)
leaf_place (Read c) h = h
leaf_place (Load d a) h = h
leaf_place (Number n) h = tt
leaf_place (Symbol n) h = tt
leaf_place (CodeLabel l) h = tt
leaf_place (Unary o a) h = tt
leaf_place (Binary o a b) h = tt
leaf_place NoPair h = tt
leaf_place (AnyNumber n) h = tt
leaf_place (AnyName n) h = tt

module _ (w : ℕ) (names : List (List ℕ)) where
  tree_bounded : (d : ℕ) (t : Tree) (ps : List Placed) → Spells (context w names) d t ps → IsBoundedTree t
  tree_bounded d t ps (number _ n lt) = tt
  tree_bounded d t ps (symbol _ k name e) = tt
  tree_bounded d t ps (function _ k name e) = tt
  tree_bounded d t ps (block _ k lt) = tt
  tree_bounded d t ps (cell _ x s) = cell_bounded x s
  tree_bounded d t ps (memory _ v a qs s) = tree_bounded (suc d) a qs s
  tree_bounded d t ps (unary _ o a qs b s) = tree_bounded (suc d) a qs s
  tree_bounded d t ps (binary _ o a b qs rs s u) = (tree_bounded (suc d) a qs s, tree_bounded (suc d) b rs u)
  tree_bounded d t ps (test _ r n lt) = lt
  tree_bounded d t ps (hole _ name leaf e) = leaf_bounded 0 names name leaf e

  place_bounded : (g : Option Goal) (ps : List Placed) → SpellsPlace (context w names) g ps → IsBoundedPlace g
  place_bounded g ps (to_cell x s) = cell_bounded x s
  place_bounded g ps (to_memory d a qs s) = tree_bounded 2 a qs s
  place_bounded g ps (to_hole name leaf e) = leaf_place leaf (leaf_bounded 0 names name leaf e)

  said_bounded : (m : Said) (ps : List Placed) → SpellsMove (context w names) m ps → IsBoundedSaid m
  said_bounded m ps (value g t qs rs p s) = (place_bounded g qs p, tree_bounded 1 t rs s)
  said_bounded m ps (lost g qs p) = (place_bounded g qs p, tt)

  transfer_bounded : (ms : List Said) (ps : List Placed) → SpellsTransfer (context w names) ms ps → Each IsBoundedSaid ms
  transfer_bounded ms ps (last m qs s) = (said_bounded m qs s, tt)
  transfer_bounded ms ps (more m ns qs rs s u) = (said_bounded m qs s, transfer_bounded ns rs u)

abbrev IsBoundedForm : Form → Type 0
IsBoundedForm (ModeLine name text tree) = IsBoundedTree tree.tree
IsBoundedForm (RowLine text transfer) = Each IsBoundedSaid transfer.moves
IsBoundedForm _ = Unit {0}

form_bounded : (w : ℕ) (line : List ℕ) (form : Form) → HasForm w line form → IsBoundedForm form
form_bounded w line (ModeLine name text tree) h = tree_bounded w tree.names 1 tree.tree h.tree_is.placed h.tree_is.spells
form_bounded w line (RowLine text transfer) h = transfer_bounded w transfer.names transfer.moves h.transfer_is.spelled.placed h.transfer_is.spelled.spells
form_bounded w line _ h = tt

forms_bounded : (w : ℕ) (lines : List Line) (ds : List Declaration) → HaveForms w lines ds → Each (λ d. IsBoundedForm d.form) ds
forms_bounded w [] [] h = tt
forms_bounded w (l ∷ lines) (d ∷ ds) h = (form_bounded w l.bytes d.form h.1, forms_bounded w lines ds h.2)
forms_bounded w [] (d ∷ ds) h = absurd h
forms_bounded w (l ∷ lines) [] h = absurd h

-- what stands in place of holes

abbrev AreBounded : List Open → Type 0
AreBounded holes = Each (λ o. IsBoundedTree o.leaf) holes

hole_bounded : (h : RowHole) (n : ℕ) → IsBoundedTree (leaf_of h n)
hole_bounded (Reg class) n = tt
hole_bounded (Num low high inverted) n = tt
hole_bounded Sym n = tt
hole_bounded Label n = tt

get_bounded : (leaves : List Tree) (n : ℕ) → Each IsBoundedTree leaves → IsBoundedTree (unwrap_or (slice_get leaves n) NoPair)
get_bounded [] n h = tt
get_bounded (t ∷ leaves) zero h = h.0
get_bounded (t ∷ leaves) (suc n) h = get_bounded leaves n h.1

with_bounded : (leaves : List Tree) (t : Tree) → Each IsBoundedTree leaves → IsBoundedTree t → IsBoundedTree (with_leaves leaves t)
with_bounded leaves (Number n) h b = tt
with_bounded leaves (Symbol n) h b = tt
with_bounded leaves (CodeLabel l) h b = tt
with_bounded leaves (Read (HoleCell n)) h b = get_bounded leaves n h
with_bounded leaves (Read (Hard n)) h b = b
with_bounded leaves (Read (Temp n)) h b = tt
with_bounded leaves (Read (Flag n)) h b = b
with_bounded leaves (Read Pc) h b = tt
with_bounded leaves (Read Input) h b = tt
with_bounded leaves (Read Output) h b = tt
with_bounded leaves (Read Halt) h b = tt
with_bounded leaves (Load d a) h b = with_bounded leaves a h b
with_bounded leaves (Unary o a) h b = with_bounded leaves a h b
with_bounded leaves (Binary o a c) h b = (with_bounded leaves a h b.0, with_bounded leaves c h b.1)
with_bounded leaves NoPair h b = tt
with_bounded leaves (AnyNumber n) h b = tt
with_bounded leaves (AnyName n) h b = tt

cond_bounded : (b : Bool) (t : Tree) (o : Option Tree) → IsBoundedTree t → IsBoundedTree (unwrap_or o NoPair) → IsBoundedTree (unwrap_or (cond b (Some t) o) NoPair)
cond_bounded true t o h k = h
cond_bounded false t o h k = k

named_bounded : (holes : List Open) (name : List ℕ) → AreBounded holes → IsBoundedTree (unwrap_or (leaf_named holes name) NoPair)
named_bounded [] name h = tt
named_bounded (o ∷ holes) name h = cond_bounded (bytes_eq o.name name) o.leaf (leaf_named holes name) h.0 (named_bounded holes name h.1)

leaves_bounded : (holes : List Open) (names : List (List ℕ)) → AreBounded holes → Each IsBoundedTree (leaves_by holes names)
leaves_bounded holes [] h = tt
leaves_bounded holes (name ∷ names) h = (named_bounded holes name h, leaves_bounded holes names h)

from_bounded : (w : ℕ) (ds : List Declaration) (n : ℕ) (hs : List Slot) → AreBounded (holes_from w ds n hs)
from_bounded w ds n [] = tt
from_bounded w ds n (h ∷ hs) = (hole_bounded (taken_by w ds h.kind) n, from_bounded w ds (suc n) hs)

abbrev IsBoundedFilling : Filling → Type 0
IsBoundedFilling f = (n : ℕ) → IsBoundedTree (f.tree n)

abbrev IsBoundedAlternative : Alternative → Type 0
IsBoundedAlternative a = IsBoundedTree a.tree.tree

mode_bounded : (w : ℕ) (ds : List Declaration) (a : Alternative) → IsBoundedAlternative a → IsBoundedFilling (filling_of w ds a)
mode_bounded w ds a h n =
    with_bounded (leaves_by (holes_from w ds n (slots a.text)) a.tree.names) a.tree.tree
    (leaves_bounded (holes_from w ds n (slots a.text)) a.tree.names (from_bounded w ds n (slots a.text))) h

either_bounded : (b : Bool) (fs gs : List Filling) → Each IsBoundedFilling fs → Each IsBoundedFilling gs → Each IsBoundedFilling (cond b fs gs)
either_bounded true fs gs h k = h
either_bounded false fs gs h k = k

itself_bounded : (h : RowHole) → Each IsBoundedFilling (itself h ∷ [])
itself_bounded h = ((λ n. hole_bounded h n), tt)

fillings_bounded : (w : ℕ) (ds : List Declaration) (kind : Kind) → Each IsBoundedAlternative (alternatives_in ds) → Each IsBoundedFilling (fillings w ds kind)
fillings_bounded w ds (Named name) a =
    either_bounded (has_name (mode_names ds) name) (map (filling_of w ds) (alternatives_of ds name)) (itself (taken_by w ds (Named name)) ∷ [])
    (each_map IsBoundedAlternative IsBoundedFilling (filling_of w ds) (mode_bounded w ds) (alternatives_of ds name)
    (each_filter IsBoundedAlternative (λ x. bytes_eq x.mode name) (alternatives_in ds) a))
    (itself_bounded (taken_by w ds (Named name)))
fillings_bounded w ds kind a = itself_bounded (taken_by w ds kind)

alternative_cons : (form : Form) (rest : List Alternative) → IsBoundedForm form → Each IsBoundedAlternative rest
    → Each IsBoundedAlternative (cons_option (alternative_of form) rest)
alternative_cons (ModeLine name text tree) rest h k = (h, k)
alternative_cons _ rest h k = k

alternatives_bounded : (ds : List Declaration) → Each (λ d. IsBoundedForm d.form) ds → Each IsBoundedAlternative (alternatives_in ds)
alternatives_bounded [] h = tt
alternatives_bounded (d ∷ ds) h = alternative_cons d.form (alternatives_in ds) h.0 (alternatives_bounded ds h.1)

-- rows

each_kind : (w : ℕ) (ds : List Declaration) (hs : List Slot) → Each IsBoundedAlternative (alternatives_in ds)
    → Each (λ h. Each IsBoundedFilling (fillings w ds h.kind)) hs
each_kind w ds [] a = tt
each_kind w ds (h ∷ hs) a = (fillings_bounded w ds h.kind a, each_kind w ds hs a)

choices_bounded : (w : ℕ) (ds : List Declaration) (hs : List Slot) → Each (λ h. Each IsBoundedFilling (fillings w ds h.kind)) hs
    → Each (Each IsBoundedFilling) (choices (map (λ h. fillings w ds h.kind) hs))
choices_bounded w ds [] h = (tt, tt)
choices_bounded w ds (x ∷ hs) h =
    each_flat_map IsBoundedFilling (Each IsBoundedFilling) (λ f. map (λ fs. f ∷ fs) (choices (map (λ h. fillings w ds h.kind) hs)))
    (λ f g. each_map (Each IsBoundedFilling) (Each IsBoundedFilling) (λ fs. f ∷ fs) (λ fs k. (g, k)) (choices (map (λ h. fillings w ds h.kind) hs))
    (choices_bounded w ds hs h.1))
    (fillings w ds x.kind) h.0

meant_bounded : (n : ℕ) (hs : List Slot) (fs : List Filling) → Each IsBoundedFilling fs → AreBounded (meant n hs fs)
meant_bounded n (h ∷ hs) (f ∷ fs) b = (b.0 n, meant_bounded (n + length (holes_in f.text)) hs fs b.1)
meant_bounded n (h ∷ hs) [] b = tt
meant_bounded n [] fs b = tt

-- an assignment over such cells
abbrev pub IsOverCells : Move → Type 0
IsOverCells m = IsBoundedGoal m.to × IsBoundedTree m.value

goal_bounded : (leaves : List Tree) (x : Goal) → Each IsBoundedTree leaves → IsBoundedGoal x → IsBoundedPlace (goal_with leaves x)
goal_bounded leaves (ToCell (HoleCell n)) h b = leaf_place (unwrap_or (slice_get leaves n) NoPair) (get_bounded leaves n h)
goal_bounded leaves (ToCell (Hard n)) h b = b
goal_bounded leaves (ToCell (Temp n)) h b = tt
goal_bounded leaves (ToCell (Flag n)) h b = b
goal_bounded leaves (ToCell Pc) h b = tt
goal_bounded leaves (ToCell Input) h b = tt
goal_bounded leaves (ToCell Output) h b = tt
goal_bounded leaves (ToCell Halt) h b = tt
goal_bounded leaves (ToMemory d a) h b = with_bounded leaves a h b

place_with : (leaves : List Tree) (to : Option Goal) → Each IsBoundedTree leaves → IsBoundedPlace to → IsBoundedPlace (option_and_then (goal_with leaves) to)
place_with leaves None h b = tt
place_with leaves (Some x) h b = goal_bounded leaves x h b

abbrev IsMoveOver : Option Move → Type 0
IsMoveOver None = Unit {0}
IsMoveOver (Some m) = IsOverCells m

moved_over : (v : Tree) (o : Option Goal) → IsBoundedPlace o → IsBoundedTree v → IsMoveOver (option_map (move_to v) o)
moved_over v None g h = tt
moved_over v (Some x) g h = (g, h)

move_over : (leaves : List Tree) (s : Said) → Each IsBoundedTree leaves → IsBoundedSaid s → IsMoveOver (move_with leaves s)
move_over leaves s h b =
    moved_over (with_leaves leaves s.value) (option_and_then (goal_with leaves) s.to) (place_with leaves s.to h b.0) (with_bounded leaves s.value h b.1)

abbrev pub AreOverCells : Option (List Move) → Type 0
AreOverCells None = Unit {0}
AreOverCells (Some ms) = Each IsOverCells ms

joined : (m : Move) (o : Option (List Move)) → IsOverCells m → AreOverCells o → AreOverCells (option_map (λ ms. m ∷ ms) o)
joined m None h k = tt
joined m (Some ms) h k = (h, k)

there_over : (os : List (Option Move)) → Each IsMoveOver os → AreOverCells (all_there os)
there_over [] h = tt
there_over (None ∷ os) h = tt
there_over (Some m ∷ os) h = joined m (all_there os) h.0 (there_over os h.1)

abbrev IsOverRow : Expanded → Type 0
IsOverRow row = AreOverCells row.transfer

expanded_over : (line : ℕ) (text : List Piece) (t : OpenTransfer) (fs : List Filling) → Each IsBoundedFilling fs → Each IsBoundedSaid t.moves
    → IsOverRow (expanded line text t fs)
expanded_over line text t fs h b =
    let leaves = leaves_by (meant 0 (slots text) fs) t.names in
    there_over (map (move_with leaves) t.moves)
    (each_map IsBoundedSaid IsMoveOver (move_with leaves) (λ s k. move_over leaves s (leaves_bounded (meant 0 (slots text) fs) t.names (meant_bounded 0 (slots text) fs h)) k) t.moves b)

expansions_over : (w line : ℕ) (ds : List Declaration) (form : Form) → Each IsBoundedAlternative (alternatives_in ds) → IsBoundedForm form
    → Each IsOverRow (expansions_of w ds line form)
expansions_over w line ds (RowLine text t) a h =
    each_map (Each IsBoundedFilling) IsOverRow (expanded line text t) (λ fs k. expanded_over line text t fs k h)
    (choices (map (λ x. fillings w ds x.kind) (slots text))) (choices_bounded w ds (slots text) (each_kind w ds (slots text) a))
expansions_over w line ds _ a h = tt

-- the rows of a text without modes name such cells alone
pub rows_over : (w : ℕ) (lines : List Line) (ds : List Declaration) → HaveForms w lines ds → Each (λ e. AreOverCells e.transfer) (expansions w ds)
rows_over w lines ds h =
    let forms = forms_bounded w lines ds h in
    each_flat_map (λ d. IsBoundedForm d.form) IsOverRow (λ d. expansions_of w ds d.line d.form)
    (λ d k. expansions_over w d.line ds d.form (alternatives_bounded ds forms) k) ds forms
