-- What a text without holes spells can be printed, and so can its normal form.
use Rattle.std.proofs.Common.{◌≡◌, ℕ, Some, List, [], ◌∷◌, get_or}
use Rattle.std.specs.List.{All}
use Rattle.rtl_word.specs.Words.{IsWordSize}
use Rattle.rtl_tree.specs.Trees.{Tree, Number, Symbol, CodeLabel, Read, Load, Unary, Binary, NoPair, AnyNumber, AnyName}
use Rattle.rtl_tree.specs.Moves.{Goal, ToCell, ToMemory, Move}
use Rattle.rtl_tree.specs.Sorts.{IsFitting}
use Rattle.rtl_tree.specs.declared.cells.Cell.{Cell}
use Rattle.rtl_tree.specs.declared.cells.Cell.TheVariants.{Hard, Flag, Hole}
use Rattle.rtl_norm.specs.Transfers.{norm_moves, IsGoalFitting, IsMoveFitting}
use Rattle.rtl_norm_form.proofs.Leaves.{AllLeaves, AllLeavesOfGoal, AllLeavesOfMove, moves_leaves}
use Rattle.rtl_spelling.specs.Holes.{Open, leaf_named}
use Rattle.rtl_spelling.specs.Spelling.{Context, Placed, IsSpelledCell, SpellsTransfer}
use Rattle.rtl_spelling.specs.Printing.{IsPrintableTree, IsPrintableGoal, IsPrintableCell, IsPrintable}
use Rattle.rtl_spelling.specs.Contract.{said_of}
use Rattle.rtl_examples.proofs.Spelled.{IsOfSpelled, spelled_leaves}

-- what can be printed, leaf by leaf
leaves_of : (c : Context) (t : Tree) → IsPrintableTree c t → AllLeaves (IsPrintableTree c) t
leaves_of c (Load d a) h = leaves_of c a h
leaves_of c (Unary o a) h = leaves_of c a h
leaves_of c (Binary o a b) h = (leaves_of c a h.0, leaves_of c b h.1)
leaves_of c (Number n) h = h
leaves_of c (Symbol n) h = h
leaves_of c (CodeLabel l) h = h
leaves_of c (Read x) h = h
leaves_of c NoPair h = h
leaves_of c (AnyNumber n) h = h
leaves_of c (AnyName n) h = h

from_leaves : (c : Context) (t : Tree) → AllLeaves (IsPrintableTree c) t → IsPrintableTree c t
from_leaves c (Load d a) h = from_leaves c a h
from_leaves c (Unary o a) h = from_leaves c a h
from_leaves c (Binary o a b) h = (from_leaves c a h.0, from_leaves c b h.1)
from_leaves c (Number n) h = h
from_leaves c (Symbol n) h = h
from_leaves c (CodeLabel l) h = h
from_leaves c (Read x) h = h
from_leaves c NoPair h = h
from_leaves c (AnyNumber n) h = h
from_leaves c (AnyName n) h = h

goal_leaves_of : (c : Context) (g : Goal) → IsPrintableGoal c g → AllLeavesOfGoal (IsPrintableTree c) g
goal_leaves_of c (ToCell x) h = h
goal_leaves_of c (ToMemory d a) h = leaves_of c a h

goal_from_leaves : (c : Context) (g : Goal) → AllLeavesOfGoal (IsPrintableTree c) g → IsPrintableGoal c g
goal_from_leaves c (ToCell x) h = h
goal_from_leaves c (ToMemory d a) h = from_leaves c a h

tree_fits : (c : Context) (t : Tree) → IsPrintableTree c t → IsFitting c.width t
tree_fits c (Load d a) h = tree_fits c a h
tree_fits c (Unary o a) h = tree_fits c a h
tree_fits c (Binary o a b) h = (tree_fits c a h.0, tree_fits c b h.1)
tree_fits c (Number n) h = h
tree_fits c (Symbol n) h = tt
tree_fits c (CodeLabel l) h = tt
tree_fits c (Read x) h = tt
tree_fits c NoPair h = tt
tree_fits c (AnyNumber n) h = tt
tree_fits c (AnyName n) h = tt

goal_fits : (c : Context) (g : Goal) → IsPrintableGoal c g → IsGoalFitting c.width g
goal_fits c (ToCell x) h = tt
goal_fits c (ToMemory d a) h = tree_fits c a h

pub printable_fits : (c : Context) (ms : List Move) → IsPrintable c ms → All (IsMoveFitting c.width) ms
printable_fits c ms h k d lt = let m = get_or ms k d in let p = h k d lt in (goal_fits c m.to p.0, tree_fits c m.value p.1)

moves_leaves_of : (c : Context) (ms : List Move) → IsPrintable c ms → All (AllLeavesOfMove (IsPrintableTree c)) ms
moves_leaves_of c ms h k d lt =
    let m = get_or ms k d in
    let p = h k d lt in
    (goal_leaves_of c m.to p.0, leaves_of c m.value p.1)

moves_from_leaves : (c : Context) (ms : List Move) → All (AllLeavesOfMove (IsPrintableTree c)) ms → IsPrintable c ms
moves_from_leaves c ms h k d lt =
    let m = get_or ms k d in
    let p = h k d lt in
    (goal_from_leaves c m.to p.0, from_leaves c m.value p.1)

pub printable_kept : (c : Context) (ms : List Move) → IsWordSize c.width → IsPrintable c ms → IsPrintable c (norm_moves c.width ms)
printable_kept c ms size h =
    moves_from_leaves c (norm_moves c.width ms)
    (moves_leaves c.width size (IsPrintableTree c) (λ n below. below) ms (printable_fits c ms h) (moves_leaves_of c ms h))

spelled_cell : (x : Cell) → IsSpelledCell x → IsPrintableCell x
spelled_cell (Hard n) h = h
spelled_cell (Flag n) h = h
spelled_cell (Hole n) h = h
spelled_cell _ h = tt

no_leaf : (hs : List Open) (name : List ℕ) (leaf : Tree) → hs ≡ [] → leaf_named hs name ≡ Some leaf → ⊥
no_leaf [] name leaf e h = cc
no_leaf (x ∷ xs) name leaf e h = cc

-- the leaves of a text without holes
of_spelled : (c : Context) → c.holes ≡ [] → IsOfSpelled c (IsPrintableTree c)
of_spelled c closed = record {
  of_number = λ n h. h;
  of_symbol = λ k h. h;
  of_function = λ k h. h;
  of_block = λ k h. tt;
  of_cell = spelled_cell;
  of_lost = tt;
  of_hole = λ name leaf e. absurd (no_leaf c.holes name leaf closed e);
}

pub spelled_printable : (c : Context) (ms : List Move) (ps : List Placed) → c.holes ≡ [] → SpellsTransfer c (said_of ms) ps → IsPrintable c ms
spelled_printable c ms ps closed s = moves_from_leaves c ms (spelled_leaves c (IsPrintableTree c) (of_spelled c closed) ms ps s)
