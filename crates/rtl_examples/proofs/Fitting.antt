-- The numbers in what a text with holes spells are words, and so they are where a tree is put for a cell.
use Rattle.std.proofs.Common.{◌≡◌, ℕ, true, false, Bool, Option, Some, None, List, [], ◌∷◌, get_or, subst}
use Rattle.std.specs.Prelude.{if◌then◌else◌}
use Rattle.std.specs.Str.{bytes_eq}
use Rattle.std.specs.List.{All}
use Rattle.rtl_tree.specs.Trees.{Tree, Number, Symbol, CodeLabel, Read, Load, Unary, Binary, NoPair, AnyNumber, AnyName}
use Rattle.rtl_tree.specs.Moves.{Goal, ToCell, ToMemory, Move}
use Rattle.rtl_tree.specs.Sorts.{IsFitting}
use Rattle.rtl_tree.specs.Same.{same_cell}
use Rattle.rtl_tree.specs.Substitution.{put_for}
use Rattle.rtl_tree.specs.declared.cells.Cell.{Cell}
use Rattle.rtl_norm.specs.Transfers.{IsGoalFitting, IsMoveFitting}
use Rattle.rtl_spelling.specs.Holes.{Open, leaf_named}
use Rattle.rtl_spelling.specs.Spelling.{Context, Placed, SpellsTransfer}
use Rattle.rtl_spelling.specs.Contract.{said_of}
use Rattle.rtl_norm_form.proofs.Leaves.{AllLeaves, AllLeavesOfGoal}
use Rattle.rtl_examples.proofs.Spelled.{IsOfSpelled, spelled_leaves}

abbrev pub AreFitting : ℕ → List Open → Type 0
AreFitting w [] = Unit {0}
AreFitting w (h ∷ hs) = IsFitting w h.leaf × AreFitting w hs

picked : (w : ℕ) (b : Bool) (t leaf : Tree) (o : Option Tree) → IsFitting w t → (o ≡ Some leaf → IsFitting w leaf) → (if b then Some t else o) ≡ Some leaf → IsFitting w leaf
picked w true t leaf o f g e = let l : t ≡ leaf = cc in subst (IsFitting w) l f
picked w false t leaf o f g e = g e

leaf_fits : (w : ℕ) (hs : List Open) (name : List ℕ) (leaf : Tree) → AreFitting w hs → leaf_named hs name ≡ Some leaf → IsFitting w leaf
leaf_fits w [] name leaf f e = absurd (let k : None ≡ Some leaf = e in cc)
leaf_fits w (h ∷ hs) name leaf f e = picked w (bytes_eq h.name name) h.leaf leaf _ f.0 (leaf_fits w hs name leaf f.1) e

fitting_leaves : (w : ℕ) (t : Tree) → IsFitting w t → AllLeaves (IsFitting w) t
fitting_leaves w (Load d a) h = fitting_leaves w a h
fitting_leaves w (Unary o a) h = fitting_leaves w a h
fitting_leaves w (Binary o a b) h = (fitting_leaves w a h.0, fitting_leaves w b h.1)
fitting_leaves w (Number n) h = h
fitting_leaves w (Symbol n) h = h
fitting_leaves w (CodeLabel l) h = h
fitting_leaves w (Read x) h = h
fitting_leaves w NoPair h = h
fitting_leaves w (AnyNumber n) h = h
fitting_leaves w (AnyName n) h = h

from_leaves : (w : ℕ) (t : Tree) → AllLeaves (IsFitting w) t → IsFitting w t
from_leaves w (Load d a) h = from_leaves w a h
from_leaves w (Unary o a) h = from_leaves w a h
from_leaves w (Binary o a b) h = (from_leaves w a h.0, from_leaves w b h.1)
from_leaves w (Number n) h = h
from_leaves w (Symbol n) h = h
from_leaves w (CodeLabel l) h = h
from_leaves w (Read x) h = h
from_leaves w NoPair h = h
from_leaves w (AnyNumber n) h = h
from_leaves w (AnyName n) h = h

goal_from_leaves : (w : ℕ) (g : Goal) → AllLeavesOfGoal (IsFitting w) g → IsGoalFitting w g
goal_from_leaves w (ToCell x) h = tt
goal_from_leaves w (ToMemory d a) h = from_leaves w a h

of_spelled : (c : Context) → AreFitting c.width c.holes → IsOfSpelled c (IsFitting c.width)
of_spelled c opened = record {
  of_number = λ n h. h;
  of_symbol = λ k h. tt;
  of_function = λ k h. tt;
  of_block = λ k h. tt;
  of_cell = λ x h. tt;
  of_lost = tt;
  of_hole = λ name leaf e. fitting_leaves c.width leaf (leaf_fits c.width c.holes name leaf opened e);
}

pub spelled_fits : (c : Context) (ms : List Move) (ps : List Placed) → AreFitting c.width c.holes → SpellsTransfer c (said_of ms) ps → All (IsMoveFitting c.width) ms
spelled_fits c ms ps opened s k d lt =
    let m = get_or ms k d in
    let p = spelled_leaves c (IsFitting c.width) (of_spelled c opened) ms ps s k d lt in
    (goal_from_leaves c.width m.to p.0, from_leaves c.width m.value p.1)

pub put_fits : (w : ℕ) (c : Cell) (by t : Tree) → IsFitting w by → IsFitting w t → IsFitting w (put_for c by t)
put_fits w c by (Read d) b h = at (same_cell d c)
  where
    at : (x : Bool) → IsFitting w (if x then by else Read d)
    at true = b
    at false = tt
put_fits w c by (Load d a) b h = put_fits w c by a b h
put_fits w c by (Unary o a) b h = put_fits w c by a b h
put_fits w c by (Binary o x y) b h = (put_fits w c by x b h.0, put_fits w c by y b h.1)
put_fits w c by (Number n) b h = h
put_fits w c by (Symbol n) b h = h
put_fits w c by (CodeLabel l) b h = h
put_fits w c by NoPair b h = h
put_fits w c by (AnyNumber n) b h = h
put_fits w c by (AnyName n) b h = h
