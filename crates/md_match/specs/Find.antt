-- The first way in which a row's tree, its holes filled, is alike a tree.
use Rattle.std.specs.Prelude.{ℕ, ◌+◌, cond, ◌==◌, Option, Some, None}
use Rattle.rtl_tree.specs.Trees.{Tree, Number, Symbol, CodeLabel, Read, Load, Unary, Binary, NoPair, AnyNumber, AnyName}
use Rattle.rtl_tree.specs.Same.{same_cell, same_label, same_width, same_unary, same_binary}
use Rattle.rtl_tree.specs.Likeness.{commutes}
use Rattle.rtl_tree.specs.declared.cells.Cell.TheVariants.{Hole as RegisterHole}
use Rattle.md_match.specs.Slots.{Slots, Fit, bound_of, put}

-- a leaf of the row against a tree
unfoldable pub leaf : Fit → Tree → Tree → Slots → Option Slots
leaf f (Read (RegisterHole h)) e s = put f h (bound_of e) s
leaf f (AnyNumber h) e s = put f h (bound_of e) s
leaf f (AnyName h) e s = put f h (bound_of e) s
leaf f (Number n) (Number m) s = cond (n == m) (Some s) None
leaf f (Symbol n) (Symbol m) s = cond (n == m) (Some s) None
leaf f (CodeLabel l) (CodeLabel m) s = cond (same_label l m) (Some s) None
leaf f (Read c) (Read d) s = cond (same_cell c d) (Some s) None
leaf f NoPair NoPair s = Some s
leaf f _ _ s = None

abbrev pub then_go : Option Slots → (Slots → Option Slots) → Option Slots
then_go (Some s) k = k s
then_go None k = None

abbrev pub or_else : Option Slots → Option Slots → Option Slots
or_else (Some s) other = Some s
or_else None other = other

-- the first way to fill a row's tree so that it is alike a tree, and then to go on: unswapped before swapped, outer nodes first, and
-- then the part that is compared with the tree's left operand
abbrev pub find : Fit → Tree → Tree → (Slots → Option Slots) → Slots → Option Slots
find f (Load w a) (Load v c) k s = cond (same_width w v) (find f a c k s) None
find f (Unary o a) (Unary p c) k s = cond (same_unary o p) (find f a c k s) None
find f (Binary o a b) (Binary p c d) k s =
    cond (same_binary o p)
    (or_else (find f a c (find f b d k) s)
    (cond (commutes o) (find f b c (find f a d k) s) None))
    None
find f r e k s = then_go (leaf f r e s) k

abbrev pub size : Tree → ℕ
size (Load w a) = 2 + size a
size (Unary o a) = 2 + size a
size (Binary o a b) = 2 + size a + size b
size _ = 1
