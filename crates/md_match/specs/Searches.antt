-- The first way in which a row takes the assignments of a transfer, each by one of its own.
use Rattle.std.specs.Prelude.{ℕ, ◌+◌, Bool, true, false, not, cond, ◌==◌, ◌&&◌, ◌||◌, List, [], ◌∷◌, take, set, slice_get, slice_index_or, Option, Some, None}
use Rattle.std.specs.Int.{bit_at}
use Rattle.rtl_tree.specs.Trees.{Tree, Read, Load, Unary, Binary, AnyNumber, AnyName}
use Rattle.rtl_tree.specs.Moves.{Goal, ToCell, ToMemory, Move}
use Rattle.rtl_tree.specs.Same.{same_cell, same_tree}
use Rattle.rtl_tree.specs.declared.cells.Cell.{Cell}
use Rattle.rtl_tree.specs.declared.cells.Cell.TheVariants.{Hard, Temp, Flag, Hole as RegisterHole}
use Rattle.rtl_tree.specs.declared.expressions.UnOp.{UnOp}
use Rattle.rtl_tree.specs.declared.expressions.UnOp.TheVariants.{Test}
use Rattle.rtl_tree.specs.declared.expressions.BinOp.{BinOp}
use Rattle.rtl_tree.specs.declared.expressions.BinOp.TheVariants.{Div, Divu, Rem, Remu, Shl, Shr, Shru}
use Rattle.md_rows.specs.declared.instance.Bound.{Bound}
use Rattle.md_rows.specs.declared.instance.Bound.TheVariants.{Reg}
use Rattle.md_rows.specs.Fits.{is_in}
use Rattle.md_rows.specs.Instances.{leaf_of}
use Rattle.md_match.specs.Slots.{Slots, Fit}
use Rattle.md_match.specs.Find.{find, or_else, size}

-- a mark for each of a row's assignments, of which there are at most six
abbrev pub Marks : Type 0
Marks = List Bool

abbrev pub no_marks : Marks
no_marks = false ∷ false ∷ false ∷ false ∷ false ∷ false ∷ []

abbrev pub is_marked : Marks → ℕ → Bool
is_marked used j = slice_index_or used j false

-- a place as a tree
abbrev pub goal_tree : Goal → Tree
goal_tree (ToCell c) = Read c
goal_tree (ToMemory w a) = Load w a

-- the operators that can trap
abbrev pub unary_traps : UnOp → Bool
unary_traps (Test r) = true
unary_traps o = false

abbrev pub binary_traps : BinOp → Bool
binary_traps Div = true
binary_traps Divu = true
binary_traps Rem = true
binary_traps Remu = true
binary_traps Shl = true
binary_traps Shr = true
binary_traps Shru = true
binary_traps o = false

-- whether each node of a tree that can trap passes a test
abbrev pub traps_pass : (Tree → Bool) → Tree → Bool
traps_pass q (Load w a) = q (Load w a) && traps_pass q a
traps_pass q (Unary o a) = (not (unary_traps o) || q (Unary o a)) && traps_pass q a
traps_pass q (Binary o a b) = (not (binary_traps o) || q (Binary o a b)) && (traps_pass q a && traps_pass q b)
traps_pass q _ = true

-- the leaf that a hole holds, or the hole
abbrev pub filled_with : Tree → Option (Option Bound) → Tree
filled_with hole (Some (Some v)) = leaf_of v
filled_with hole _ = hole

-- a row's tree with its holes filled as far as they are known
abbrev pub fill : Slots → Tree → Tree
fill s (Read (RegisterHole h)) = filled_with (Read (RegisterHole h)) (slice_get s h)
fill s (AnyNumber h) = filled_with (AnyNumber h) (slice_get s h)
fill s (AnyName h) = filled_with (AnyName h) (slice_get s h)
fill s (Load w a) = Load w (fill s a)
fill s (Unary o a) = Unary o (fill s a)
fill s (Binary o a b) = Binary o (fill s a) (fill s b)
fill s r = r

-- whether a tree of the row, once a filling is put in, is a subtree of another
abbrev pub occurs_by : (Tree → Tree) → Tree → Tree → Bool
occurs_by g x (Load w a) = same_tree (g x) (g (Load w a)) || occurs_by g x a
occurs_by g x (Unary o a) = same_tree (g x) (g (Unary o a)) || occurs_by g x a
occurs_by g x (Binary o a b) = same_tree (g x) (g (Binary o a b)) || (occurs_by g x a || occurs_by g x b)
occurs_by g x t = same_tree (g x) (g t)

-- whether it is one of an assignment's
abbrev pub occurs_in_move : (Tree → Tree) → Tree → Move → Bool
occurs_in_move g x r = occurs_by g x (goal_tree r.to) || occurs_by g x r.value

-- whether it is one of a marked assignment's
abbrev pub in_marked : (Tree → Tree) → List Move → Marks → Tree → Bool
in_marked g (r ∷ rs) (u ∷ us) x = (u && occurs_in_move g x r) || in_marked g rs us x
in_marked g _ _ x = false

-- whether each assignment without a mark passes a test
abbrev pub others_pass : (Move → Bool) → List Move → Marks → Bool
others_pass p [] us = true
others_pass p (r ∷ rs) (u ∷ us) = (u || p r) && others_pass p rs us
others_pass p (r ∷ rs) [] = false

-- whether a tree names none of these hard registers, which have a bit each, by its number
abbrev pub names_none : ℕ → Tree → Bool
names_none barred (Read (Hard k)) = not (is_in barred k)
names_none barred (Load w a) = names_none barred a
names_none barred (Unary o a) = names_none barred a
names_none barred (Binary o a b) = names_none barred a && names_none barred b
names_none barred _ = true

-- whether a place is one of these flags, which have a bit each
abbrev pub is_flag_of : ℕ → Goal → Bool
is_flag_of flags (ToCell (Flag k)) = bit_at flags k == 1
is_flag_of flags _ = false

-- whether an assignment is to one of these flags and names none of these registers
abbrev pub is_idle : ℕ → ℕ → Move → Bool
is_idle flags barred r = is_flag_of flags r.to && names_none barred r.value

abbrev pub is_held : Option Bound → Bool
is_held (Some v) = true
is_held None = false

abbrev pub all_held : Slots → Bool
all_held [] = true
all_held (o ∷ s) = is_held o && all_held s

-- whether an assignment is idle, and traps only in trees that pass a test
abbrev pub harmless : (Move → Bool) → (Tree → Bool) → Move → Bool
harmless idle q r = idle r && traps_pass q r.value

-- the register or temporary that is assigned, as far as the holes are known
abbrev pub held_register : Option (Option Bound) → Option Cell
held_register (Some (Some (Reg (Hard k)))) = Some (Hard k)
held_register (Some (Some (Reg (Temp n)))) = Some (Temp n)
held_register _ = None

abbrev pub assigned_by : Slots → Goal → Option Cell
assigned_by s (ToCell (Hard k)) = Some (Hard k)
assigned_by s (ToCell (Temp n)) = Some (Temp n)
assigned_by s (ToCell (RegisterHole h)) = held_register (slice_get s h)
assigned_by s _ = None

abbrev pub same_register : Option Cell → Option Cell → Bool
same_register (Some c) (Some d) = same_cell c d
same_register _ _ = false

-- whether none of these assignments is to that register
abbrev pub apart_from : Slots → Option Cell → List Move → Bool
apart_from s o [] = true
apart_from s o (r ∷ rs) = not (same_register o (assigned_by s r.to)) && apart_from s o rs

-- whether no two are to one register
abbrev pub all_apart : Slots → List Move → Bool
all_apart s [] = true
all_apart s (r ∷ rs) = apart_from s (assigned_by s r.to) rs && all_apart s rs

-- whether the assignments without a mark are as they must be, the first holes are all bound, and no two registers become one
abbrev pub is_accepted : ℕ → (Move → Bool) → List Move → Marks → Slots → Bool
is_accepted count idle row used s =
    all_held (take count s) && (others_pass (harmless idle (in_marked (fill s) row used)) row used && all_apart s row)

-- what a search looks for
pub record Search : Type 0 where
  pub fit : Fit
  pub count : ℕ
  pub flags : ℕ
  pub barred : ℕ
  pub row : List Move

abbrev pub accept : Search → Marks → Slots → Option Slots
accept t used s = cond (is_accepted t.count (is_idle t.flags t.barred) t.row used s) (Some s) None

-- an assignment of the row against one of the transfer: the places first
abbrev pub one : Fit → Move → Move → (Slots → Option Slots) → Slots → Option Slots
one f r e k s = find f (goal_tree r.to) (goal_tree e.to) (find f r.value e.value k) s

-- the first assignment of the row, from place j on, with which it goes on
abbrev pub pick : Fit → List Move → ℕ → Move → Marks → (Marks → Slots → Option Slots) → Slots → Option Slots
pick f [] j e used k s = None
pick f (r ∷ rs) j e used k s =
    or_else (cond (is_marked used j) None (one f r e (k (set used j true)) s)) (pick f rs (j + 1) e used k s)

abbrev pub match_all : Search → List Move → Marks → Slots → Option Slots
match_all t [] used s = accept t used s
match_all t (e ∷ es) used s = pick t.fit t.row 0 e used (match_all t es) s

abbrev pub move_size : Move → ℕ
move_size m = 3 + size (goal_tree m.to) + size m.value

abbrev pub moves_size : List Move → ℕ
moves_size [] = 0
moves_size (m ∷ ms) = move_size m + moves_size ms
