-- What some transfers do, worked out by hand, at words of 16 bits.
use Rattle.std.specs.Prelude.{◌≡◌, true, [], ◌∷◌, Some, None, Ok, Err}
use Rattle.rtl_tree.specs.Trees.{Tree, Number, CodeLabel, Read, Binary}
use Rattle.rtl_tree.specs.Moves.{ToCell, ToMemory, Move}
use Rattle.rtl_tree.specs.declared.cells.Cell.{Cell}
use Rattle.rtl_tree.specs.declared.cells.Cell.TheVariants.{Hard, Pc, Output, Halt}
use Rattle.rtl_tree.specs.declared.cells.Lab.TheVariants.{Block}
use Rattle.rtl_tree.specs.declared.expressions.Width.TheVariants.{Full}
use Rattle.rtl_tree.specs.declared.expressions.BinOp.TheVariants.{Div, When}
use Rattle.rtl_value.specs.declared.state.Trap.TheVariants.{Divide, Address, Align}
use Rattle.rtl_effect.specs.Views.{View, Traps, Wild}
use Rattle.rtl_effect.specs.Effects.{Done, effect}

abbrev sets : Cell → Tree → Move
sets c t = record { to = ToCell c; value = t }

abbrev stores : Tree → Tree → Move
stores a t = record { to = ToMemory Full a; value = t }

-- memory of 4 bytes, all of which may be touched; no register is set
abbrev pub blank : View → View
blank v = record v { size = 4; reach = λ a. true; cells = λ c. None }

-- each side is read in the old view: r[0] = r[1]; r[1] = r[0]
abbrev pub Swaps : Type 0
Swaps =
    (v : View)
    → (d : Done) × (effect 16 (sets (Hard 0) (Read (Hard 1)) ∷ sets (Hard 1) (Read (Hard 0)) ∷ []) v ≡ Ok d)
    × (d.view.cells (Hard 0) ≡ v.cells (Hard 1)) × (d.view.cells (Hard 1) ≡ v.cells (Hard 0))

-- the right side goes before the address: M[9] = (7 div 0)
abbrev pub SideTrapsFirst : Type 0
SideTrapsFirst = (v : View) → effect 16 (stores (Number 9) (Binary Div (Number 7) (Number 0)) ∷ []) (blank v) ≡ Err (Traps Divide)

-- a word at 9 is outside, and at 1 it is inside but not aligned: M[9] = 7, M[3] = 7, M[1] = 7
abbrev pub AddressBeforeAlign : Type 0
AddressBeforeAlign =
    (v : View)
    → (effect 16 (stores (Number 9) (Number 7) ∷ []) (blank v) ≡ Err (Traps Address))
    × (effect 16 (stores (Number 3) (Number 7) ∷ []) (blank v) ≡ Err (Traps Address))
    × (effect 16 (stores (Number 1) (Number 7) ∷ []) (blank v) ≡ Err (Traps Align))

-- no word traps where it is divided by 1, and the least one does by -1: r[1] = (r[0] div 1), r[1] = (r[0] div 65535)
abbrev pub UnsetDivided : Type 0
UnsetDivided =
    (v : View)
    → ((d : Done) × (effect 16 (sets (Hard 1) (Binary Div (Read (Hard 0)) (Number 1)) ∷ []) (blank v) ≡ Ok d) × (d.view.cells (Hard 1) ≡ None))
    × (effect 16 (sets (Hard 1) (Binary Div (Read (Hard 0)) (Number 65535)) ∷ []) (blank v) ≡ Err Wild)

-- the bytes of an unset word become unset, and no other: M[2] = r[0]
abbrev pub UnsetStored : Type 0
UnsetStored =
    (v : View)
    → (d : Done) × (effect 16 (stores (Number 2) (Read (Hard 0)) ∷ []) (blank v) ≡ Ok d)
    × (d.view.bytes 1 ≡ v.bytes 1) × (d.view.bytes 2 ≡ None) × (d.view.bytes 3 ≡ None) × (d.view.bytes 4 ≡ v.bytes 4)

-- both come of one transfer, each modulo 256: OUT = 321; HALT = 258
abbrev pub PrintsAndEnds : Type 0
PrintsAndEnds =
    (v : View)
    → (d : Done) × (effect 16 (sets Output (Number 321) ∷ sets Halt (Number 258) ∷ []) v ≡ Ok d) × (d.output ≡ Some 65) × (d.halt ≡ Some 2)

-- code whose places are known by labels alone, block 5 at place 5
abbrev pub labelled : View → View
labelled v = record v { labels = λ l. None; targets = λ l. Some 5; places = λ n. None }

-- there a jump goes to a label and to no number: PC = L5, PC = 5, PC = (1 -> 5), PC = (0 -> 5)
abbrev pub NumberIsNoTarget : Type 0
NumberIsNoTarget =
    (v : View)
    → ((d : Done) × (effect 16 (sets Pc (CodeLabel (Block 5)) ∷ []) (labelled v) ≡ Ok d) × (d.place ≡ Some 5))
    × (effect 16 (sets Pc (Number 5) ∷ []) (labelled v) ≡ Err Wild)
    × (effect 16 (sets Pc (Binary When (Number 1) (Number 5)) ∷ []) (labelled v) ≡ Err Wild)
    × ((d : Done) × (effect 16 (sets Pc (Binary When (Number 0) (Number 5)) ∷ []) (labelled v) ≡ Ok d) × (d.place ≡ v.cells Pc))
