-- What a substitution does to the value of a tree.
use Rattle.std.specs.Prelude.{ℕ, ◌<◌, ◌≡◌, length, slice_set, Some, Ok}
use Rattle.rtl_tree.specs.declared.cells.Cell.{Cell}
use Rattle.rtl_tree.specs.declared.cells.Cell.TheVariants.{Hard, Temp, Flag}
use Rattle.rtl_tree.specs.declared.expressions.BinOp.TheVariants.{Pair}
use Rattle.rtl_tree.specs.Trees.{Tree, Binary}
use Rattle.rtl_tree.specs.Sorts.{IsWordTree}
use Rattle.rtl_tree.specs.Substitution.{put_for}
use Rattle.rtl_value.specs.declared.state.State.{State}
use Rattle.rtl_value.specs.Values.{value_of}

-- the state in which a register or temporary holds v
abbrev pub set_cell : State → Cell → ℕ → State
set_cell s (Hard n) v = record s { registers = slice_set s.registers n v }
set_cell s (Temp n) v = record s { temps = slice_set s.temps n v }
set_cell s _ v = s

-- the state in which a flag holds a pair
abbrev pub set_flag : State → ℕ → ℕ → ℕ → State
set_flag s n x y = record s { flags = slice_set s.flags n (Some (record { left = x; right = y })) }

-- a register or a temporary that the state has
abbrev pub IsVariable : State → Cell → Type 0
IsVariable s (Hard n) = n < length s.registers
IsVariable s (Temp n) = n < length s.temps
IsVariable s _ = ⊥

-- a tree put for a register or temporary leaves the value or trap of the old tree where the cell holds that tree's value
abbrev pub PutIsSetCell : Type 0
PutIsSetCell =
    (w : ℕ) (c : Cell) (by t : Tree) (s : State) (v : ℕ) → IsVariable s c → value_of w by s ≡ Ok v → IsWordTree t
    → value_of w (put_for c by t) s ≡ value_of w t (set_cell s c v)

-- a pair put for a flag leaves the value or trap of the old tree where the flag holds the values of the two
abbrev pub PutIsSetFlag : Type 0
PutIsSetFlag =
    (w n : ℕ) (a b t : Tree) (s : State) (x y : ℕ) → n < length s.flags → value_of w a s ≡ Ok x → value_of w b s ≡ Ok y → IsWordTree t
    → value_of w (put_for (Flag n) (Binary Pair a b) t) s ≡ value_of w t (set_flag s n x y)
