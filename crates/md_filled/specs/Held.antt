-- Values that may stand in the holes of a row's trees.
use Rattle.std.specs.Prelude.{ℕ, ◌<◌, ◌^◌, List, slice_get, Option, Some, None}
use Rattle.rtl_tree.specs.declared.cells.Cell.TheVariants.{Hard, Temp, Hole as RegisterHole}
use Rattle.rtl_tree.specs.Trees.{Tree, Read, Load, Unary, Binary, AnyNumber, AnyName}
use Rattle.rtl_tree.specs.Moves.{Goal, ToCell, ToMemory, Move}
use Rattle.md_rows.specs.declared.instance.Bound.{Bound}
use Rattle.md_rows.specs.declared.instance.Bound.TheVariants.{Reg, Num, Sym, Label}

-- a register or a temporary
abbrev pub IsRegister : Option Bound → Type 0
IsRegister (Some (Reg (Hard k))) = Unit {0}
IsRegister (Some (Reg (Temp n))) = Unit {0}
IsRegister _ = ⊥

abbrev pub IsWord : ℕ → Option Bound → Type 0
IsWord w (Some (Num n)) = n < 2 ^ w
IsWord w _ = ⊥

-- a symbol or a label
abbrev pub IsName : Option Bound → Type 0
IsName (Some (Sym n)) = Unit {0}
IsName (Some (Label l)) = Unit {0}
IsName _ = ⊥

-- in each hole of a tree stands a value of its kind
abbrev pub IsHeld : ℕ → List Bound → Tree → Type 0
IsHeld w b (Read (RegisterHole h)) = IsRegister (slice_get b h)
IsHeld w b (AnyNumber h) = IsWord w (slice_get b h)
IsHeld w b (AnyName h) = IsName (slice_get b h)
IsHeld w b (Load d a) = IsHeld w b a
IsHeld w b (Unary o a) = IsHeld w b a
IsHeld w b (Binary o a c) = IsHeld w b a × IsHeld w b c
IsHeld w b _ = Unit {0}
