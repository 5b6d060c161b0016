-- What a machine holds, and the transfers that it makes.
use Rattle.std.specs.Prelude.{ℕ, ◌<◌, ◌^◌, ◌≡◌, false, List, [], length, Option, None, All}
use Rattle.rtl_tree.specs.Trees.{Tree, Number, Symbol, CodeLabel, Read, Load, Unary, Binary, NoPair}
use Rattle.rtl_tree.specs.Moves.{Goal, ToCell, ToMemory, Move}
use Rattle.rtl_tree.specs.declared.cells.Cell.{Cell}
use Rattle.rtl_tree.specs.declared.cells.Cell.TheVariants.{Hard, Flag, Pc, Input, Output, Halt}
use Rattle.rtl_tree.specs.declared.expressions.BinOp.{BinOp}
use Rattle.rtl_tree.specs.declared.expressions.BinOp.TheVariants.{Pair, When}
use Rattle.rtl_value.specs.declared.state.State.{State}
use Rattle.rtl_value.specs.Values.{AreWords, IsPairOfWords}
use Rattle.rtl_effect.specs.Effects.{is_input}
use Rattle.machine_turn.specs.declared.held.Held.{Held}

-- what a machine holds as a state, without temporaries, and with no names
abbrev pub state_of : Held → State
state_of h = record {
  registers = h.registers;
  temps = [];
  flags = h.flags;
  next_place = h.next;
  memory = h.memory.items;
  input = None;
  symbols = [];
  labels = [];
}

-- 64 registers and 8 flags, and all that is held is a word
pub record IsHeld (w : ℕ) (h : Held) : Type 0 where
  pub many : length h.registers ≡ 64
  pub eight : length h.flags ≡ 8
  pub words : AreWords w h.registers
  pub pairs : All (λ p. IsPairOfWords w p) h.flags
  pub next : h.next < 2 ^ w

-- a cell whose value the machine holds; the input is a device
abbrev pub IsCellRead : Cell → Type 0
IsCellRead (Hard n) = n < 64
IsCellRead Input = ⊥
IsCellRead _ = Unit {0}

-- a tree that doesn't take the input, whose numbers are words, where `named` says whether symbols and labels may stand in it
abbrev pub IsTree : Type 0 → ℕ → Tree → Type 0
IsTree named w (Number n) = n < 2 ^ w
IsTree named w (Symbol n) = named
IsTree named w (CodeLabel l) = named
IsTree named w (Read c) = IsCellRead c
IsTree named w (Load d a) = IsTree named w a
IsTree named w (Unary o a) = IsTree named w a
IsTree named w (Binary o a b) = IsTree named w a × IsTree named w b
IsTree named w _ = Unit {0}

-- what a flag becomes is a pair, or lost
abbrev pub IsForFlag : Type 0 → ℕ → Tree → Type 0
IsForFlag named w (Binary Pair a b) = IsTree named w a × IsTree named w b
IsForFlag named w NoPair = Unit {0}
IsForFlag named w _ = ⊥

-- a register takes the input, or a value
abbrev pub IsForRegister : Type 0 → ℕ → Tree → Type 0
IsForRegister named w t = is_input t ≡ false → IsTree named w t

-- the side of an assignment, which goes to a register, to a flag, to memory, to the output or to the program's end, or says where to go on
abbrev pub IsSideOf : Type 0 → ℕ → Goal → Tree → Type 0
IsSideOf named w (ToCell (Hard n)) t = (n < 64) × IsForRegister named w t
IsSideOf named w (ToCell (Flag n)) t = (n < 8) × IsForFlag named w t
IsSideOf named w (ToCell Pc) t = IsTree named w t
IsSideOf named w (ToCell Output) t = IsTree named w t
IsSideOf named w (ToCell Halt) t = IsTree named w t
IsSideOf named w (ToCell _) t = ⊥
IsSideOf named w (ToMemory d a) t = IsTree named w a × IsTree named w t

abbrev pub IsPlain : ℕ → Tree → Type 0
IsPlain w t = IsTree ⊥ w t

abbrev pub IsSide : ℕ → Goal → Tree → Type 0
IsSide w g t = IsSideOf ⊥ w g t

-- an assignment that the machine makes: with no names
abbrev pub IsMadeMove : ℕ → Move → Type 0
IsMadeMove w m = IsSide w m.to m.value
