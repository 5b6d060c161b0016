-- What the machine makes of a transfer: each side and address is evaluated in the old state, the first trap counts, then all is assigned.
use Rattle.std.specs.Prelude.{ℕ, zero, suc, ◌+◌, ◌/◌, ◌%◌, ◌^◌, ◌-◌, ◌==◌, ◌≡◌, ◌<◌, ◌≤◌, Bool, true, false, nat_le, if◌then◌else◌, Option, Some, None, List, [], ◌∷◌, length, slice_set, Result, Ok, Err}
use Rattle.rtl_tree.specs.Trees.{Tree, Binary}
use Rattle.rtl_tree.specs.Moves.{Goal, ToCell, ToMemory, Move}
use Rattle.rtl_tree.specs.declared.cells.Cell.{Cell}
use Rattle.rtl_tree.specs.declared.cells.Cell.TheVariants.{Hard, Flag, Pc, Output, Halt}
use Rattle.rtl_tree.specs.declared.expressions.Width.{Width}
use Rattle.rtl_tree.specs.declared.expressions.BinOp.{BinOp}
use Rattle.rtl_tree.specs.declared.expressions.BinOp.TheVariants.{Pair, When}
use Rattle.rtl_value.specs.declared.state.Trap.{Trap}
use Rattle.rtl_value.specs.declared.state.Trap.TheVariants.{Address, Align, LostFlag}
use Rattle.rtl_value.specs.declared.state.FlagPair.{FlagPair}
use Rattle.rtl_value.specs.declared.state.State.{State}
use Rattle.rtl_value.specs.Values.{value_of}
use Rattle.rtl_effect.specs.Views.{width_of}
use Rattle.rtl_effect.specs.Effects.{is_input}
use Rattle.machine_turn.specs.declared.assigned.Assigned.{Assigned}
use Rattle.machine_turn.specs.declared.assigned.Assigned.TheVariants.{Word, Taken, Compared, Lost, Next, Printed, Ended, Bytes}
use Rattle.machine_turn.specs.declared.assigned.Stored.{Stored}
use Rattle.machine_turn.specs.declared.assigned.Outcome.{Outcome}
use Rattle.machine_turn.specs.declared.held.Held.{Held}

-- goes on with what was evaluated, or traps
abbrev pub and_go : {A : Type 0} → {B : Type 0} → Result A Trap → (A → Result B Trap) → Result B Trap
and_go (Ok x) go = go x
and_go (Err t) go = Err t

-- the address, where that many bytes from it are in memory and it is a multiple of their number
abbrev pub place_checked : ℕ → ℕ → ℕ → Result ℕ Trap
place_checked count size a = if nat_le (a + count) size then (if a % count == 0 then Ok a else Err Align) else Err Address

-- memory with the low bytes of a value from an address on, the low byte first
abbrev pub stored : List ℕ → ℕ → ℕ → ℕ → List ℕ
stored m at zero v = m
stored m at (suc count) v = stored (slice_set m at (v % 256)) (at + 1) count (v / 256)

abbrev pub low_byte_of : ℕ → Tree → State → Result ℕ Trap
low_byte_of w t s = and_go (value_of w t s) (λ v. Ok (v % 256))

abbrev pub assigned_flag : ℕ → ℕ → Tree → State → Result Assigned Trap
assigned_flag w n (Binary Pair a b) s = and_go (value_of w a s) (λ x. and_go (value_of w b s) (λ y. Ok (Compared n x y)))
assigned_flag w n _ s = Ok (Lost n)

-- where to go on: behind the instruction, where the condition is 0
abbrev pub assigned_jump : ℕ → Tree → State → Result Assigned Trap
assigned_jump w (Binary When c l) s = and_go (value_of w c s) (λ x. and_go (value_of w l s) (λ y. Ok (Next (if x == 0 then s.next_place else y))))
assigned_jump w t s = and_go (value_of w t s) (λ v. Ok (Next v))

-- the side, then the address
abbrev pub assigned_bytes : ℕ → Width → Tree → Tree → State → Result Assigned Trap
assigned_bytes w d a t s =
    and_go (value_of w t s) (λ v. and_go (value_of w a s) (λ b. and_go (place_checked (width_of w d) (length s.memory) b) (λ at.
    Ok (Bytes (record { at = at; count = width_of w d; value = v })))))

-- one assignment, with its side and address evaluated in the old state
abbrev pub assigned_to : ℕ → Goal → Tree → State → Result Assigned Trap
assigned_to w (ToCell (Hard n)) t s = if is_input t then Ok (Taken n) else and_go (value_of w t s) (λ v. Ok (Word n v))
assigned_to w (ToCell (Flag n)) t s = assigned_flag w n t s
assigned_to w (ToCell Pc) t s = assigned_jump w t s
assigned_to w (ToCell Output) t s = and_go (low_byte_of w t s) (λ b. Ok (Printed b))
assigned_to w (ToCell Halt) t s = and_go (low_byte_of w t s) (λ b. Ok (Ended b))
assigned_to w (ToCell _) t s = Err LostFlag
assigned_to w (ToMemory d a) t s = assigned_bytes w d a t s

-- the byte that was given, or -1 where none was
abbrev pub word_given : ℕ → Option ℕ → ℕ
word_given w (Some byte) = byte
word_given w None = 2 ^ w - 1

-- the registers and flags that a transfer makes, and what it makes beside them
pub record Made : Type 0 where
  pub registers : List ℕ
  pub flags : List (Option FlagPair)
  pub outcome : Outcome

-- before anything is assigned; the program goes on behind the instruction
abbrev pub unmade : State → Made
unmade s = record {
  registers = s.registers;
  flags = s.flags;
  outcome = record { place = s.next_place; printed = None; status = None; stored = None };
}

abbrev pub put : ℕ → Option ℕ → Assigned → Made → Made
put w given (Word n v) m = record m { registers = slice_set m.registers n v }
put w given (Taken n) m = record m { registers = slice_set m.registers n (word_given w given) }
put w given (Compared n x y) m = record m { flags = slice_set m.flags n (Some (record { left = x; right = y })) }
put w given (Lost n) m = record m { flags = slice_set m.flags n None }
put w given (Next place) m = record m { outcome = record m.outcome { place = place } }
put w given (Printed byte) m = record m { outcome = record m.outcome { printed = Some byte } }
put w given (Ended status) m = record m { outcome = record m.outcome { status = Some status } }
put w given (Bytes b) m = record m { outcome = record m.outcome { stored = Some b } }

-- all sides and addresses are evaluated in the old state; the last assignment is made first, so that of two to one cell the first counts
abbrev pub made_by : ℕ → Option ℕ → List Move → State → Result Made Trap
made_by w given [] s = Ok (unmade s)
made_by w given (m ∷ ms) s = and_go (assigned_to w m.to m.value s) (λ a. and_go (made_by w given ms s) (λ made. Ok (put w given a made)))

-- the first trap, if there is one
abbrev pub tested_by : ℕ → List Move → State → Result (Unit {0}) Trap
tested_by w [] s = Ok tt
tested_by w (m ∷ ms) s = and_go (assigned_to w m.to m.value s) (λ a. tested_by w ms s)

abbrev pub memory_with : Option Stored → List ℕ → List ℕ
memory_with (Some b) m = stored m b.at b.count b.value
memory_with None m = m

-- an assignment that fits in 64 registers, 8 flags and so many bytes, on words of w bits
abbrev pub IsFit : ℕ → ℕ → Assigned → Type 0
IsFit w size (Word n v) = (n < 64) × (v < 2 ^ w)
IsFit w size (Taken n) = n < 64
IsFit w size (Compared n x y) = (n < 8) × (x < 2 ^ w) × (y < 2 ^ w)
IsFit w size (Lost n) = n < 8
IsFit w size (Next place) = place < 2 ^ w
IsFit w size (Printed byte) = Unit {0}
IsFit w size (Ended status) = Unit {0}
IsFit w size (Bytes b) = b.at + b.count ≤ size

abbrev pub IsStored : ℕ → Option Stored → Type 0
IsStored size (Some b) = b.at + b.count ≤ size
IsStored size None = Unit {0}

pub record IsOutcome (w size : ℕ) (o : Outcome) : Type 0 where
  pub place : o.place < 2 ^ w
  pub stored : IsStored size o.stored

abbrev pub made_of : Held → Outcome → Made
made_of h outcome = record { registers = h.registers; flags = h.flags; outcome = outcome }

-- what was made has come out as registers and flags, or nothing has changed
abbrev pub ComesOut : Result Made Trap → Held → Held → Result Outcome Trap → Type 0
ComesOut made old now (Ok outcome) = (made ≡ Ok (made_of now outcome)) × (now.memory ≡ old.memory) × (now.next ≡ old.next)
ComesOut made old now (Err trap) = (made ≡ Err trap) × (now ≡ old)
