-- The value of a tree in a state: a word, or the first trap, left operand before right.
use Rattle.std.specs.Prelude.{ℕ, zero, suc, ◌+◌, ◌-◌, ◌*◌, ◌/◌, ◌%◌, ◌^◌, ◌<◌, ◌≡◌, if◌then◌else◌, nat_le, ◌==◌, List, [], ◌∷◌, length, slice_get, slice_index, Option, Some, None, IsSome, All, EachIndex, Result, Ok, Err, bit_and, bit_or, bit_xor}
use Rattle.rtl_word.specs.declared.Rel.{Rel}
use Rattle.rtl_word.specs.Words.{word_add, word_sub, word_mul, word_neg, word_not, word_sxb, word_rel, word_div, word_rem, word_divu, word_remu, word_shl, word_shr, word_shru}
use Rattle.rtl_tree.specs.declared.cells.Cell.{Cell}
use Rattle.rtl_tree.specs.declared.cells.Cell.TheVariants.{Hard, Temp, Flag, Pc, Input}
use Rattle.rtl_tree.specs.declared.cells.Lab.{Lab}
use Rattle.rtl_tree.specs.declared.expressions.Width.{Width}
use Rattle.rtl_tree.specs.declared.expressions.Width.TheVariants.{Byte, Full}
use Rattle.rtl_tree.specs.declared.expressions.UnOp.{UnOp}
use Rattle.rtl_tree.specs.declared.expressions.UnOp.TheVariants.{Neg, Not, Sxb, Test}
use Rattle.rtl_tree.specs.declared.expressions.BinOp.{BinOp}
use Rattle.rtl_tree.specs.declared.expressions.BinOp.TheVariants.{Add, Sub, Mul, Div, Divu, Rem, Remu, And, Or, Xor, Shl, Shr, Shru, Cmp, Pair, When}
use Rattle.rtl_tree.specs.Trees.{Tree, Number, Symbol, CodeLabel, Read, Load, Unary, Binary, NoPair, AnyNumber, AnyName}
use Rattle.rtl_tree.specs.Same.{same_label}
use Rattle.rtl_value.specs.declared.state.Trap.{Trap}
use Rattle.rtl_value.specs.declared.state.Trap.TheVariants.{Divide, Shift, Address, Align, LostFlag}
use Rattle.rtl_value.specs.declared.state.FlagPair.{FlagPair}
use Rattle.rtl_value.specs.declared.state.LabelAt.{LabelAt}
use Rattle.rtl_value.specs.declared.state.State.{State}

-- goes on with a value, or traps
abbrev pub and_then : Result ℕ Trap → (ℕ → Result ℕ Trap) → Result ℕ Trap
and_then (Ok v) go = go v
and_then (Err t) go = Err t

-- a value, or the trap where there is none
abbrev pub or_trap : Option ℕ → Trap → Result ℕ Trap
or_trap (Some v) t = Ok v
or_trap None t = Err t

-- the number of n bytes from the address a on, the low byte first
abbrev pub bytes_at : List ℕ → ℕ → ℕ → ℕ
bytes_at m a zero = 0
bytes_at m a (suc n) = slice_index m a + 256 * bytes_at m (a + 1) n

-- what memory holds at an address: a byte outside memory is told before an address that is no multiple of the word's bytes
abbrev pub load_of : ℕ → Width → List ℕ → ℕ → Result ℕ Trap
load_of w Byte m a = if nat_le (a + 1) (length m) then Ok (slice_index m a) else Err Address
load_of w Full m a =
    if nat_le (a + w / 8) (length m)
    then (if a % (w / 8) == 0 then Ok (bytes_at m a (w / 8)) else Err Align)
    else Err Address

-- the next byte of the input, or -1 at its end
abbrev pub input_word : ℕ → Option ℕ → ℕ
input_word w (Some b) = b
input_word w None = 2 ^ w - 1

abbrev pub cell_of : ℕ → State → Cell → ℕ
cell_of w s (Hard n) = slice_index s.registers n
cell_of w s (Temp n) = slice_index s.temps n
cell_of w s Pc = s.next_place
cell_of w s Input = input_word w s.input
cell_of w s _ = 0

-- the place of a label: that of its first entry
abbrev pub place_of_label : List LabelAt → Lab → Option ℕ
place_of_label [] l = None
place_of_label (e ∷ es) l = if same_label e.label l then Some e.at else place_of_label es l

abbrev pub number_or_zero : Option ℕ → ℕ
number_or_zero (Some n) = n
number_or_zero None = 0

abbrev pub label_of : State → Lab → ℕ
label_of s l = number_or_zero (place_of_label s.labels l)

-- the test of what a flag holds
abbrev pub flag_test : ℕ → Rel → Option (Option FlagPair) → Result ℕ Trap
flag_test w r (Some (Some p)) = Ok (word_rel w r p.left p.right)
flag_test w r _ = Err LostFlag

abbrev pub unary_of : ℕ → UnOp → ℕ → ℕ
unary_of w Neg a = word_neg w a
unary_of w Not a = word_not w a
unary_of w Sxb a = word_sxb w a
unary_of w (Test r) a = 0

abbrev pub binary_of : ℕ → BinOp → ℕ → ℕ → Result ℕ Trap
binary_of w Add a b = Ok (word_add w a b)
binary_of w Sub a b = Ok (word_sub w a b)
binary_of w Mul a b = Ok (word_mul w a b)
binary_of w Div a b = or_trap (word_div w a b) Divide
binary_of w Divu a b = or_trap (word_divu a b) Divide
binary_of w Rem a b = or_trap (word_rem w a b) Divide
binary_of w Remu a b = or_trap (word_remu a b) Divide
binary_of w And a b = Ok (bit_and a b)
binary_of w Or a b = Ok (bit_or a b)
binary_of w Xor a b = Ok (bit_xor a b)
binary_of w Shl a b = or_trap (word_shl w a b) Shift
binary_of w Shr a b = or_trap (word_shr w a b) Shift
binary_of w Shru a b = or_trap (word_shru w a b) Shift
binary_of w (Cmp r) a b = Ok (word_rel w r a b)
binary_of w Pair a b = Err LostFlag
binary_of w When a b = Err LostFlag

-- an operator on operands that have values or trap
abbrev pub unary_value : ℕ → UnOp → Result ℕ Trap → Result ℕ Trap
unary_value w o u = and_then u (λ a. Ok (unary_of w o a))

abbrev pub binary_value : ℕ → BinOp → Result ℕ Trap → Result ℕ Trap → Result ℕ Trap
binary_value w o u v = and_then u (λ a. and_then v (binary_of w o a))

abbrev mutual
  -- the value of a tree, or the first trap; what has no value at all counts as the test of a lost flag
  pub value_of : ℕ → Tree → State → Result ℕ Trap
  value_of w (Number n) s = Ok n
  value_of w (Symbol n) s = Ok (slice_index s.symbols n)
  value_of w (CodeLabel l) s = Ok (label_of s l)
  value_of w (Read c) s = Ok (cell_of w s c)
  value_of w (Load d a) s = and_then (value_of w a s) (load_of w d s.memory)
  value_of w (Unary (Test r) a) s = test_of w r a s
  value_of w (Unary o a) s = unary_value w o (value_of w a s)
  value_of w (Binary o a b) s = binary_value w o (value_of w a s) (value_of w b s)
  value_of w NoPair s = Err LostFlag
  value_of w (AnyNumber n) s = Err LostFlag
  value_of w (AnyName n) s = Err LostFlag

  -- the test of a flag, or of a pair of trees
  pub test_of : ℕ → Rel → Tree → State → Result ℕ Trap
  test_of w r (Read (Flag n)) s = flag_test w r (slice_get s.flags n)
  test_of w r (Binary Pair a b) s = binary_value w (Cmp r) (value_of w a s) (value_of w b s)
  test_of w r _ s = Err LostFlag

abbrev pub AreWords : ℕ → List ℕ → Type 0
AreWords w ns = EachIndex ns (λ k. slice_index ns k < 2 ^ w)

-- what a flag holds is lost, or a pair of words
abbrev pub IsPairOfWords : ℕ → Option FlagPair → Type 0
IsPairOfWords w (Some p) = (p.left < 2 ^ w) × (p.right < 2 ^ w)
IsPairOfWords w None = Unit {0}

-- a state has 64 registers and 8 flags, and what it holds for a cell, a symbol or a label is a word
pub record IsSound (w : ℕ) (s : State) : Type 0 where
  pub registers_long : length s.registers ≡ 64
  pub flags_long : length s.flags ≡ 8
  pub registers : AreWords w s.registers
  pub temps : AreWords w s.temps
  pub symbols : AreWords w s.symbols
  pub labels : All (λ e. e.at < 2 ^ w) s.labels
  pub next_place : s.next_place < 2 ^ w
  pub flags : All (λ p. IsPairOfWords w p) s.flags

-- a cell that a tree may read as a word
abbrev pub IsCellRead : State → Cell → Type 0
IsCellRead s (Hard n) = n < 64
IsCellRead s (Temp n) = n < length s.temps
IsCellRead s Pc = Unit {0}
IsCellRead s Input = Unit {0}
IsCellRead s _ = ⊥

-- a flag, of which only a test may be read
abbrev pub IsFlagRead : Tree → Type 0
IsFlagRead (Read (Flag n)) = n < 8
IsFlagRead _ = ⊥

abbrev pub IsUnaryRead : UnOp → Type 0 → Type 0 → Type 0
IsUnaryRead (Test r) flag word = flag
IsUnaryRead _ flag word = word

abbrev pub IsBinaryRead : BinOp → Type 0
IsBinaryRead Pair = ⊥
IsBinaryRead When = ⊥
IsBinaryRead _ = Unit {0}

-- a tree that has a value or a trap in the state: no pair, jump, `lost` or hole, flags under tests alone, numbers that are words, and
-- cells, symbols and labels that the state has
abbrev pub IsReadable : ℕ → Tree → State → Type 0
IsReadable w (Number n) s = n < 2 ^ w
IsReadable w (Symbol n) s = n < length s.symbols
IsReadable w (CodeLabel l) s = IsSome (place_of_label s.labels l)
IsReadable w (Read c) s = IsCellRead s c
IsReadable w (Load d a) s = IsReadable w a s
IsReadable w (Unary o a) s = IsUnaryRead o (IsFlagRead a) (IsReadable w a s)
IsReadable w (Binary o a b) s = IsBinaryRead o × IsReadable w a s × IsReadable w b s
IsReadable w _ s = ⊥

-- the value, if there is one, is a word
pub record IsWord (w : ℕ) (r : Result ℕ Trap) : Type 0 where
  pub below : (v : ℕ) → r ≡ Ok v → v < 2 ^ w
