-- The shapes: the list of them all, and the transfer of each as a function of what it leaves open.
use Rattle.std.specs.Prelude.{ℕ, zero, suc, ◌+◌, ◌-◌, ◌/◌, ◌%◌, ◌^◌, Bool, true, false, nat_lt, if◌then◌else◌, ◌==◌, ◌&&◌, is_some, List, [], ◌∷◌, ◌++◌, map, get_or, Option, Some, None}
use Rattle.rtl_word.specs.declared.Rel.{Rel}
use Rattle.rtl_word.specs.declared.Rel.TheVariants.{Eq, Ne, Lt, Le, Gt, Ge, Ltu, Leu, Gtu, Geu}
use Rattle.rtl_tree.specs.declared.cells.Cell.{Cell}
use Rattle.rtl_tree.specs.declared.cells.Cell.TheVariants.{Hard, Temp, Flag, Pc, Input, Output, Halt as Status}
use Rattle.rtl_tree.specs.declared.cells.Lab.{Lab}
use Rattle.rtl_tree.specs.declared.cells.Lab.TheVariants.{Block}
use Rattle.rtl_tree.specs.declared.expressions.Width.{Width}
use Rattle.rtl_tree.specs.declared.expressions.Width.TheVariants.{Byte, Full}
use Rattle.rtl_tree.specs.declared.expressions.UnOp.TheVariants.{Not, Sxb, Test}
use Rattle.rtl_tree.specs.declared.expressions.BinOp.TheVariants.{Add, And, Cmp, Pair, When}
use Rattle.rtl_tree.specs.Trees.{Tree, Number, Symbol, CodeLabel, Read, Load as LoadTree, Unary, Binary}
use Rattle.rtl_tree.specs.Moves.{ToCell, ToMemory, Move}
use Rattle.md_match.specs.Slots.{no_slots}
use Rattle.md_match.specs.Searches.{Search, match_all, no_marks}
use Rattle.md_shapes.specs.declared.table.Shape.{Shape}
use Rattle.md_shapes.specs.declared.patterns.Pattern.{Pattern}
use Rattle.md_shapes.specs.declared.patterns.Pattern.TheVariants.{Copy, SetNumber, SetSymbol, Load, Store, LoadByte, StoreByte, LoadHome, StoreHome, StoreTop, ReadStack, MoveStack, SetStack, Operate, Complement, Clear, Jump, Branch, Compare, BranchByFlag, Call, Return, SaveLink, RestoreLink, TakeInput, PutOutput, Halt, ReadResult, SetResult, ExtendByte}

-- the list

-- n numbers from a on
abbrev pub numbers_from : ℕ → ℕ → List ℕ
numbers_from a zero = []
numbers_from a (suc n) = a ∷ numbers_from (suc a) n

abbrev pub plain : ℕ → Shape
plain n = record { number = n; form = 0; relation = Eq; flag = 0 }

abbrev pub relations : List Rel
relations = Eq ∷ Ne ∷ Lt ∷ Le ∷ Gt ∷ Ge ∷ Ltu ∷ Leu ∷ Gtu ∷ Geu ∷ []

abbrev pub flag_jumps : List Rel → List Shape
flag_jumps [] = []
flag_jumps (r ∷ rs) = map (λ j. record { number = 20; form = 2; relation = r; flag = j }) (numbers_from 0 8) ++ flag_jumps rs

abbrev pub all_shapes : List Shape
all_shapes =
    map plain (numbers_from 1 18)
    ++ record { number = 18; form = 1; relation = Eq; flag = 0 } ∷ plain 19
    ∷ map (λ r. record { number = 20; form = 0; relation = r; flag = 0 }) relations
    ++ map (λ j. record { number = 20; form = 1; relation = Eq; flag = j }) (numbers_from 0 8)
    ++ flag_jumps relations
    ++ map plain (numbers_from 21 19)

-- the shape at a place of the list
abbrev pub shape_by : ℕ → Shape
shape_by i =
    if nat_lt i 18 then plain (i + 1)
    else if i == 18 then record { number = 18; form = 1; relation = Eq; flag = 0 }
    else if i == 19 then plain 19
    else if nat_lt i 30 then record { number = 20; form = 0; relation = get_or relations (i - 20) Eq; flag = 0 }
    else if nat_lt i 38 then record { number = 20; form = 1; relation = Eq; flag = i - 30 }
    else if nat_lt i 118 then record { number = 20; form = 2; relation = get_or relations ((i - 38) / 8) Eq; flag = (i - 38) % 8 }
    else plain (i - 97)

-- the transfers

-- what a description fixes: the bits of a word, the registers by number, and the size of memory
pub record Frame : Type 0 where
  pub bits : ℕ
  pub stack : ℕ
  pub result : ℕ
  pub link : Option ℕ
  pub memory : ℕ

-- what a shape leaves open
pub record Open : Type 0 where
  pub a : Cell
  pub b : Cell
  pub number : ℕ
  pub symbol : ℕ
  pub label : Lab

abbrev pub set_cell : Cell → Tree → List Move
set_cell c t = record { to = ToCell c; value = t } ∷ []

abbrev pub store_at : Width → Tree → Tree → List Move
store_at w at t = record { to = ToMemory w at; value = t } ∷ []

abbrev pub stack_of : Frame → Tree
stack_of m = Read (Hard m.stack)

abbrev pub stack_plus : Frame → ℕ → Tree
stack_plus m n = Binary Add (stack_of m) (Number n)

-- the bytes of a word
abbrev pub word_bytes : Frame → ℕ
word_bytes m = m.bits / 8

-- the word of minus the bytes of a word
abbrev pub minus_word : Frame → ℕ
minus_word m = 2 ^ m.bits - word_bytes m

-- a call puts the counter in the link register, or below the top of the stack where there is none
abbrev pub link_call : ℕ → Lab → List Move
link_call z l = set_cell (Hard z) (Read Pc) ++ set_cell Pc (CodeLabel l)

abbrev pub stack_call : Tree → Cell → Lab → List Move
stack_call below s l = store_at Full below (Read Pc) ++ (set_cell s below ++ set_cell Pc (CodeLabel l))

abbrev pub call_moves : Frame → Option ℕ → Lab → List Move
call_moves m (Some z) l = link_call z l
call_moves m None l = stack_call (stack_plus m (minus_word m)) (Hard m.stack) l

abbrev pub stack_return : Tree → Cell → ℕ → List Move
stack_return top s n = set_cell Pc (LoadTree Full top) ++ set_cell s (Binary Add top (Number n))

abbrev pub return_moves : Frame → Option ℕ → List Move
return_moves m (Some z) = set_cell Pc (Read (Hard z))
return_moves m None = stack_return (stack_of m) (Hard m.stack) (word_bytes m)

-- the link register is saved at a place of memory, and set from it
abbrev pub saved : Option ℕ → Tree → List Move
saved (Some z) at = store_at Full at (Read (Hard z))
saved None at = []

abbrev pub restored : Option ℕ → Tree → List Move
restored (Some z) at = set_cell (Hard z) (LoadTree Full at)
restored None at = []

-- the transfer of a shape
abbrev pub shape_moves : Frame → Pattern → Open → List Move
shape_moves m Copy p = set_cell p.a (Read p.b)
shape_moves m SetNumber p = set_cell p.a (Number p.number)
shape_moves m SetSymbol p = set_cell p.a (Symbol p.symbol)
shape_moves m Load p = set_cell p.a (LoadTree Full (Read p.b))
shape_moves m Store p = store_at Full (Read p.a) (Read p.b)
shape_moves m LoadByte p = set_cell p.a (Unary Sxb (LoadTree Byte (Read p.b)))
shape_moves m StoreByte p = store_at Byte (Read p.a) (Read p.b)
shape_moves m LoadHome p = set_cell p.a (LoadTree Full (stack_plus m p.number))
shape_moves m StoreHome p = store_at Full (stack_plus m p.number) (Read p.a)
shape_moves m StoreTop p = store_at Full (stack_of m) (Read p.a)
shape_moves m ReadStack p = set_cell p.a (stack_of m)
shape_moves m MoveStack p = set_cell (Hard m.stack) (stack_plus m p.number)
shape_moves m SetStack p = set_cell (Hard m.stack) (Number m.memory)
shape_moves m (Operate o) p = set_cell p.a (Binary o (Read p.a) (Read p.b))
shape_moves m Complement p = set_cell p.a (Unary Not (Read p.a))
shape_moves m Clear p = set_cell p.a (Binary And (Read p.a) (Unary Not (Read p.b)))
shape_moves m Jump p = set_cell Pc (CodeLabel p.label)
shape_moves m (Branch r) p = set_cell Pc (Binary When (Binary (Cmp r) (Read p.a) (Read p.b)) (CodeLabel p.label))
shape_moves m (Compare j) p = set_cell (Flag j) (Binary Pair (Read p.a) (Read p.b))
shape_moves m (BranchByFlag r j) p = set_cell Pc (Binary When (Unary (Test r) (Read (Flag j))) (CodeLabel p.label))
shape_moves m Call p = call_moves m m.link p.label
shape_moves m Return p = return_moves m m.link
shape_moves m SaveLink p = saved m.link (stack_plus m p.number)
shape_moves m RestoreLink p = restored m.link (stack_plus m p.number)
shape_moves m TakeInput p = set_cell (Hard m.result) (Read Input)
shape_moves m PutOutput p = set_cell Output (Read (Hard m.result))
shape_moves m Halt p = set_cell Status (Read (Hard m.result))
shape_moves m ReadResult p = set_cell p.a (Read (Hard m.result))
shape_moves m SetResult p = set_cell (Hard m.result) (Read p.a)
shape_moves m ExtendByte p = set_cell p.a (Unary Sxb (Read p.a))

-- whether there is a transfer of the shape: two shapes want a link register
abbrev pub has_link : Option ℕ → Bool
has_link (Some z) = true
has_link None = false

abbrev pub has_transfer : Frame → Pattern → Bool
has_transfer m SaveLink = has_link m.link
has_transfer m RestoreLink = has_link m.link
has_transfer m _ = true

-- the shape at two temporaries, a number, and the first symbol and label
abbrev pub example : ℕ → Open
example n = record { a = Temp 0; b = Temp 1; number = n; symbol = 0; label = Block 0 }

-- whether a search finds that a row does the shape's example
abbrev pub does_example : Search → Frame → Pattern → ℕ → Bool
does_example t m pattern n = has_transfer m pattern && is_some (match_all t (shape_moves m pattern (example n)) no_marks no_slots)
