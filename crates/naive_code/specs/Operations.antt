-- What naive code is made of: the transfers of shapes, on temporaries, and the ends of blocks.
use Rattle.std.specs.Prelude.{ℕ}
use Rattle.rtl_word.specs.declared.Rel.{Rel}
use Rattle.rtl_tree.specs.declared.cells.Cell.TheVariants.{Temp}
use Rattle.rtl_tree.specs.declared.cells.Lab.TheVariants as label
use Rattle.rtl_tree.specs.declared.expressions.BinOp.{BinOp}
use Rattle.rtl_tree.specs.declared.expressions.BinOp.TheVariants as op
use Rattle.md_shapes.specs.declared.patterns.Pattern.{Pattern}
use Rattle.md_shapes.specs.declared.patterns.Pattern.TheVariants as shape
use Rattle.md_shapes.specs.Shapes.{Open}

-- how the open block ends
pub data Stop : Type 0 where
  Falls : Stop
  Jumps : (label : ℕ) → Stop
  -- to the label where the relation holds of two temporaries, else on
  Branches : Rel → (a b label : ℕ) → Stop
  Calls : (function : ℕ) → Stop
  Returns : Stop

-- One transfer of a shape; or what takes one transfer or several, by what the description covers, and may use up a second temporary: the bits
-- that two have in common, so many bytes for each element of the size of a word, the low byte with its sign extended; or the end of the
-- open block, and the label of the block that is opened behind it.
pub data Op : Type 0 where
  Make : Pattern → Open → Op
  Meet : (a b : ℕ) → Op
  Scale : (a spare : ℕ) → Op
  Extend : (a spare : ℕ) → Op
  Close : Stop → (opened : ℕ) → Op

abbrev pub on_two : ℕ → ℕ → Open
on_two a b = record { a = Temp a; b = Temp b; number = 0; symbol = 0; label = label.Block 0 }

abbrev pub with_number : ℕ → ℕ → Open
with_number a n = record { a = Temp a; b = Temp a; number = n; symbol = 0; label = label.Block 0 }

abbrev pub with_symbol : ℕ → ℕ → Open
with_symbol a y = record { a = Temp a; b = Temp a; number = 0; symbol = y; label = label.Block 0 }

abbrev pub copy : ℕ → ℕ → Op
copy a b = Make shape.Copy (on_two a b)

abbrev pub constant : ℕ → ℕ → Op
constant a n = Make shape.SetNumber (with_number a n)

abbrev pub address : ℕ → ℕ → Op
address a y = Make shape.SetSymbol (with_symbol a y)

abbrev pub load : ℕ → ℕ → Op
load a b = Make shape.Load (on_two a b)

abbrev pub store : ℕ → ℕ → Op
store a b = Make shape.Store (on_two a b)

abbrev pub load_byte : ℕ → ℕ → Op
load_byte a b = Make shape.LoadByte (on_two a b)

abbrev pub store_byte : ℕ → ℕ → Op
store_byte a b = Make shape.StoreByte (on_two a b)

abbrev pub operate : BinOp → ℕ → ℕ → Op
operate o a b = Make (shape.Operate o) (on_two a b)

abbrev pub add : ℕ → ℕ → Op
add a b = operate op.Add a b

abbrev pub complement : ℕ → Op
complement a = Make shape.Complement (on_two a a)

abbrev pub read_stack : ℕ → Op
read_stack a = Make shape.ReadStack (on_two a a)

abbrev pub load_home : ℕ → ℕ → Op
load_home a k = Make shape.LoadHome (with_number a k)

abbrev pub store_home : ℕ → ℕ → Op
store_home a k = Make shape.StoreHome (with_number a k)

abbrev pub store_top : ℕ → Op
store_top a = Make shape.StoreTop (on_two a a)

abbrev pub take_input : Op
take_input = Make shape.TakeInput (on_two 0 0)

abbrev pub put_output : Op
put_output = Make shape.PutOutput (on_two 0 0)

abbrev pub read_result : ℕ → Op
read_result a = Make shape.ReadResult (on_two a a)

abbrev pub set_result : ℕ → Op
set_result a = Make shape.SetResult (on_two a a)
