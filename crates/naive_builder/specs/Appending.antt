-- Code as far as it is emitted, and what operations append to it.
use Rattle.std.specs.Prelude.{◌≡◌, ℕ, false, List, [], ◌∷◌, ◌++◌, Contains}
use Rattle.rtl_word.specs.declared.Rel.{Rel}
use Rattle.rtl_tree.specs.declared.cells.Cell.TheVariants.{Temp}
use Rattle.rtl_tree.specs.declared.cells.Lab.TheVariants as label
use Rattle.md_rows.specs.declared.description.RawDescription.{RawDescription}
use Rattle.md_shapes.specs.declared.patterns.Pattern.TheVariants as shape
use Rattle.md_shapes.specs.Shapes.{Frame as Fixed, Open}
use Rattle.md_shapes.specs.Drawings.{frame_of}
use Rattle.md_covers.specs.Covers.{IsOpenOf, general_bits}
use Rattle.temp_code.specs.declared.code.Transfer.{Transfer}
use Rattle.temp_code.specs.declared.code.End.{End}
use Rattle.temp_code.specs.declared.code.End.TheVariants.{Fall, Jump, Branch, Call, Return}
use Rattle.temp_code.specs.declared.code.Block.{Block}
use Rattle.temp_shapes.specs.declared.rows.ShapeRows.{ShapeRows}
use Rattle.temp_shapes.specs.Elementary.{IsElementary, IsTransferOf}
use Rattle.temp_laws.specs.Doing.{ends_block}
use Rattle.naive_code.specs.Operations.{Stop, Falls, Jumps, Branches, Calls, Returns, Op, Make, Meet, Scale, Extend, Close}
use Rattle.naive_run.specs.Standing.{Shaped, shaped, ways, with_label, on_two_to}
use Rattle.naive_builder.specs.declared.builder.Builder.{Builder}

-- finished blocks, and the open one: its label, and its transfers so far
pub record Emitted : Type 0 where
  pub blocks : List Block
  pub label : ℕ
  pub body : List Transfer

abbrev pub emitted : Builder → Emitted
emitted b = record { blocks = b.blocks; label = b.label; body = b.body }

-- one empty block
abbrev pub begun : ℕ → Emitted
begun l = record { blocks = []; label = l; body = [] }

abbrev pub with_transfers : Emitted → List Transfer → Emitted
with_transfers s ts = record { blocks = s.blocks; label = s.label; body = s.body ++ ts }

abbrev pub with_end : Emitted → End → ℕ → Emitted
with_end s e l = record { blocks = s.blocks ++ record { label = s.label; body = s.body; end = e } ∷ []; label = l; body = [] }

abbrev pub with_function : ℕ → Open
with_function f = record { a = Temp 0; b = Temp 0; number = 0; symbol = 0; label = label.Function f }

-- what a description fixes of the shapes, by the table of its rows
abbrev pub fixed_in : RawDescription → ShapeRows → Fixed
fixed_in d rows = frame_of d.word rows.frame

module _ (d : RawDescription) (m : Fixed) where
  -- the elementary transfer of a shape, by an instruction of the description
  pub record IsMade (s : Shaped) (t : Transfer) : Type 0 where
    pub operands : IsOpenOf d.word (general_bits d.registers) s.pattern s.at
    pub transfer : IsTransferOf d m s.pattern s.at t
    pub elementary : IsElementary d t

  -- those of shapes inside a block, in order
  abbrev pub AllMade : List Shaped → List Transfer → Type 0
  AllMade [] [] = Unit {0}
  AllMade (s ∷ rest) (t ∷ ts) = (ends_block s.pattern ≡ false) × IsMade s t × AllMade rest ts
  AllMade [] (t ∷ ts) = ⊥
  AllMade (s ∷ rest) [] = ⊥

  -- how a block ends, with the last transfers of its body where the end needs one
  pub data IsEnd : Stop → List Transfer → End → Type 0 where
    falls : IsEnd Falls [] Fall
    jumps : (l : ℕ) (t : Transfer) → IsMade (shaped shape.Jump (with_label l)) t → IsEnd (Jumps l) [] (Jump t)
    branches : (r : Rel) (a b l : ℕ) (t : Transfer) → IsMade (shaped (shape.Branch r) (on_two_to a b l)) t → IsEnd (Branches r a b l) [] (Branch t)
    branches_by_flag : (r : Rel) (a b l j : ℕ) (compare jump : Transfer) → IsMade (shaped (shape.Compare j) (on_two_to a b l)) compare
        → IsMade (shaped (shape.BranchByFlag r j) (on_two_to a b l)) jump → IsEnd (Branches r a b l) (compare ∷ []) (Branch jump)
    calls : (f : ℕ) (t : Transfer) → IsMade (shaped shape.Call (with_function f)) t → IsEnd (Calls f) [] (Call t)
    leaves : IsEnd Returns [] Return

  -- what one operation appends
  pub data AppendsOne : Emitted → Op → Emitted → Type 0 where
    puts : (s : Emitted) (o : Op) (way : List Shaped) (ts : List Transfer) → Contains (ways d.word o) way → AllMade way ts
        → AppendsOne s o (with_transfers s ts)
    closes : (s : Emitted) (stop : Stop) (l : ℕ) (ts : List Transfer) (e : End) → IsEnd stop ts e
        → AppendsOne s (Close stop l) (with_end (with_transfers s ts) e l)

  -- what operations append, one after the other
  pub data Appends : Emitted → List Op → Emitted → Type 0 where
    nothing : (s : Emitted) → Appends s [] s
    one_more : (s t u : Emitted) (o : Op) (os : List Op) → AppendsOne s o t → Appends t os u → Appends s (o ∷ os) u

-- a builder's code with operations appended
abbrev pub Emits : RawDescription → ShapeRows → Builder → List Op → Builder → Type 0
Emits d rows old os new = Appends d (fixed_in d rows) (emitted old) os (emitted new)

-- a builder's code with transfers of shapes put into the open block
pub record Puts (d : RawDescription) (rows : ShapeRows) (old : Builder) (shapes : List Shaped) (new : Builder) : Type 0 where
  pub transfers : List Transfer
  pub made : AllMade d (fixed_in d rows) shapes transfers
  pub code : emitted new ≡ with_transfers (emitted old) transfers

-- the labels that operations open
abbrev pub opened : List Op → List ℕ
opened [] = []
opened (Make p o ∷ os) = opened os
opened (Meet a b ∷ os) = opened os
opened (Scale a b ∷ os) = opened os
opened (Extend a b ∷ os) = opened os
opened (Close stop l ∷ os) = l ∷ opened os
