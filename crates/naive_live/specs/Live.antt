-- Which temporaries are live at most before and behind operations of naive code.
use Rattle.std.specs.Prelude.{◌≡◌, ◌⊎◌, ℕ, ◌<◌, List, [], ◌∷◌, Option, Some}
use Rattle.rtl_tree.specs.declared.cells.Cell.{Cell}
use Rattle.rtl_tree.specs.declared.cells.Cell.TheVariants.{Temp}
use Rattle.md_shapes.specs.declared.patterns.Pattern.{Pattern}
use Rattle.md_shapes.specs.declared.patterns.Pattern.TheVariants.{Copy, SetNumber, SetSymbol, Load, Store, LoadByte, StoreByte, LoadHome, StoreHome, StoreTop, ReadStack, Operate, Complement, Clear, TakeInput, PutOutput, ReadResult, SetResult, ExtendByte}
use Rattle.naive_code.specs.Operations.{Stop, Falls, Jumps, Branches, Calls, Returns, Op, Make, Meet, Scale, Extend, Close}

abbrev pub Has : List ℕ → ℕ → Type 0
Has [] i = ⊥
Has (x ∷ xs) i = (i ≡ x) ⊎ Has xs i

-- each of the one list is in the other
abbrev pub Within : List ℕ → List ℕ → Type 0
Within xs ys = (i : ℕ) → Has xs i → Has ys i

-- each has a depth, and no two have the same
pub record AreApart (depth : ℕ → Option ℕ) (xs : List ℕ) : Type 0 where
  pub deep : (i : ℕ) → Has xs i → (d : ℕ) × (depth i ≡ Some d)
  pub apart : (i j : ℕ) → Has xs i → Has xs j → depth i ≡ depth j → i ≡ j

-- what the transfer of a shape does with its two operands; where it has one, the second is the first again
pub data Access : Type 0 where
  Neither : Access
  Reads : Access
  ReadsBoth : Access
  Sets : Access
  SetsBySecond : Access
  Changes : Access
  ChangesBySecond : Access
  -- a shape that naive code makes nowhere in the body of a block
  Unused : Access

abbrev pub access : Pattern → Access
access Copy = SetsBySecond
access SetNumber = Sets
access SetSymbol = Sets
access Load = SetsBySecond
access Store = ReadsBoth
access LoadByte = SetsBySecond
access StoreByte = ReadsBoth
access LoadHome = Sets
access StoreHome = Reads
access StoreTop = Reads
access ReadStack = Sets
access (Operate o) = ChangesBySecond
access Complement = Changes
access Clear = ChangesBySecond
access TakeInput = Neither
access PutOutput = Neither
access ReadResult = Sets
access SetResult = Reads
access ExtendByte = Changes
access _ = Unused

-- The first temporaries are those of scalars; each other one has a depth of evaluation. A label is given with what is live at most where its
-- block begins. Lists have those live temporaries that are no scalars.
module _ (depth : ℕ → Option ℕ) (scalars : ℕ) (at_label : ℕ → List ℕ) where
  -- a temporary that may be read
  abbrev pub Holds : List ℕ → Cell → Type 0
  Holds live (Temp i) = (i < scalars) ⊎ Has live i
  Holds live _ = ⊥

  -- behind an assignment to it only this one has come to be live, and then no two have one depth
  pub record IsSet (live : List ℕ) (i : ℕ) (behind : List ℕ) : Type 0 where
    pub has : Has behind i
    pub others : (j : ℕ) → Has behind j → (j ≡ i) ⊎ Has live j
    pub apart : AreApart depth behind

  abbrev pub Comes : List ℕ → Cell → List ℕ → Type 0
  Comes live (Temp i) behind = ((i < scalars) × Within behind live) ⊎ IsSet live i behind
  Comes live _ behind = ⊥

  abbrev pub Accesses : Access → (live : List ℕ) → (a b : Cell) → (behind : List ℕ) → Type 0
  Accesses Neither live a b behind = (a ≡ Temp 0) × (b ≡ Temp 0) × Within behind live
  Accesses Reads live a b behind = (b ≡ a) × Holds live a × Within behind live
  Accesses ReadsBoth live a b behind = Holds live a × Holds live b × Within behind live
  Accesses Sets live a b behind = (b ≡ a) × Comes live a behind
  Accesses SetsBySecond live a b behind = Holds live b × Comes live a behind
  Accesses Changes live a b behind = (b ≡ a) × Holds live a × Within behind live
  Accesses ChangesBySecond live a b behind = Holds live a × Holds live b × Within behind live
  Accesses Unused live a b behind = ⊥

  abbrev pub Stops : List ℕ → Stop → List ℕ → Type 0
  Stops live Falls behind = Within behind live
  Stops live (Jumps l) behind = Within (at_label l) live
  Stops live (Branches r a b l) behind = Holds live (Temp a) × Holds live (Temp b) × Within (at_label l) live × Within behind live
  Stops live (Calls f) behind = Within behind live
  Stops live Returns behind = Unit {0}

  -- by one operation; what it uses up in between stands apart from what is live
  abbrev pub Passes : List ℕ → Op → List ℕ → Type 0
  Passes live (Make p o) behind = Accesses (access p) live o.a o.b behind
  Passes live (Meet a b) behind = Holds live (Temp a) × Holds live (Temp b) × Within behind live
  Passes live (Scale a spare) behind = Holds live (Temp a) × AreApart depth (spare ∷ live) × Within behind live
  Passes live (Extend a spare) behind = Holds live (Temp a) × AreApart depth (spare ∷ live) × Within behind live
  Passes live (Close stop l) behind = (behind ≡ at_label l) × AreApart depth behind × Stops live stop behind

  -- At most those of the one list are live before the operations, where at most those of the other are behind them. What no operation behind
  -- reads is dropped before the next one.
  abbrev pub Lives : List ℕ → List Op → List ℕ → Type 0
  Lives live [] behind = Within behind live
  Lives live (o ∷ os) behind = (kept : List ℕ) × Within kept live × (next : List ℕ) × Passes kept o next × Lives next os behind
