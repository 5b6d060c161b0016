-- Code that is finished.
use Rattle.std.specs.Prelude.{◌≡◌, ℕ, ◌+◌, ◌^◌, ◌≤◌, ◌<◌, ◌==◌, if◌then◌else◌, List, [], ◌∷◌, ◌++◌, map, Some, All}
use Rattle.rtl_word.specs.Words.{IsWordSize}
use Rattle.md_rows.specs.declared.description.RawDescription.{RawDescription}
use Rattle.md_shapes.specs.Shapes.{Frame as Fixed}
use Rattle.md_check.specs.Checking.{IsChecked}
use Rattle.temp_machine.specs.Routines.{Returns}
use Rattle.temp_machine.specs.Live.{Place, End, item_at}
use Rattle.temp_code.specs.declared.code.Block.{Block}
use Rattle.temp_code.specs.declared.code.Code.{Code}
use Rattle.temp_code.specs.declared.code.End.TheVariants.{Return}
use Rattle.temp_code.specs.Realised.{AreRealised, transfers_of}
use Rattle.temp_code.specs.Routines.{routine_of}
use Rattle.temp_shapes.specs.Elementary.{IsElementary}
use Rattle.naive_code.specs.Operations.{Op}
use Rattle.naive_run.specs.Standing.{Stands}
use Rattle.naive_builder.specs.Appending.{Emitted, begun, Appends, opened}

-- the open block ends with a return
abbrev pub finished : Emitted → List Block
finished s = s.blocks ++ record { label = s.label; body = s.body; end = Return } ∷ []

-- how often a number stands in a list
abbrev pub times : ℕ → List ℕ → ℕ
times x [] = 0
times x (y ∷ ys) = (if y == x then 1 else 0) + times x ys

abbrev pub AreOnce : List ℕ → Type 0
AreOnce ls = (x : ℕ) → times x ls ≤ 1

-- A code does operations from its first place on, up to a return. Its labels are the first one and those that the operations open, and its
-- transfers are elementary ones of instructions.
pub record DoesOperations (d : RawDescription) (m : Fixed) (label : ℕ) (os : List Op) (c : Code) : Type 0 where
  pub last : Place
  pub stands : Stands d.word m (routine_of c) os (record { block = 0; at = 0 }) last
  pub returns : item_at (routine_of c) last ≡ Some (End Returns)
  pub labels : map (λ b. b.label) c.blocks ≡ label ∷ opened os
  pub realised : AreRealised d c
  pub elementary : All (λ b. All (IsElementary d) (transfers_of b)) c.blocks

-- what operations append to one empty block does them, once it is finished, where each label is opened once and the memory is as long as a word says
abbrev pub FinishedDoesOperations : Type 0
FinishedDoesOperations =
    (w : ℕ) (d : RawDescription) (m : Fixed) (label : ℕ) (os : List Op) (s : Emitted) (c : Code) → IsChecked w d → IsWordSize d.word → m.memory < 2 ^ d.word
    → Appends d m (begun label) os s → AreOnce (label ∷ opened os) → c.blocks ≡ finished s → DoesOperations d m label os c
