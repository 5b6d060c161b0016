-- What a transfer with registers in place of its temporaries does.
use Rattle.std.specs.Prelude.{◌≡◌, ◌≢◌, ℕ, true, false, List, Result, Ok, Err}
use Rattle.rtl_tree.specs.declared.cells.Cell.TheVariants.{Hard, Temp}
use Rattle.rtl_tree.specs.Moves.{Move}
use Rattle.rtl_effect.specs.Views.{Stop, View}
use Rattle.rtl_effect.specs.Effects.{Done, effect}
use Rattle.temp_machine.specs.Cells.{sets, is_temporary, mentions}
use Rattle.color_renaming.specs.Renaming.{with_registers, with_temporaries}

-- what the transfer sets is in different registers
pub record IsSeparate (register : ℕ → ℕ) (ms : List Move) : Type 0 where
  pub temps : (j k : ℕ) → sets (Temp j) ms ≡ true → sets (Temp k) ms ≡ true → register j ≡ register k → j ≡ k
  pub registers : (n k : ℕ) → sets (Hard n) ms ≡ true → sets (Temp k) ms ≡ true → register k ≢ n

-- no temporary that the transfer sets is in the register
abbrev pub IsSpared : (ℕ → ℕ) → List Move → ℕ → Type 0
IsSpared register ms n = (k : ℕ) → sets (Temp k) ms ≡ true → register k ≢ n

-- what was done with temporaries, and the same with registers
pub record IsSameRenamed (register : ℕ → ℕ) (ms : List Move) (d e : Done) : Type 0 where
  pub temps : (k : ℕ) → sets (Temp k) ms ≡ true → e.view.cells (Hard (register k)) ≡ d.view.cells (Temp k)
  pub registers : (n : ℕ) → IsSpared register ms n → e.view.cells (Hard n) ≡ d.view.cells (Hard n)
  pub flags : (n : ℕ) → e.view.flags n ≡ d.view.flags n
  pub bytes : (a : ℕ) → e.view.bytes a ≡ d.view.bytes a
  pub input : e.view.input ≡ d.view.input
  pub place : e.place ≡ d.place
  pub output : e.output ≡ d.output
  pub halt : e.halt ≡ d.halt

-- both stop alike, or both do the same
pub data IsRenamedEffect (register : ℕ → ℕ) (ms : List Move) : Result Done Stop → Result Done Stop → Type 0 where
  both_stop : (s : Stop) → IsRenamedEffect register ms (Err s) (Err s)
  both_do : (d e : Done) → IsSameRenamed register ms d e → IsRenamedEffect register ms (Ok d) (Ok e)

-- with registers a transfer does what it does with temporaries, where these hold what the registers do
abbrev pub RenamedDoes : Type 0
RenamedDoes =
    (w : ℕ) (register : ℕ → ℕ) (ms : List Move) (v : View) → IsSeparate register ms
    → IsRenamedEffect register ms (effect w ms (with_temporaries register v)) (effect w (with_registers register ms) v)

-- no temporary is left in it
abbrev pub RenamedIsPlain : Type 0
RenamedIsPlain = (register : ℕ → ℕ) (ms : List Move) → mentions is_temporary (with_registers register ms) ≡ false
