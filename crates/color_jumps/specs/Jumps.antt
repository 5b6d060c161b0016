-- The value of the program counter in its normal form: with registers, and what is read for it.
use Rattle.std.specs.Prelude.{◌≡◌, ℕ, true, List}
use Rattle.rtl_tree.specs.declared.cells.Cell.{Cell}
use Rattle.rtl_tree.specs.Moves.{Move}
use Rattle.rtl_norm_value.specs.Effect.{with_normal_jump}
use Rattle.temp_machine.specs.Cells.{reads, reads_beside_flags, reads_for_flag}
use Rattle.color_renaming.specs.Renaming.{with_registers}

-- registers may be put in before or afterwards
abbrev pub JumpIsRenamed : Type 0
JumpIsRenamed = (w : ℕ) (register : ℕ → ℕ) (ms : List Move) → with_normal_jump w (with_registers register ms) ≡ with_registers register (with_normal_jump w ms)

-- the normal form reads no cell that the transfer doesn't read
pub record ReadsLess (made ms : List Move) (c : Cell) : Type 0 where
  pub reads : reads c made ≡ true → reads c ms ≡ true
  pub beside_flags : reads_beside_flags c made ≡ true → reads_beside_flags c ms ≡ true
  pub for_flag : (n : ℕ) → reads_for_flag n c made ≡ true → reads_for_flag n c ms ≡ true

abbrev pub JumpReadsLess : Type 0
JumpReadsLess = (w : ℕ) (ms : List Move) (c : Cell) → ReadsLess (with_normal_jump w ms) ms c
