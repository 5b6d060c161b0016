-- What is asked of a transfer at a place, by tables of what is live before it and behind it.
use Rattle.std.specs.Prelude.{◌≡◌, ◌≢◌, ◌⊎◌, ℕ, ◌<◌, Bool, true, false, List, [], ◌∷◌, slice_index, Some, None, All}
use Rattle.rtl_tree.specs.declared.cells.Cell.{Cell}
use Rattle.rtl_tree.specs.declared.cells.Cell.TheVariants.{Hard, Temp, Flag}
use Rattle.rtl_tree.specs.Same.{same_cell}
use Rattle.rtl_tree.specs.Moves.{Move}
use Rattle.rtl_norm.specs.Transfers.{IsMoveFitting}
use Rattle.md_filled.specs.Doing.{DoesAs}
use Rattle.temp_machine.specs.Routines.{Routine, Target}
use Rattle.temp_machine.specs.Cells.{reads, sets, mentions, reads_beside_flags, reads_for_flag, has_temporaries}
use Rattle.color_code.specs.Colors.{Seats}
use Rattle.color_renaming.specs.Renaming.{with_registers}
use Rattle.color_cores.specs.Cores.{core}
use Rattle.color_transfer.specs.Colored.{Stands}
use Rattle.color_holding.specs.Holding.{is_free}

-- a table holds before a transfer at least what is live there, by what it holds behind the transfer
pub record IsLiveBefore (ms : List Move) (before later : Cell → Bool) : Type 0 where
  pub read : (c : Cell) → reads_beside_flags c ms ≡ true → before c ≡ true
  pub for_flag : (c : Cell) (n : ℕ) → later (Flag n) ≡ true → reads_for_flag n c ms ≡ true → before c ≡ true
  pub kept : (c : Cell) → sets c ms ≡ false → later c ≡ true → before c ≡ true

-- two temporaries share neither a register nor a home
pub record IsApart (seats : Seats) (r : Routine) (j k : ℕ) : Type 0 where
  pub registers : (c : ℕ) → seats j ≡ Some c → seats k ≢ Some c
  pub homes : seats j ≡ None → seats k ≡ None → slice_index r.homes j ≢ slice_index r.homes k

-- a temporary of the routine, with its home
pub record IsOf (r : Routine) (k : ℕ) : Type 0 where
  pub stands : has_temporaries r ≡ true
  pub home : slice_index r.homes k < r.slots

-- each register that holds a temporary is general
abbrev pub AreGeneral : Target → Seats → Type 0
AreGeneral t seats = (k c : ℕ) → seats k ≡ Some c → t.general c ≡ true

-- what a transfer assigns to flags that nobody wants behind it traps only where the rest does, with whatever registers
abbrev pub IsQuiet : ℕ → (Cell → Bool) → List Move → Type 0
IsQuiet w later ms = (register : ℕ → ℕ) → DoesAs w (with_registers register (core (λ n. later (Flag n)) ms)) (with_registers register ms)

-- A transfer of the code, and what is made for it: in a body the transfer, at an end the transfer with its jump in normal form.
pub record IsMadeFor (ms made : List Move) : Type 0 where
  pub reads : (k : ℕ) → reads (Temp k) made ≡ true → reads (Temp k) ms ≡ true
  pub sets : (k : ℕ) → sets (Temp k) made ≡ sets (Temp k) ms

pub record IsPlace (t : Target) (r : Routine) (seats : Seats) (ms made : List Move) (before later : Cell → Bool) : Type 0 where
  pub for : IsMadeFor ms made
  pub live : IsLiveBefore made before later
  pub apart : (j k : ℕ) → j ≢ k → sets (Temp j) ms ≡ true → (sets (Temp k) ms ≡ true) ⊎ (later (Temp k) ≡ true) → IsApart seats r j k
  pub calm_before : (k n : ℕ) → reads (Temp k) ms ≡ true → before (Flag n) ≡ false
  pub calm_after : (k n : ℕ) → sets (Temp k) ms ≡ true → later (Flag n) ≡ false
  pub free : (n : ℕ) → is_free t r n ≡ true → mentions (same_cell (Hard n)) made ≡ false
  pub stack : sets (Hard t.sp) made ≡ false
  pub numbers : All (IsMoveFitting t.word) made
  pub quiet : IsQuiet t.word later made
  pub standing : (k : ℕ) → Stands ms k → IsOf r k
  pub living : (k : ℕ) → later (Temp k) ≡ true → IsOf r k

module _ (t : Target) (r : Routine) (seats : Seats) where
  -- the same of each transfer of a body
  pub data ArePlaces : List (List Move) → (Cell → Bool) → (Cell → Bool) → Type 0 where
    no_place : (later : Cell → Bool) → ArePlaces [] later later
    a_place : (ms : List Move) (rest : List (List Move)) (before middle later : Cell → Bool) → IsPlace t r seats ms ms before middle → ArePlaces rest middle later
        → ArePlaces (ms ∷ rest) before later
