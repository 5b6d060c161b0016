-- A transfer without its assignments to flags that nobody reads.
use Rattle.std.specs.Prelude.{◌≡◌, ◌⊎◌, ℕ, Bool, true, List, filter, Ok}
use Rattle.rtl_tree.specs.declared.cells.Cell.{Cell}
use Rattle.rtl_tree.specs.declared.cells.Cell.TheVariants.{Flag}
use Rattle.rtl_tree.specs.declared.cells.Lab.{Lab}
use Rattle.rtl_tree.specs.Moves.{Goal, ToCell, Move}
use Rattle.rtl_effect.specs.Views.{View}
use Rattle.rtl_effect.specs.Effects.{Done, effect}
use Rattle.temp_machine.specs.Cells.{reads, reads_beside_flags, reads_for_flag}

abbrev pub is_wanted : (ℕ → Bool) → Goal → Bool
is_wanted wanted (ToCell (Flag n)) = wanted n
is_wanted wanted _ = true

-- what is left of a transfer where only these flags are wanted
abbrev pub core : (ℕ → Bool) → List Move → List Move
core wanted ms = filter (λ m. is_wanted wanted m.to) ms

-- what was done is the same, but for flags that aren't wanted
pub record IsSameBeside (wanted : ℕ → Bool) (d e : Done) : Type 0 where
  pub cells : (c : Cell) → e.view.cells c ≡ d.view.cells c
  pub flags : (n : ℕ) → wanted n ≡ true → e.view.flags n ≡ d.view.flags n
  pub size : e.view.size ≡ d.view.size
  pub bytes : (a : ℕ) → e.view.bytes a ≡ d.view.bytes a
  pub reach : (a : ℕ) → e.view.reach a ≡ d.view.reach a
  pub symbols : (n : ℕ) → e.view.symbols n ≡ d.view.symbols n
  pub labels : (l : Lab) → e.view.labels l ≡ d.view.labels l
  pub targets : (l : Lab) → e.view.targets l ≡ d.view.targets l
  pub places : (n : ℕ) → e.view.places n ≡ d.view.places n
  pub input : e.view.input ≡ d.view.input
  pub place : e.place ≡ d.place
  pub output : e.output ≡ d.output
  pub halt : e.halt ≡ d.halt

-- where a transfer is done, its core does the same
abbrev pub CoreDoes : Type 0
CoreDoes =
    (w : ℕ) (wanted : ℕ → Bool) (ms : List Move) (v : View) (d : Done) → effect w ms v ≡ Ok d
    → (e : Done) × (effect w (core wanted ms) v ≡ Ok e) × IsSameBeside wanted d e

-- and what the core reads, the transfer reads beside its flags, or for a flag that is wanted
abbrev pub CoreReads : Type 0
CoreReads =
    (wanted : ℕ → Bool) (c : Cell) (ms : List Move) → reads c (core wanted ms) ≡ true
    → (reads_beside_flags c ms ≡ true) ⊎ ((n : ℕ) × (wanted n ≡ true) × (reads_for_flag n c ms ≡ true))
