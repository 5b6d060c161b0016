-- What stands for a transfer when its temporaries are put into registers and homes, with the instructions that make it.
use Rattle.std.specs.Prelude.{◌≡◌, ◌≢◌, ℕ, ◌<◌, true, false, List, [], ◌∷◌, ◌++◌, map, slice_get, Some, All}
use Rattle.rtl_tree.specs.declared.cells.Cell.TheVariants.{Hard, Temp}
use Rattle.rtl_tree.specs.Moves.{Move}
use Rattle.md_rows.specs.declared.description.RawDescription.{RawDescription}
use Rattle.md_shapes.specs.Drawings.{frame_of}
use Rattle.temp_machine.specs.Routines.{Routine, Target}
use Rattle.temp_machine.specs.Cells.{sets, is_temporary, mentions}
use Rattle.temp_machine.specs.Tidy.{is_among}
use Rattle.temp_machine.specs.Whole.{IsFramed}
use Rattle.temp_code.specs.declared.code.Transfer.{Transfer}
use Rattle.temp_code.specs.Realised.{IsRealised}
use Rattle.temp_code.specs.Routines.{routine_of}
use Rattle.temp_shapes.specs.Rows.{AreShapeRows}
use Rattle.temp_laws.specs.Targets.{target_of}
use Rattle.color_code.specs.Colors.{Seats}
use Rattle.color_graph.specs.Seats.{seats_in}
use Rattle.color_registers.specs.Registers.{scratch_of, colors_of}
use Rattle.color_transfer.specs.Colored.{Stands, AreColoredParts}
use Rattle.color_image.specs.Laws.{IsStraightTransfer}
use Rattle.color_homes.specs.declared.places.Places.{Places}

-- each temporary has a home, those that the transfer sets are in different registers, and it sets no general register beside them
pub record MayBePut (t : Target) (r : Routine) (seats : Seats) (ms : List Move) : Type 0 where
  pub homes : (k : ℕ) → Stands ms k → (h : ℕ) × (slice_get r.homes k ≡ Some h) × (h < r.slots)
  pub differ : (j k c : ℕ) → j ≢ k → sets (Temp j) ms ≡ true → sets (Temp k) ms ≡ true → seats j ≡ Some c → seats k ≢ Some c
  pub registers : (n k : ℕ) → t.general n ≡ true → sets (Hard n) ms ≡ true → sets (Temp k) ms ≡ true → ⊥

abbrev pub target_in : RawDescription → Places → Target
target_in d p = target_of d (frame_of d.word p.rows.now.frame) []

-- the rows of the description and its scratch registers, with registers among its colours
pub record ArePlaces (d : RawDescription) (p : Places) : Type 0 where
  pub rows : AreShapeRows d p.rows.now
  pub scratch : p.scratch.now ≡ scratch_of d
  pub colors : (k c : ℕ) → seats_in p.seats.now k ≡ Some c → is_among c (colors_of d) ≡ true
  pub framed : IsFramed (target_in d p) (routine_of p.code.now)

-- the transfer of an instruction, which names no temporary and neither jumps nor moves the stack
pub record IsPlainStep (d : RawDescription) (t : Target) (x : Transfer) : Type 0 where
  pub realised : IsRealised d x
  pub plain : mentions is_temporary x.what ≡ false
  pub straight : IsStraightTransfer t x.what

-- loads, the transfer with registers put in, and stores, each by its instruction
pub record ArePut (d : RawDescription) (t : Target) (r : Routine) (seats : Seats) (x : Transfer) (loads : List Transfer) (middle : Transfer) (stores : List Transfer) : Type 0 where
  pub parts : AreColoredParts t r seats x.what (map (λ y. y.what) loads) middle.what (map (λ y. y.what) stores)
  pub realised : IsRealised d middle
  pub plain : mentions is_temporary middle.what ≡ false
  pub straight : IsStraightTransfer t x.what → IsStraightTransfer t middle.what
  pub before : All (IsPlainStep d t) loads
  pub behind : All (IsPlainStep d t) stores

module _ (d : RawDescription) (p : Places) (x : Transfer) where
  -- all of it is put behind a body
  pub record PutsAll (old new : List Transfer) : Type 0 where
    pub loads : List Transfer
    pub middle : Transfer
    pub stores : List Transfer
    pub put : ArePut d (target_in d p) (routine_of p.code.now) (seats_in p.seats.now) x loads middle stores
    pub is : new ≡ old ++ (loads ++ middle ∷ stores)

  -- the loads are, and the transfer stands at the end; it has no stores
  pub record PutsLoads (middle : Transfer) (old new : List Transfer) : Type 0 where
    pub loads : List Transfer
    pub put : ArePut d (target_in d p) (routine_of p.code.now) (seats_in p.seats.now) x loads middle []
    pub is : new ≡ old ++ loads
