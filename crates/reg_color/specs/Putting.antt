-- Blocks whose temporaries are put into registers and homes.
use Rattle.std.specs.Prelude.{◌≡◌, ◌↔◌, false, List, ◌++◌, map, All}
use Rattle.std.specs.List.{list_any}
use Rattle.md_rows.specs.declared.description.RawDescription.{RawDescription}
use Rattle.temp_machine.specs.Routines.{exit_transfers, block_transfers}
use Rattle.temp_machine.specs.Cells.{is_temporary, mentions}
use Rattle.temp_machine.specs.Tidy.{sets_temporary}
use Rattle.temp_code.specs.declared.code.Transfer.{Transfer}
use Rattle.temp_code.specs.declared.code.End.{End}
use Rattle.temp_code.specs.declared.code.End.TheVariants.{Fall, Jump, Branch, Call, Return}
use Rattle.temp_code.specs.declared.code.Block.{Block}
use Rattle.temp_code.specs.Realised.{IsRealised, end_transfers, transfers_of}
use Rattle.temp_code.specs.Routines.{routine_of, exit_of, block_of}
use Rattle.color_transfer.specs.Colored.{IsColored}
use Rattle.color_transfer.specs.Code.{AreColored, IsColoredExit, IsColoredBlock}
use Rattle.color_graph.specs.Seats.{seats_in}
use Rattle.color_image.specs.Laws.{IsStraightTransfer}
use Rattle.color_homes.specs.declared.places.Places.{Places}
use Rattle.color_homes.specs.Putting.{MayBePut, IsPlainStep, target_in}
use Rattle.reg_color.specs.Codes.{HasSameCall}

module _ (d : RawDescription) (p : Places) where
  -- ---- what is asked

  -- of a transfer of a body
  pub record MayStand (x : Transfer) : Type 0 where
    pub realised : IsRealised d x
    pub may : MayBePut (target_in d p) (routine_of p.code.now) (seats_in p.seats.now) x.what
    pub straight : IsStraightTransfer (target_in d p) x.what

  -- of a jump or a branch
  pub record MayJump (x : Transfer) : Type 0 where
    pub realised : IsRealised d x
    pub may : MayBePut (target_in d p) (routine_of p.code.now) (seats_in p.seats.now) x.what
    pub sets : sets_temporary x.what ≡ false

  pub record MayCall (x : Transfer) : Type 0 where
    pub realised : IsRealised d x
    pub plain : mentions is_temporary x.what ≡ false

  abbrev pub MayEnd : End → Type 0
  MayEnd Fall = Unit {0}
  MayEnd (Jump x) = MayJump x
  MayEnd (Branch x) = MayJump x
  MayEnd (Call x) = MayCall x
  MayEnd Return = Unit {0}

  pub record MayBeBlock (b : Block) : Type 0 where
    pub body : All MayStand b.body
    pub end : MayEnd b.end

  -- ---- what is given

  -- what is put behind a body for a transfer: transfers of instructions that name no temporary, and neither jump nor move the stack
  pub record StandsFor (x : Transfer) (before after : List Transfer) : Type 0 where
    pub added : List Transfer
    pub is : after ≡ before ++ added
    pub colored : IsColored (target_in d p) (routine_of p.code.now) (seats_in p.seats.now) x.what (map (λ y. y.what) added)
    pub each : All (IsPlainStep d (target_in d p)) added

  -- and for several
  pub record StandFor (xs before after : List Transfer) : Type 0 where
    pub added : List Transfer
    pub is : after ≡ before ++ added
    pub colored : AreColored (target_in d p) (routine_of p.code.now) (seats_in p.seats.now) (map (λ y. y.what) xs) (map (λ y. y.what) added)
    pub each : All (IsPlainStep d (target_in d p)) added

  -- an end in place of another one, and loads before it, which are put behind the body
  pub record EndsWith (old : End) (before after : List Transfer) (new : End) : Type 0 where
    pub loads : List Transfer
    pub is : after ≡ before ++ loads
    pub exit : IsColoredExit (target_in d p) (routine_of p.code.now) (seats_in p.seats.now) (exit_of old) (map (λ x. x.what) loads) (exit_of new)
    pub each : All (IsPlainStep d (target_in d p)) loads
    pub realised : All (IsRealised d) (end_transfers new)
    pub plain : list_any (mentions is_temporary) (exit_transfers (exit_of new)) ≡ false
    pub calls : (x : Transfer) → (new ≡ Call x) ↔ (old ≡ Call x)

  pub record IsBlock (old new : Block) : Type 0 where
    pub block : IsColoredBlock (target_in d p) (routine_of p.code.now) (seats_in p.seats.now) (block_of old) (block_of new)
    pub realised : All (IsRealised d) (transfers_of new)
    pub plain : list_any (mentions is_temporary) (block_transfers (block_of new)) ≡ false
    pub straight : All (λ x. IsStraightTransfer (target_in d p) x.what) new.body
    pub calls : HasSameCall old new
