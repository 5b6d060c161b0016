-- A code of such blocks.
use Rattle.std.proofs.Common.{◌≡◌, ℕ, zero, suc, false, List, [], ◌∷◌, map, slice_get, Option, Some, None, All, refl, sym, subst, ◌∙◌}
use Rattle.std.specs.List.{list_any, AllZip}
use Rattle.std.proofs.lemmas.List.Elements.{All-nil, All-cons, All-head, All-tail}
use Rattle.rtl_tree.specs.Moves.{Move}
use Rattle.md_rows.specs.declared.description.RawDescription.{RawDescription}
use Rattle.md_shapes.specs.Shapes.{Frame}
use Rattle.temp_machine.specs.Routines.{Routine, Target, block_transfers}
use Rattle.temp_machine.specs.Cells.{is_temporary, mentions}
use Rattle.temp_machine.specs.Live.{Transfer as Stands, item_of}
use Rattle.temp_code.specs.declared.code.Transfer.{Transfer}
use Rattle.temp_code.specs.declared.code.Block.{Block}
use Rattle.temp_code.specs.declared.code.Code.{Code}
use Rattle.temp_code.specs.Realised.{IsRealised, transfers_of}
use Rattle.temp_code.specs.Routines.{routine_of, block_of, exit_of}
use Rattle.color_code.specs.Colors.{Seats}
use Rattle.color_transfer.specs.Code.{IsColoredBlock}
use Rattle.color_graph.specs.Seats.{seats_in}
use Rattle.color_holding.proofs.Members.{same_some}
use Rattle.color_image.specs.Laws.{IsStraightTransfer}
use Rattle.color_image.proofs.Blocks.{Each, each_item}
use Rattle.color_homes.specs.declared.places.Places.{Places}
use Rattle.color_homes.specs.Putting.{target_in}
use Rattle.reg_color.specs.Codes.{HasSameCall, IsColoredCode}
use Rattle.reg_color.specs.Putting.{IsBlock}
use Rattle.reg_color.proofs.Bodies.{what}
use Rattle.reg_color.proofs.Endings.{neither}

module _ (d : RawDescription) (p : Places) where
  abbrev t : Target
  t = target_in d p

  abbrev r : Routine
  r = routine_of p.code.now

  abbrev seats : Seats
  seats = seats_in p.seats.now

  blocks_colored : (bs cs : List Block) → AllZip (IsBlock d p) bs cs → AllZip (IsColoredBlock t r seats) (map block_of bs) (map block_of cs)
  blocks_colored [] [] h = tt
  blocks_colored (b ∷ bs) (c ∷ cs) h = (h.0.block, blocks_colored bs cs h.1)
  blocks_colored [] (c ∷ cs) h = absurd h
  blocks_colored (b ∷ bs) [] h = absurd h

  blocks_realised : (bs cs : List Block) → AllZip (IsBlock d p) bs cs → All (λ b. All (IsRealised d) (transfers_of b)) cs
  blocks_realised [] [] h = All-nil (λ (b : Block). All (IsRealised d) (transfers_of b))
  blocks_realised (b ∷ bs) (c ∷ cs) h = All-cons (λ (b : Block). All (IsRealised d) (transfers_of b)) c cs h.0.realised (blocks_realised bs cs h.1)
  blocks_realised [] (c ∷ cs) h = absurd h
  blocks_realised (b ∷ bs) [] h = absurd h

  blocks_plain : (bs cs : List Block) → AllZip (IsBlock d p) bs cs → list_any (λ b. list_any (mentions is_temporary) (block_transfers b)) (map block_of cs) ≡ false
  blocks_plain [] [] h = refl
  blocks_plain (b ∷ bs) (c ∷ cs) h =
      neither (list_any (mentions is_temporary) (block_transfers (block_of c))) (list_any (λ b. list_any (mentions is_temporary) (block_transfers b)) (map block_of cs)) h.0.plain
      (blocks_plain bs cs h.1)
  blocks_plain [] (c ∷ cs) h = absurd h
  blocks_plain (b ∷ bs) [] h = absurd h

  blocks_call : (bs cs : List Block) → AllZip (IsBlock d p) bs cs → AllZip HasSameCall bs cs
  blocks_call [] [] h = tt
  blocks_call (b ∷ bs) (c ∷ cs) h = (h.0.calls, blocks_call bs cs h.1)
  blocks_call [] (c ∷ cs) h = absurd h
  blocks_call (b ∷ bs) [] h = absurd h

  each_straight : (xs : List Transfer) → All (λ x. IsStraightTransfer t x.what) xs → Each (IsStraightTransfer t) (map what xs)
  each_straight [] h = tt
  each_straight (x ∷ xs) h = (All-head (λ (x : Transfer). IsStraightTransfer t x.what) x xs h, each_straight xs (All-tail (λ (x : Transfer). IsStraightTransfer t x.what) x xs h))

  blocks_straight : (bs cs : List Block) → AllZip (IsBlock d p) bs cs → (k i : ℕ) (ms : List Move) → item_of (slice_get (map block_of cs) k) i ≡ Some (Stands ms) → IsStraightTransfer t ms
  blocks_straight [] [] h k i ms e = absurd (let n : None ≡ Some (Stands ms) = e in cc)
  blocks_straight (b ∷ bs) (c ∷ cs) h zero i ms e = each_item (IsStraightTransfer t) (map what c.body) (exit_of c.end) i ms (each_straight c.body h.0.straight) e
  blocks_straight (b ∷ bs) (c ∷ cs) h (suc k) i ms e = blocks_straight bs cs h.1 k i ms e
  blocks_straight [] (c ∷ cs) h k i ms e = absurd h
  blocks_straight (b ∷ bs) [] h k i ms e = absurd h

  module _ (made : Code) (function : made.function ≡ p.code.now.function) (params : made.params ≡ p.code.now.params) (frame : made.frame ≡ p.code.now.frame)
      (first_home : made.first_home ≡ p.code.now.first_home) (slots : made.slots ≡ p.code.now.slots) (homes : made.homes ≡ p.code.now.homes)
      (blocks : AllZip (IsBlock d p) p.code.now.blocks made.blocks) where
    pub code_colored : IsColoredCode d t seats p.code.now made
    code_colored =
        record {
          function = function;
          routine =
              record {
                params = params;
                frame = frame;
                first_home = first_home;
                slots = slots;
                homes = homes;
                blocks = blocks_colored p.code.now.blocks made.blocks blocks;
                plain = blocks_plain p.code.now.blocks made.blocks blocks;
              };
          realised = blocks_realised p.code.now.blocks made.blocks blocks;
          straight = λ at ms e s. blocks_straight p.code.now.blocks made.blocks blocks at.block at.at ms e;
          calls = blocks_call p.code.now.blocks made.blocks blocks;
        }

-- the frame that the table of rows has is the description's
pub for_frames : (P : Frame → Type 0) (o : Option Frame) (f : Frame) → o ≡ Some f → P f → (frame : Frame) → o ≡ Some frame → P frame
for_frames P o f e h frame is = subst P (same_some f frame (sym e ∙ is)) h
