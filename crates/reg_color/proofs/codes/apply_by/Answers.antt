use Rattle.std.proofs.Common.{ℕ, List, [], Option, All, refl, sym, subst, ◌∙◌}
use Rattle.std.specs.List.{AllZip}
use Rattle.md_shapes.specs.Shapes.{Frame}
use Rattle.md_shapes.specs.Drawings.{frame_of}
use Rattle.md_covers.specs.Covers.{frame_in}
use Rattle.temp_code.specs.declared.code.Block.{Block}
use Rattle.temp_code.specs.declared.code.Code.{Code}
use Rattle.temp_laws.specs.Targets.{target_of}
use Rattle.color_graph.specs.Seats.{seats_in, seats_of}
use Rattle.color_homes.specs.declared.places.Places.{Places}
use Rattle.reg_color.specs.Codes.{IsColoredCode, MayBeColored}
use Rattle.reg_color.specs.Putting.{IsBlock, MayBeBlock}
use Rattle.reg_color.proofs.Premises.{blocks_may}
use Rattle.reg_color.proofs.Whole.{code_colored, for_frames}
use Rattle.reg_color.proofs.codes.apply_by.Goals as goal

pub blocks_of-requires-clause-places : goal.blocks_of-requires-clause-places
blocks_of-requires-clause-places g c =
    let d = c.args.m.now in
    let frame = frame_of d.word c.args.rows.now.frame in
    let may = subst (λ (ss : List (Option ℕ)). MayBeColored d (target_of d frame []) (seats_in ss) c.args.c.now) (sym c.as_slice.ensures.value)
    (c.requires.colored frame c.requires.rows.frame) in
    record { rows = c.requires.rows; scratch = c.scratch.ensures ∙ c.in_ok-registers.ensures.scratch; colors = may.coloring.among; framed = may.sound.framed }

pub blocks_of-requires-clause-may : goal.blocks_of-requires-clause-may
blocks_of-requires-clause-may g c =
    let d = c.args.m.now in
    let frame = frame_of d.word c.args.rows.now.frame in
    let p : Places = record { rows = c.args.rows; code = c.args.c; seats = c.as_slice.result; scratch = c.scratch.result } in
    let may = subst (λ (ss : List (Option ℕ)). MayBeColored d (target_of d frame []) (seats_in ss) c.args.c.now) (sym c.as_slice.ensures.value)
    (c.requires.colored frame c.requires.rows.frame) in
    subst (λ (bs : List Block). All (MayBeBlock d p) bs) (sym c.as_slice-2.ensures) (blocks_may d p may)

pub returns : goal.returns
returns g c =
    let d = c.args.m.now in
    let frame = frame_of d.word c.args.rows.now.frame in
    let p : Places = record { rows = c.args.rows; code = c.args.c; seats = c.as_slice.result; scratch = c.scratch.result } in
    let old = c.args.c.now in
    let made : Code = record {
      function = old.function;
      params = old.params;
      frame = old.frame;
      first_home = old.first_home;
      slots = old.slots;
      homes = c.in_ok-homes.homes;
      blocks = c.in_ok-blocks.blocks;
    } in
    for_frames (λ (f : Frame). IsColoredCode d (target_of d f []) (seats_of c.args.k.now) old made) (frame_in d) frame c.requires.rows.frame
    (subst (λ (ss : List (Option ℕ)). IsColoredCode d (target_of d frame []) (seats_in ss) old made) c.as_slice.ensures.value
    (code_colored d p made refl refl refl refl refl (c.in_ok-homes.ensures ∙ c.as_slice-3.ensures)
    (subst (λ (bs : List Block). AllZip (IsBlock d p) bs c.in_ok-blocks.blocks) c.as_slice-2.ensures c.in_ok-blocks.ensures)))
