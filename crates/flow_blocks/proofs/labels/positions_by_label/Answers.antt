use Rattle.std.proofs.Common.{◌≡◌, ℕ, suc, ◌-◌, ◌<◌, length, map, drop, get_or, sym, ap, subst, ◌∙◌, arith}
use Rattle.std.specs.Prelude.{slice_get, nat_eq, Some}
use Rattle.std.specs.Option.{option_map, unwrap_or}
use Rattle.std.specs.HashMap.{get}
use Rattle.std.proofs.lemmas.Option.{slice_get-map, slice_get-get_or}
use Rattle.temp_machine.specs.Machine.{position}
use Rattle.temp_code.specs.Routines.{block_of}
use Rattle.flow_blocks.proofs.FirstLabels.{position_back}
use Rattle.flow_blocks.proofs.labels.positions_by_label.Goals as goal

pub loop-at-preserved : goal.loop-at-preserved
loop-at-preserved c =
    let one : c.loop-at.at ≡ suc (c.loop-at.at - 1) = (let l = c.loop-at-test.true in omega (arith, l)) in
    let within : c.loop-at.at - 1 < length c.args.blocks.now = (let l = c.loop-at-test.true in let m = c.loop-at.invariant.0 in omega (arith, l, m)) in (
      (let m = c.loop-at.invariant.0 in omega (arith, m)),
      λ q. position_back (map block_of c.args.blocks.now) (c.loop-at.at - 1) (length c.args.blocks.now) q (block_of (get_or c.args.blocks.now (c.loop-at.at - 1) c.index-blocks-at.result)) (get nat_eq c.loop-at.first q)
          (get nat_eq c.insert.new.self q)
          (slice_get-map block_of c.args.blocks.now (c.loop-at.at - 1)
          ∙ ap (option_map block_of) (slice_get-get_or c.args.blocks.now (c.loop-at.at - 1) c.index-blocks-at.result within))
          (subst (λ (n : ℕ). unwrap_or (get nat_eq c.loop-at.first q) (length c.args.blocks.now) ≡ position (drop n (map block_of c.args.blocks.now)) q n) one (c.loop-at.invariant.1 q))
          (c.in_ok-insert.ensures.updates.0 q),
    )
