use Rattle.std.proofs.Common.{◌≡◌, ℕ, length, refl, subst, arith}
use Rattle.std.proofs.lemmas.Option.{slice_get_read}
use Rattle.color_graph.specs.Sharing.{Parts}
use Rattle.color_graph.specs.Meeting.{MeetsWithin}
use Rattle.color_graph.proofs.Falling.{blocks_next}
use Rattle.color_graph.proofs.walking.part_blocks.Goals as goal

pub loop-at-preserved : goal.loop-at-preserved
loop-at-preserved c =
    blocks_next c.loop-at.at c.args.blocks.now c.index-blocks-at.result c.args.live.now c.args.rows.now.items c.loop-at.rows.items c.part_block.new.rows.items
    (slice_get_read c.args.blocks.now (length c.args.blocks.now) c.loop-at.at c.index-blocks-at.result refl c.loop-at-test.true c.index-blocks-at.is)
    c.in_ok-part_block.ensures.count c.in_ok-part_block.ensures.parts c.loop-at.invariant

pub returns-clause-parts : goal.returns-clause-parts
returns-clause-parts c = λ t r live is.
    subst (λ (n : ℕ). Parts (length r.homes) (MeetsWithin n t r) c.args.rows.now.items c.loop-at.rows.items) all (c.loop-at.invariant.parts t r live is)
  where
    all : c.loop-at.at ≡ length c.args.blocks.now
    all = let l = c.loop-at-test.false in let m = c.loop-at.auto.at-end in omega (arith, l, m)
