use Rattle.std.proofs.Common.{◌≡◌, ◌∙◌, ◌-◌, List, ap, arith, length, refl, subst, slice_index_or}
use Rattle.std.proofs.lemmas.Option.{slice_get_read}
use Rattle.temp_code.specs.declared.code.Transfer.{Transfer}
use Rattle.flow_live.proofs.Blockwise.{walk_first, walk_more, walk_done}
use Rattle.flow_live.proofs.blocks.go_before_block.Goals as goal

pub loop-at-init : goal.loop-at-init
loop-at-init c =
    let same : length c.as_slice-body.result.now ≡ length c.args.block.now.body = ap length c.as_slice-body.ensures in
    (omega (arith, same), c.go_before_end.ensures.words, λ t r stands. walk_first t r c.args.block.now (length c.as_slice-body.result.now) _ _ (omega (arith, same)) (c.go_before_end.ensures.before t r stands))

pub loop-at-preserved : goal.loop-at-preserved
loop-at-preserved c =
    let one = c.loop-at-test.true in
    let within = c.loop-at.invariant.0 in (
      omega (arith, one, within),
      c.go_before_transfer.ensures.words ∙ c.loop-at.invariant.1,
      λ t r stands. walk_more t r c.args.block.now c.loop-at.at (c.loop-at.at - 1) c.index-body-at.result _ _ _ (omega (arith, one))
          (slice_get_read c.args.block.now.body (length c.args.block.now.body) (c.loop-at.at - 1) c.index-body-at.result refl (omega (arith, one, within))
          (subst (λ (xs : List Transfer). c.index-body-at.result ≡ slice_index_or xs (c.loop-at.at - 1) c.index-body-at.result) c.as_slice-body.ensures c.index-body-at.is))
          (c.loop-at.invariant.2 t r stands) (c.go_before_transfer.ensures.before t r stands),
    )

pub returns-clause-words : goal.returns-clause-words
returns-clause-words c = c.loop-at.invariant.1

pub returns-clause-before : goal.returns-clause-before
returns-clause-before c = λ t r stands. walk_done t r c.args.block.now c.loop-at.at _ _ c.loop-at-test.false (c.loop-at.invariant.2 t r stands)
