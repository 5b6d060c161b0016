use Rattle.std.proofs.Common.{List, ◌++◌, sym, subst}
use Rattle.temp_code.specs.declared.code.Block.{Block}
use Rattle.reg_color.proofs.Endings.{ArePut, blocks_next, blocks_done}
use Rattle.reg_color.proofs.blocks.blocks_of.Goals as goal

pub loop-block-init : goal.loop-block-init
loop-block-init g c more put = subst (λ (ys : List Block). ArePut c.args.m.now c.args.p.now c.args.blocks.now (ys ++ more)) (sym c.new-made.ensures) put

pub loop-block-preserved : goal.loop-block-preserved
loop-block-preserved g c more put =
    subst (λ (ys : List Block). ArePut c.args.m.now c.args.p.now c.args.blocks.now (ys ++ more)) (sym c.in_ok-push.ensures.ok)
    (blocks_next c.args.m.now c.args.p.now c.args.blocks.now c.loop-block.block-index c.block-item.result c.in_ok-block_of.field-0 c.loop-block.made c.loop-block-test.true c.block-item.is
    c.loop-block.invariant c.in_ok-block_of.ensures more put)

pub returns : goal.returns
returns g c =
    blocks_done c.args.m.now c.args.p.now c.args.blocks.now c.loop-block.made c.loop-block.block-index
    c.loop-block-test.false c.loop-block.invariant
