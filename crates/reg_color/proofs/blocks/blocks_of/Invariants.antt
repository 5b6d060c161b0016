use Rattle.std.proofs.Common.{List, ◌++◌, drop}
use Rattle.temp_code.specs.declared.code.Block.{Block}
use Rattle.reg_color.proofs.Endings.{ArePut}
use Rattle.reg_color.proofs.blocks.blocks_of.Given as goal

abbrev pub invariant-loop-block : goal.invariant-loop-block
invariant-loop-block g l = (more : List Block) → ArePut l.m l.p (drop l.block-index l.blocks) more → ArePut l.m l.p l.blocks (l.made ++ more)
