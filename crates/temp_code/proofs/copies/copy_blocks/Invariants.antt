use Rattle.std.proofs.Common.{◌≡◌, take}
use Rattle.temp_code.proofs.copies.copy_blocks.Given as goal

abbrev pub invariant-loop-block : goal.invariant-loop-block
invariant-loop-block l = l.made ≡ take l.block-index l.blocks
