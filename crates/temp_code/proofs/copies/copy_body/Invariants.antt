use Rattle.std.proofs.Common.{◌≡◌, take}
use Rattle.temp_code.proofs.copies.copy_body.Given as goal

abbrev pub invariant-loop-transfer : goal.invariant-loop-transfer
invariant-loop-transfer l = l.made ≡ take l.transfer-index l.body
