use Rattle.std.proofs.Common.{List, [], drop}
use Rattle.temp_code.specs.declared.code.Transfer.{Transfer}
use Rattle.reg_color.specs.Putting.{StandFor}
use Rattle.reg_color.proofs.blocks.body_of.Given as goal

abbrev pub invariant-loop-x : goal.invariant-loop-x
invariant-loop-x g l = (after : List Transfer) → StandFor l.m l.p (drop l.x-index l.body) l.made after → StandFor l.m l.p l.body [] after
