use Rattle.pass_driver.proofs.Coloring.{IsLeft}
use Rattle.pass_driver.proofs.driver.all_coloured.Given as goal

abbrev pub invariant-loop-code : goal.invariant-loop-code
invariant-loop-code g l = IsLeft l.m l.codes l.code-index l.made
