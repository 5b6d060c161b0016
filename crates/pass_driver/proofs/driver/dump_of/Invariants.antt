use Rattle.std.proofs.Common.{◌≡◌, ◌++◌, drop, map}
use Rattle.pass_driver.proofs.driver.dump_of.Given as goal

abbrev pub invariant-loop-code : goal.invariant-loop-code
invariant-loop-code l = map (λ part. part.code) l.parts ++ drop l.code-index l.codes ≡ l.codes
