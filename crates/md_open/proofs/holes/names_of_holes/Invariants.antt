use Rattle.std.proofs.Common.{◌≡◌, ◌++◌, length}
use Rattle.rtl_text.specs.Seen.{tokens_of}
use Rattle.md_text.specs.Forms.{hole_names}
use Rattle.md_open.proofs.holes.names_of_holes.Given as goal

abbrev pub invariant-loop-rest : goal.invariant-loop-rest
invariant-loop-rest l = l.names ++ hole_names (tokens_of l.rest) ≡ hole_names (tokens_of l.tokens)

abbrev pub decreases-loop-rest : goal.decreases-loop-rest
decreases-loop-rest l = length l.rest
