use Rattle.std.proofs.Common.{◌≡◌, drop}
use Rattle.rtl_spelling.specs.Holes.{leaf_named}
use Rattle.rtl_token.proofs.leaves.leaf_named.Given as goal

abbrev pub invariant-loop-hole : goal.invariant-loop-hole
invariant-loop-hole l = leaf_named (drop l.hole-index l.holes) l.name ≡ leaf_named l.holes l.name
