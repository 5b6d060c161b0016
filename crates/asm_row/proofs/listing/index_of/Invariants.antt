use Rattle.asm_row.specs.Index.{AreListed}
use Rattle.asm_row.proofs.listing.index_of.Given as goal

abbrev pub invariant-loop-place : goal.invariant-loop-place
invariant-loop-place l = AreListed l.d l.place l.index
