use Rattle.std.proofs.Common.{length}
use Rattle.md_check.proofs.shapes.+branch_on_all.Given as goal

abbrev pub decreases-branch_on_all : goal.decreases-branch_on_all
decreases-branch_on_all g l = length l.relations.now
