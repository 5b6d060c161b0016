use Rattle.std.proofs.Common.{length}
use Rattle.md_row_rules.proofs.transfers.+is_once.Given as goal

abbrev pub decreases-is_once : goal.decreases-is_once
decreases-is_once l = length l.list.now
