use Rattle.flow_live.proofs.Keeping.{KeepsTo}
use Rattle.flow_live.proofs.rows.keep_words.Given as goal

abbrev pub invariant-loop-i : goal.invariant-loop-i
invariant-loop-i l = KeepsTo l.i l.initial.words l.other l.words l.fell
