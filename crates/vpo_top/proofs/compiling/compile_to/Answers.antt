use Rattle.std.proofs.Common.{refl}
use Rattle.vpo_top.proofs.Compilations.{written_done, written_part, done_judged, write_fault_judged}
use Rattle.vpo_top.proofs.compiling.compile_to.Goals as goal

pub returns-in-Ok-write_whole-clause-answer : goal.returns-in-Ok-write_whole-clause-answer
returns-in-Ok-write_whole-clause-answer g c = record {
  headline = written_done _ _ _ _ _ _ c.in-Ok.ensures.compiled (rw c.deref.ensures.value at c.in-Ok-write_whole.ensures.all);
  judged = done_judged _ _ _ _ c.in-Ok.ensures.compiled;
  possible = refl;
}

pub returns-clause-answer : goal.returns-clause-answer
returns-clause-answer g c = record {
  headline = written_part _ _ _ _ _ _ c.in-Ok.ensures.compiled (rw c.deref.ensures.value at c.in-Err-write_whole.ensures.part);
  judged = write_fault_judged _ _ _ _ c.in-Ok.ensures.compiled;
  possible = tt;
}
