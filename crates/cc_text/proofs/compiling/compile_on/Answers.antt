use Rattle.cc_text.proofs.Judging.{may_be_compiled}
use Rattle.cc_text.proofs.compiling.compile_on.Goals as goal

pub compile-requires : goal.compile-requires
compile-requires g c = may_be_compiled _ _ _ c.in-Ok.ensures.accepted

pub returns-in-Ok-print_text-clause-compiled : goal.returns-in-Ok-print_text-clause-compiled
returns-in-Ok-print_text-clause-compiled g c = record {
  tree = c.in-Ok.tree;
  accepted = c.in-Ok.ensures.accepted;
  program = c.in-Ok-compile.compiled.program;
  is_text = c.in-Ok-print_text.ensures.text;
  same = c.in-Ok-compile.ensures.same;
}
