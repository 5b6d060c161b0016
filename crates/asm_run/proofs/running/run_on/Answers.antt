use Rattle.std.proofs.Common.{subst, []}
use Rattle.md_check.specs.Checking.{IsChecked}
use Rattle.asm_run.proofs.running.run_on.Goals as goal

pub load-requires : goal.load-requires
load-requires g c = record {
  loadable =
      c.texts_are_loadable.ensures _ _ _ _ (subst (λ d. IsChecked g.W.Word.BITS d) c.raw.ensures.description c.raw.ensures.checked)
      c.in_ok-program.ensures.text;
}

pub returns-clause-ran : goal.returns-clause-ran
returns-clause-ran g c =
    let from = c.run.ensures.from_start _ c.in-Ok.ensures in
    record { program = c.in_ok-program.program; is_text = c.in_ok-program.ensures.text; input = from.input; all = from.all; runs = from.runs }

pub returns-clause-taken : goal.returns-clause-taken
returns-clause-taken g c =
    let ran = c.run.ensures.ran c.in-Ok.ensures.stopped _ c.in-Ok.ensures.code [] [] 0 c.in-Ok.ensures.run in (ran.bytes, ran.consumes)
