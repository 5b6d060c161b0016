use Rattle.std.proofs.Common.{◌≡◌, ◌+◌, ℕ, length, drop, sym, subst, arith}
use Rattle.asm_print.specs.Printable.{labelled}
use Rattle.frame_link.proofs.Labels.{counts_function, counts_other}
use Rattle.frame_link.proofs.conditions.function_count.Goals as goal
use Rattle.frame_link.proofs.conditions.function_count.Goals.{in-Function, in_default}

pub loop-label-preserved : goal.loop-label-preserved
loop-label-preserved c =
    let labels = c.args.labels.now in
    let i = c.loop-label.label-index in
    let all = length (labelled labels) in
    elim c.match-label.branch [
      | in-Function w ↦
          record {
            few = (let m = c.loop-label.invariant.few in let e = w.count-is in omega (arith, m, e));
            sum =
                subst (λ (n : ℕ). n + length (labelled (drop (i + 1) labels)) ≡ all) (sym w.count-is)
                (counts_function labels i _ c.loop-label-test.true c.loop-label.count all c.loop-label.invariant.sum w.in-Function.field-0 w.in-Function.is);
          }
      | in_default w ↦
          record {
            few = (let m = c.loop-label.invariant.few in let e = w.count-is in omega (arith, m, e));
            sum =
                subst (λ (n : ℕ). n + length (labelled (drop (i + 1) labels)) ≡ all) (sym w.count-is)
                (counts_other labels i _ c.loop-label-test.true c.loop-label.count all c.loop-label.invariant.sum w.in_default.not-Function);
          }
    ]
