use Rattle.std.proofs.Common.{◌≤◌, length, arith, subst}
use Rattle.std.proofs.lemmas.List.{take_rest}
use Rattle.std.proofs.lemmas.List.{length-drop}
use Rattle.vp_io.proofs.Bytes.{appends_more}
use Rattle.vp_io.proofs.writing.write_whole.Goals as goal

pub loop-at-preserved : goal.loop-at-preserved
loop-at-preserved g c =
    let rest = take_rest c.args.from.now c.loop-at.at in
    let bound = subst (λ l. c.in_ok-at.field-0 ≤ length l) rest c.in_ok-at.ensures.bound in
    record {
      within = omega (arith, bound, c.loop-at.invariant.within, length-drop c.loop-at.at c.args.from.now);
      bytes = appends_more _ _ _ _ _ c.args.from.now _ rest c.loop-at.invariant.bytes c.in_ok-at.ensures.bytes;
      later = omega (arith, c.loop-at.invariant.later, c.in_ok-at.ensures.cause.later);
    }
