use Rattle.std.proofs.Common.{sym, ◌∙◌}
use Rattle.rtl_norm.proofs.Finish.{turn_fits, turn_same, turn_lighter, turn_last}
use Rattle.rtl_simplify.proofs.steps.settle.Goals as goal

pub steps-smaller : goal.steps-smaller
steps-smaller g c = turn_lighter _ _ _ (sym c.apply.ensures.done ∙ c.steps-test.true) c.apply.ensures.left

pub steps-preserved : goal.steps-preserved
steps-preserved g c =
    let h = sym c.apply.ensures.done ∙ c.steps-test.true in
    record {
      fits = turn_fits _ _ _ g.met.W.Word.sizes h c.apply.ensures.left c.steps.invariant.fits;
      same = turn_same _ _ _ h c.apply.ensures.left ∙ c.steps.invariant.same;
    }

pub returns : goal.returns
returns g c = turn_last _ _ _ (sym c.apply.ensures.done ∙ c.steps-test.false) c.apply.ensures.left ∙ c.steps.invariant.same
