use Rattle.std.proofs.Common.{◌≡◌, ℕ, suc, ◌-◌, ◌<◌, ◌∷◌, List, length, drop, get_or, sym, ap, subst, ◌∙◌, arith}
use Rattle.std.specs.Prelude.{AllPairs}
use Rattle.std.proofs.Math.Seq.{drop-length}
use Rattle.rtl_tree.specs.declared.cells.Lab.TheVariants.{Block}
use Rattle.rtl_value.specs.declared.state.LabelAt.{LabelAt}
use Rattle.frame_link.specs.Tested.{Differ, HoldsLabels}
use Rattle.frame_link.proofs.Labels.{drop_at, holds_more, differ_more}
use Rattle.frame_link.proofs.standing.standing_of.Goals as goal

pub loop-at-init : goal.loop-at-init
loop-at-init c =
    record {
      within = omega arith;
      holds = subst (λ (ys : List LabelAt). HoldsLabels ys c.new-standing.result) (sym (drop-length c.args.labels.now)) c.new-standing.ensures;
      differ = subst (AllPairs Differ) (sym (drop-length c.args.labels.now)) (λ i j d l m. absurd (omega (arith, m)));
    }

pub loop-at-preserved : goal.loop-at-preserved
loop-at-preserved c =
    let labels = c.args.labels.now in
    let k = c.loop-at.at - 1 in
    let one : suc k ≡ c.loop-at.at = (let l = c.loop-at-test.true in omega (arith, l)) in
    let within : k < length labels = (let l = c.loop-at-test.true in let m = c.loop-at.invariant.within in omega (arith, l, m)) in
    let none : LabelAt = record { label = Block 0; at = 0 } in
    let item = get_or labels k none in
    let cut = drop_at labels k none within ∙ ap (λ (n : ℕ). item ∷ drop n labels) one in
    record {
      within = (let m = c.loop-at.invariant.within in omega (arith, m));
      holds = holds_more (drop k labels) (drop c.loop-at.at labels) item cut c.loop-at.standing c.in_ok-standing.standing c.loop-at.invariant.holds c.in_ok-standing.ensures.more;
      differ =
          differ_more (drop k labels) (drop c.loop-at.at labels) item cut c.loop-at.standing c.in_ok-standing.standing c.loop-at.invariant.holds c.in_ok-standing.ensures.more
          c.loop-at.invariant.differ c.in_ok-standing.ensures.is_new;
    }

pub returns-clause-holds : goal.returns-clause-holds
returns-clause-holds c =
    let end : c.loop-at.at ≡ 0 = (let l = c.loop-at-test.false in omega (arith, l)) in
    subst (λ (n : ℕ). HoldsLabels (drop n c.args.labels.now) c.loop-at.standing) end c.loop-at.invariant.holds

pub returns-clause-differ : goal.returns-clause-differ
returns-clause-differ c =
    let end : c.loop-at.at ≡ 0 = (let l = c.loop-at-test.false in omega (arith, l)) in
    subst (λ (n : ℕ). AllPairs Differ (drop n c.args.labels.now)) end c.loop-at.invariant.differ
