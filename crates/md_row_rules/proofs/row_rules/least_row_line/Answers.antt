use Rattle.std.proofs.Common.{ℕ, ◌+◌, ◌∙◌, ◌≡◌, true, take, sym, ap, subst}
use Rattle.std.specs.declared.option.Option.{Option}
use Rattle.std.specs.declared.option.Option.TheVariants.{Some}
use Rattle.md_rules.specs.Least.{IsLeast}
use Rattle.md_row_rules.specs.RowRules.{HasBrokenAmong}
use Rattle.md_row_rules.proofs.RowLines.{all_taken, one_broken_more, one_whole_more}
use Rattle.md_row_rules.proofs.row_rules.least_row_line.Goals as goal
use Rattle.md_row_rules.proofs.row_rules.least_row_line.Goals.{then-is_broken, else-is_broken}

pub loop-row-preserved : goal.loop-row-preserved
loop-row-preserved c = λ rs a.
    let more = λ (least : Option ℕ). IsLeast (HasBrokenAmong c.args.rule (take (c.loop-row.row-index + 1) rs)) least in
    elim c.if-is_broken.branch [
      | then-is_broken w ↦ subst more (sym (w.least-is ∙ ap Some w.sooner.ensures))
          (one_broken_more c.args.rule rs c.args.rows.now c.loop-row.row-index c.row-item.result c.loop-row.least c.loop-row-test.true c.row-item.is a
          (λ r x. (c.is_broken.ensures r x).0 w.if-is_broken.true) (c.loop-row.invariant rs a))
      | else-is_broken w ↦ subst more (sym w.least-is)
          (one_whole_more c.args.rule rs c.args.rows.now c.loop-row.row-index c.row-item.result c.loop-row.least c.loop-row-test.true c.row-item.is a
          (λ r x b. let yes : c.is_broken.result ≡ true = (c.is_broken.ensures r x).1 b in absurd (cc (yes, w.if-is_broken.false))) (c.loop-row.invariant rs a))
    ]

pub returns : goal.returns
returns c = λ rs a.
    subst (λ xs. IsLeast (HasBrokenAmong c.args.rule xs) c.loop-row.least) (all_taken rs c.args.rows.now c.loop-row.row-index c.loop-row-test.false a)
    (c.loop-row.invariant rs a)
