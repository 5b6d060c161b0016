use Rattle.std.proofs.Common.{◌≡◌, subst, sym, refl, map, ap, rules, ◌∙◌, ◌+◌}
use Rattle.md_lines.specs.Kept.{line_of, IsFirstBadLine}
use Rattle.md_lines.proofs.LinesRead.{ReadTo, unended_bad, line_bad, skipped_read, pushed_read}
use Rattle.md_lines.proofs.lines.read_lines.Goals as goal
use Rattle.md_lines.proofs.lines.read_lines.Goals.{then-not-is_skipped+in_ok-push, else-not-is_skipped}

pub returns-in_default-clause-bad : goal.returns-in_default-clause-bad
returns-in_default-clause-bad c = λ n e.
    subst (IsFirstBadLine c.args.text.now) (let same : c.loop-rest.number ≡ n = cc in same)
    (unended_bad c.args.text.now c.loop-rest.rest.now (map line_of c.loop-rest.kept.items) c.loop-rest.number c.loop-rest.invariant (search rules) c.in_default.ensures.none)

pub returns-then-not-is_good_line-clause-bad : goal.returns-then-not-is_good_line-clause-bad
returns-then-not-is_good_line-clause-bad c = λ n e.
    subst (IsFirstBadLine c.args.text.now) (let same : c.loop-rest.number ≡ n = cc in same)
    (line_bad c.args.text.now c.loop-rest.rest.now c.in-Some.line.now c.in-Some.after.now (map line_of c.loop-rest.kept.items) c.loop-rest.number c.loop-rest.invariant c.in-Some.ensures.found (sym c.if-not-is_good_line.ensures))

pub loop-rest-preserved : goal.loop-rest-preserved
loop-rest-preserved c = elim c.if-not-is_skipped.branch [
  | then-not-is_skipped+in_ok-push w ↦
      pushed_read c.args.text.now c.loop-rest.rest.now c.in-Some.line.now c.in-Some.after.now c.loop-rest.kept.items c.if-not-is_skipped.kept.items _ c.loop-rest.number c.loop-rest.invariant
      c.in-Some.ensures.found (sym c.if-not-is_good_line.ensures) (sym w.if-not-is_skipped.ensures) refl
      (ap (λ v. v.items) w.kept-is ∙ w.in_ok-push.ensures.items)
  | else-not-is_skipped w ↦
      subst (λ v. ReadTo c.args.text.now c.in-Some.after.now (map line_of v.items) (c.loop-rest.number + 1)) (sym w.kept-is)
      (skipped_read c.args.text.now c.loop-rest.rest.now c.in-Some.line.now c.in-Some.after.now (map line_of c.loop-rest.kept.items) c.loop-rest.number c.loop-rest.invariant
      c.in-Some.ensures.found (sym c.if-not-is_good_line.ensures) (sym w.if-not-is_skipped.ensures))
]
