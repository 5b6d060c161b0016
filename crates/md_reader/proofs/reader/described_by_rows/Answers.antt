use Rattle.std.proofs.Common.{sym, subst, arith}
use Rattle.std.specs.Prelude.{All}
use Rattle.md_text.specs.Expansion.{expansions}
use Rattle.md_text.specs.Accepted.{BadTransfer, TooLarge, TooMany}
use Rattle.md_forms.specs.Seen.{declared_of}
use Rattle.md_rules.specs.Broken.{IsFirst}
use Rattle.md_expand.specs.Expanded.{AllExpanded}
use Rattle.md_expand.specs.Limits.{IsWithinLimits}
use Rattle.md_expand.proofs.RowLimits.{kept_within_limits}
use Rattle.md_reader.proofs.InRange.{in_range}
use Rattle.md_reader.proofs.Lists.{all_rows}
use Rattle.md_reader.proofs.reader.described_by_rows.Goals as goal

pub described-requires-clause-in_range : goal.described-requires-clause-in_range
described-requires-clause-in_range c = in_range (declared_of c.args.declared.now) c.requires.kept

pub described-requires-clause-rows : goal.described-requires-clause-rows
described-requires-clause-rows c =
    let d = declared_of c.args.declared.now in
    let first = subst (IsFirst 10 15 d) c.in-None.is c.in_ok-told.ensures in
    subst (AllExpanded (expansions d.width d.all)) (sym c.deref-in-None.ensures.value)
    (all_rows d c.in_ok-rows.rows.items (λ line b. first TooMany line (omega arith) (omega arith) b) c.in_ok-rows.ensures)

pub described-requires-clause-limits : goal.described-requires-clause-limits
described-requires-clause-limits c =
    let d = declared_of c.args.declared.now in
    let first = subst (IsFirst 10 15 d) c.in-None.is c.in_ok-told.ensures in
    subst (All IsWithinLimits) (sym c.deref-in-None.ensures.value)
    (kept_within_limits d c.in_ok-rows.rows.items c.in_ok-rows.ensures
    (λ line b. first BadTransfer line (omega arith) (omega arith) b)
    (λ line b. first TooLarge line (omega arith) (omega arith) b)
    (λ line b. first TooMany line (omega arith) (omega arith) b))
