use Rattle.std.proofs.Common.{subst, length, ◌≤◌}
use Rattle.md_covers.proofs.Decide.{seen}
use Rattle.md_covers.proofs.covering.covers_row.Goals as goal

pub covers_pattern-requires : goal.covers_pattern-requires
covers_pattern-requires c =
    seen (record { bits = c.args.bits; general = c.args.general; holes = c.holes_of-holes.result; row = c.normal_of-row.result })
    c.args.r.now.holes c.args.r.now.effects c.args.r.now.normal c.requires.size
    c.holes_of-holes.ensures c.normal_of-row.ensures.moves c.requires.few
    (subst (λ x. length x ≤ 6) c.normal_of-row.ensures.moves c.normal_of-row.ensures.few) c.requires.row.effects c.requires.row.normal
