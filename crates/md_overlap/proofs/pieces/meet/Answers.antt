use Rattle.md_overlap.proofs.Exact.{share_meet, meet_share}
use Rattle.md_overlap.proofs.pieces.meet.Goals as goal

pub returns : goal.returns
returns c =
    let a = c.args in (
      λ h. share_meet a.registers.now a.holes.now a.piece.now a.others.now a.other.now c.requires.ranges c.requires.other_ranges (c.share.ensures.0 h),
      λ m. c.share.ensures.1 (meet_share a.registers.now a.holes.now a.piece.now a.others.now a.other.now c.requires.names m.token m.left m.right),
    )
