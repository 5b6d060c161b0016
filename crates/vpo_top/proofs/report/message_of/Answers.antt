use Rattle.vpo_top.proofs.report.message_of.Goals as goal

pub returns : goal.returns
returns c =
    simp (c.push_str-2.ensures.bytes, c.push_complaint.ensures.text, c.push_str.ensures.bytes, c.new-line.ensures)
