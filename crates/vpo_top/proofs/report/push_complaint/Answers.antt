use Rattle.std.proofs.Common.{append_assoc}
use Rattle.vpo_top.proofs.report.push_complaint.Goals as goal

pub returns-in-FileTooLong-clause-text : goal.returns-in-FileTooLong-clause-text
returns-in-FileTooLong-clause-text c =
    simp (c.in-FileTooLong.is, c.push_str-in-FileTooLong-2.ensures.bytes, c.name_of.ensures.text, c.push_str-in-FileTooLong.ensures.bytes) (simp append_assoc)

pub returns-in-ReadFault-clause-text : goal.returns-in-ReadFault-clause-text
returns-in-ReadFault-clause-text c =
    simp (c.in-ReadFault.is, c.push_str-in-ReadFault-2.ensures.bytes, c.name_of-in-ReadFault.ensures.text, c.push_str-in-ReadFault.ensures.bytes) (simp append_assoc)

pub returns-in-Spent-clause-text : goal.returns-in-Spent-clause-text
returns-in-Spent-clause-text c =
    simp (c.in-Spent.is, c.push_str-in-Spent.ensures.bytes, c.push_number-in-Spent.ensures.text) (simp append_assoc)
