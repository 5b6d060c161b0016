use Rattle.std.proofs.Common.{append_assoc}
use Rattle.vpo_top.proofs.report.push_bad_description.Goals as goal

pub returns-clause-text : goal.returns-clause-text
returns-clause-text c =
    simp (c.push_str-4.ensures.bytes, c.push_number-3.ensures.text, c.push_str-3.ensures.bytes, c.push_number-2.ensures.text, c.push_str-2.ensures.bytes, c.push_number.ensures.text, c.push_str.ensures.bytes, c.from.ensures, c.from-2.ensures, c.from-3.ensures) (simp append_assoc)
