use Rattle.link_lines.specs.Lines.{entry_of}
use Rattle.link_lines.proofs.Writing.{moved, code_written, code_labelled}
use Rattle.link_lines.proofs.lines.push_code.Goals as goal

pub returns-clause-lines : goal.returns-clause-lines
returns-clause-lines g c =
    code_written c.args.m.now c.args.rows.now c.args.code.now c.args.written.now.lines.items c.push_entry.new.lines.items c.push_blocks.new.written.lines.items
    c.push_blocks.result
    (moved c.args.m.now c.args.written.now.lines.items c.push_label.new.written.lines.items c.push_entry.new.lines.items
    (entry_of c.args.m.now c.args.rows.now c.args.code.now) c.in_ok-push_label.ensures.lines c.in_ok-push_entry.ensures)
    c.push_blocks.ensures.lines

pub returns-clause-labels : goal.returns-clause-labels
returns-clause-labels g c =
    code_labelled c.args.m.now c.args.rows.now c.args.code.now c.args.written.now.lines.items c.push_entry.new.lines.items c.args.written.now.labels.items
    c.push_label.new.written.labels.items c.push_blocks.new.written.labels.items c.push_blocks.result c.in_ok-push_label.ensures.label
    (moved c.args.m.now c.args.written.now.lines.items c.push_label.new.written.lines.items c.push_entry.new.lines.items
    (entry_of c.args.m.now c.args.rows.now c.args.code.now) c.in_ok-push_label.ensures.lines c.in_ok-push_entry.ensures)
    c.push_blocks.ensures.labels
