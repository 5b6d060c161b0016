use Rattle.std.proofs.Common.{ap}
use Rattle.temp_code.specs.Realised.{end_transfers}
use Rattle.link_lines.specs.Lines.{end_of_lines}
use Rattle.link_lines.proofs.Writing.{end_written}
use Rattle.link_lines.proofs.lines.push_end.Goals as goal

pub returns-in-Jump : goal.returns-in-Jump
returns-in-Jump g c =
    end_written c.args.m.now c.args.rows.now c.args.code.now c.args.end.now c.in-Jump.transfer c.args.lines.now.items c.push_transfer.new.lines.items
    c.push_transfer.result (ap end_transfers c.in-Jump.is) (ap (end_of_lines c.args.m.now c.args.rows.now c.args.code.now) c.in-Jump.is) c.requires.realised
    c.push_transfer.ensures

pub returns-in-Branch : goal.returns-in-Branch
returns-in-Branch g c =
    end_written c.args.m.now c.args.rows.now c.args.code.now c.args.end.now c.in-Branch.transfer c.args.lines.now.items c.push_transfer-in-Branch.new.lines.items
    c.push_transfer-in-Branch.result (ap end_transfers c.in-Branch.is) (ap (end_of_lines c.args.m.now c.args.rows.now c.args.code.now) c.in-Branch.is) c.requires.realised
    c.push_transfer-in-Branch.ensures

pub returns-in-Call : goal.returns-in-Call
returns-in-Call g c =
    end_written c.args.m.now c.args.rows.now c.args.code.now c.args.end.now c.in-Call.transfer c.args.lines.now.items c.push_transfer-in-Call.new.lines.items
    c.push_transfer-in-Call.result (ap end_transfers c.in-Call.is) (ap (end_of_lines c.args.m.now c.args.rows.now c.args.code.now) c.in-Call.is) c.requires.realised
    c.push_transfer-in-Call.ensures
