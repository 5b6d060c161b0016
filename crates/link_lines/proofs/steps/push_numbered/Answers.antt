use Rattle.md_covers.specs.Numbers.{runs_of}
use Rattle.link_lines.specs.Glue.{made_at}
use Rattle.link_lines.proofs.Numbers.{number_of}
use Rattle.link_lines.proofs.Writing.{written_one, made_at_is, has_row}
use Rattle.link_lines.proofs.steps.push_numbered.Goals as goal

pub added_instance-requires-clause-number : goal.added_instance-requires-clause-number
added_instance-requires-clause-number g c = number_of (runs_of c.args.m.now.word c.args.pattern) c.args.number c.requires.number

pub returns : goal.returns
returns g c =
    let m = c.args.m.now in
    let t = c.args.rows.now in
    written_one m c.args.lines.now.items c.push.new.self.items c.in_ok-line.line (made_at m t c.args.pattern c.args.number) c.in_ok-push.ensures.items
    (made_at_is m t c.args.pattern c.args.number c.in_ok-line.line c.requires.number c.in_ok-line.ensures.found)
    (has_row m _ _ _ c.in_ok-line.line c.in_ok-line.ensures.instance)
