use Rattle.link_lines.specs.Glue.{made}
use Rattle.link_lines.proofs.Writing.{written_one, made_is, has_row}
use Rattle.link_lines.proofs.steps.push_plain.Goals as goal

pub returns : goal.returns
returns g c =
    let m = c.args.m.now in
    let t = c.args.rows.now in
    written_one m c.args.lines.now.items c.push.new.self.items c.in_ok-line.line (made m t c.args.pattern 0 c.args.label) c.in_ok-push.ensures.items
    (made_is m t c.args.pattern 0 c.args.label c.in_ok-line.line c.in_ok-line.ensures.found) (has_row m _ _ _ c.in_ok-line.line c.in_ok-line.ensures.instance)
