use Rattle.asm_row.proofs.Walking.{empty_text}
use Rattle.asm_labels.proofs.Opening.{opens}
use Rattle.asm_instances.proofs.LinesLeft.{known_line, lines_more, at_end}
use Rattle.asm_instances.proofs.lines.lines_of.Goals as goal

pub with_line-requires-clause-known : goal.with_line-requires-clause-known
with_line-requires-clause-known c e =
    let t = c.requires.text.1 in
    let a = c.loop-rest.invariant c.requires.text.0 t in
    known_line c.args.rows.now c.args.names.now c.requires.text.0 c.loop-rest.rest.now c.split_line.result.0.now c.split_line.result.1.now c.loop-rest.lines.items c.said_on-said.result a
    (opens c.says_one_thing.ensures c.split_line.result.0.now c.split_line.result.1.now c.said_on-said.result c.said_on-said.ensures c.loop-rest.rest.now a.left c.split_line.ensures.lines a.said)
    t.labels e

pub loop-rest-preserved : goal.loop-rest-preserved
loop-rest-preserved c all t =
    let a = c.loop-rest.invariant all t in
    lines_more c.args.rows.now c.args.names.now all c.loop-rest.rest.now c.split_line.result.0.now c.split_line.result.1.now c.loop-rest.lines.items c.said_on-said.result a
    (opens c.says_one_thing.ensures c.split_line.result.0.now c.split_line.result.1.now c.said_on-said.result c.said_on-said.ensures c.loop-rest.rest.now a.left c.split_line.ensures.lines a.said)
    c.in_ok-lines.lines.items c.in_ok-lines.ensures

pub returns : goal.returns
returns c all t =
    at_end c.args.rows.now c.args.names.now all c.loop-rest.rest.now c.loop-rest.lines.items (empty_text c.loop-rest.rest.now c.is_empty.result c.is_empty.ensures c.loop-rest-test.false)
    (c.loop-rest.invariant all t)
