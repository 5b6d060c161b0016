use Rattle.asm_row.proofs.Walking.{empty_text}
use Rattle.asm_labels.proofs.Opening.{opens}
use Rattle.asm_data.proofs.Ahead.{data_here, data_later, no_data}
use Rattle.asm_data.proofs.data.data_part.Goals as goal

pub returns-in-DataBegins : goal.returns-in-DataBegins
returns-in-DataBegins c all said =
    let a = c.loop-rest.invariant all said in
    data_here all c.split_line.result.0.now c.loop-rest.rest.now c.split_line.result.1.now c.said_on.result a.left c.in-DataBegins.is a.same
    (opens c.says_one_thing.ensures c.split_line.result.0.now c.split_line.result.1.now c.said_on.result c.said_on.ensures c.loop-rest.rest.now a.left c.split_line.ensures.lines a.said)

pub loop-rest-preserved : goal.loop-rest-preserved
loop-rest-preserved c all said =
    let a = c.loop-rest.invariant all said in
    data_later all c.split_line.result.0.now c.loop-rest.rest.now c.split_line.result.1.now c.said_on.result a.left c.in_default.not-DataBegins a.same
    (opens c.says_one_thing.ensures c.split_line.result.0.now c.split_line.result.1.now c.said_on.result c.said_on.ensures c.loop-rest.rest.now a.left c.split_line.ensures.lines a.said)

pub returns : goal.returns
returns c all said =
    no_data all c.loop-rest.rest.now (empty_text c.loop-rest.rest.now c.is_empty.result c.is_empty.ensures c.loop-rest-test.false) (c.loop-rest.invariant all said)
