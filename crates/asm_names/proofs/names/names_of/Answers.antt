use Rattle.asm_row.proofs.Walking.{empty_text}
use Rattle.asm_labels.proofs.Opening.{opens}
use Rattle.asm_names.proofs.NamesLeft.{can_add, names_more, at_end}
use Rattle.asm_names.proofs.names.names_of.Goals as goal

pub with_said-requires : goal.with_said-requires
with_said-requires c =
    let t = c.requires.text.1 in
    let a = c.loop-rest.invariant c.requires.text.0 t in
    record {
      new = can_add c.args.d.now c.requires.text.0 c.loop-rest.names c.split_line.result.0.now c.loop-rest.rest.now c.split_line.result.1.now c.said_on-said.result c.loop-rest.part a
          (opens c.says_one_thing.ensures c.split_line.result.0.now c.split_line.result.1.now c.said_on-said.result c.said_on-said.ensures c.loop-rest.rest.now a.left c.split_line.ensures.lines a.said)
          c.said_on-said.ensures c.len.ensures.names c.len-in-loop-rest.ensures.names;
    }

pub loop-rest-preserved : goal.loop-rest-preserved
loop-rest-preserved c all t =
    let a = c.loop-rest.invariant all t in
    names_more c.args.d.now all c.loop-rest.names c.split_line.result.0.now c.loop-rest.rest.now c.split_line.result.1.now c.said_on-said.result c.loop-rest.part c.part_after-part.result
    c.in_ok-names.names a
    (opens c.says_one_thing.ensures c.split_line.result.0.now c.split_line.result.1.now c.said_on-said.result c.said_on-said.ensures c.loop-rest.rest.now a.left c.split_line.ensures.lines a.said)
    c.in_ok-names.ensures c.part_after-part.ensures

pub returns : goal.returns
returns c all t =
    at_end c.args.d.now all c.loop-rest.rest.now c.loop-rest.part c.loop-rest.names (empty_text c.loop-rest.rest.now c.is_empty.result c.is_empty.ensures c.loop-rest-test.false)
    (c.loop-rest.invariant all t)
