use Rattle.asm_row.proofs.Walking.{empty_text}
use Rattle.asm_labels.proofs.Opening.{opens}
use Rattle.asm_jumps.proofs.LabelsLeft.{has_number, is_few, labels_more, at_data, at_end}
use Rattle.asm_jumps.proofs.places.labels_of.Goals as goal

pub with_label-requires : goal.with_label-requires
with_label-requires c =
    let a = c.loop-rest.invariant.left c.requires.text.0 c.requires.text.1 in
    record {
      number = has_number c.args.d.now c.args.names.now c.requires.text.0 c.split_line.result.0.now c.loop-rest.rest.now c.split_line.result.1.now c.said_on-said.result c.loop-rest.labels.items
          c.loop-rest.count a
          (opens c.says_one_thing.ensures c.split_line.result.0.now c.split_line.result.1.now c.said_on-said.result c.said_on-said.ensures c.loop-rest.rest.now a.left c.split_line.ensures.lines a.said);
    }

pub returns-in-DataBegins : goal.returns-in-DataBegins
returns-in-DataBegins c all t =
    let a = c.loop-rest.invariant.left all t in
    at_data c.args.d.now c.args.names.now all c.split_line.result.0.now c.loop-rest.rest.now c.split_line.result.1.now c.said_on-said.result c.loop-rest.labels.items c.loop-rest.count a
    (opens c.says_one_thing.ensures c.split_line.result.0.now c.split_line.result.1.now c.said_on-said.result c.said_on-said.ensures c.loop-rest.rest.now a.left c.split_line.ensures.lines a.said)
    c.in-DataBegins.is

pub loop-rest-preserved : goal.loop-rest-preserved
loop-rest-preserved c =
    record {
      few =
          let a = c.loop-rest.invariant.left c.requires.text.0 c.requires.text.1 in
          let o = opens c.says_one_thing.ensures c.split_line.result.0.now c.split_line.result.1.now c.said_on-said.result c.said_on-said.ensures c.loop-rest.rest.now a.left c.split_line.ensures.lines a.said in
          is_few c.args.d.now c.args.names.now c.requires.text.0 c.split_line.result.0.now c.loop-rest.rest.now c.split_line.result.1.now c.said_on-said.result c.loop-rest.labels.items
          c.loop-rest.count a o c.loop-rest.invariant.few c.count_after-count.result (c.count_after-count.ensures o.tokens);
      left = λ all t.
          let a = c.loop-rest.invariant.left all t in
          let o = opens c.says_one_thing.ensures c.split_line.result.0.now c.split_line.result.1.now c.said_on-said.result c.said_on-said.ensures c.loop-rest.rest.now a.left c.split_line.ensures.lines a.said in
          labels_more c.args.d.now c.args.names.now all c.split_line.result.0.now c.loop-rest.rest.now c.split_line.result.1.now c.said_on-said.result c.loop-rest.labels.items c.loop-rest.count a
          o c.in_ok-labels.labels.items c.count_after-count.result c.in_default.not-DataBegins c.in_ok-labels.ensures (c.count_after-count.ensures o.tokens);
    }

pub returns : goal.returns
returns c all t =
    at_end c.args.d.now c.args.names.now all c.loop-rest.rest.now c.loop-rest.labels.items c.loop-rest.count
    (empty_text c.loop-rest.rest.now c.is_empty.result c.is_empty.ensures c.loop-rest-test.false) (c.loop-rest.invariant.left all t)
