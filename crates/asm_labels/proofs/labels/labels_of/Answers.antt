use Rattle.std.proofs.Common.{◌+◌, refl, arith}
use Rattle.asm_row.proofs.Walking.{empty_text}
use Rattle.asm_labels.proofs.FirstPlaces.{keeps_more, at_end}
use Rattle.asm_labels.proofs.labels.labels_of.Goals as goal

pub loop-rest-preserved : goal.loop-rest-preserved
loop-rest-preserved c =
    record {
      few = omega arith;
      found = keeps_more c.args.text.now c.split_line.result.0.now c.loop-rest.rest.now c.split_line.result.1.now c.said_on-said.result c.loop-rest.place
          c.loop-rest.labels c.in_ok-labels.labels (record { line = c.loop-rest.place.line + 1; part = c.part_after.result })
          c.split_line.ensures.lines c.said_on-said.ensures c.in_ok-labels.ensures refl c.part_after.ensures c.loop-rest.invariant.found;
    }

pub returns : goal.returns
returns c = at_end c.args.text.now c.loop-rest.rest.now c.loop-rest.labels c.loop-rest.place (empty_text c.loop-rest.rest.now c.is_empty.result c.is_empty.ensures c.loop-rest-test.false) c.loop-rest.invariant.found
