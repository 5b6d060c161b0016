use Rattle.md_check.proofs.Rows.{item_at, within}
use Rattle.recogniser.specs.Searching.{IsDoneByNone, idle_of}
use Rattle.recogniser.proofs.SoundRows.{one_more_row}
use Rattle.recogniser.proofs.rows.first_instance.Goals as goal

pub first_binding-requires-clause-row : goal.first_binding-requires-clause-row
first_binding-requires-clause-row c =
    c.requires.sound.rows c.loop-place.place c.index-rows-place.result
    (item_at c.loop-place.place c.as_slice-rows.result.now c.args.q.now.description.now.rows c.index-rows-place.result c.as_slice-rows.ensures
    c.loop-place-test.true c.index-rows-place.is)

pub returns-in-Some : goal.returns-in-Some
returns-in-Some c = record {
  row = c.index-rows-place.result;
  has_row = item_at c.loop-place.place c.as_slice-rows.result.now c.args.q.now.description.now.rows c.index-rows-place.result c.as_slice-rows.ensures
      c.loop-place-test.true c.index-rows-place.is;
  does = c.in-Some.ensures;
  before = c.loop-place.invariant;
}

pub loop-place-preserved : goal.loop-place-preserved
loop-place-preserved c =
    let d = c.args.q.now.description.now in
    let row = c.index-rows-place.result in
    one_more_row d.rows (IsDoneByNone d (idle_of c.args.q.now) c.args.q.now.transfer.now) c.loop-place.place row
    (item_at c.loop-place.place c.as_slice-rows.result.now d.rows row c.as_slice-rows.ensures c.loop-place-test.true c.index-rows-place.is)
    c.in_default.ensures c.loop-place.invariant

pub returns : goal.returns
returns c = λ k row has. c.loop-place.invariant k row
    (within c.args.q.now.description.now.rows c.as_slice-rows.result.now c.loop-place.place k row c.as_slice-rows.ensures c.loop-place-test.false has) has
