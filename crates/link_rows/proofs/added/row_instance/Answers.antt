use Rattle.temp_shapes.proofs.Covering.{row_of}
use Rattle.link_rows.proofs.added.row_instance.Goals as goal

pub first_match-requires : goal.first_match-requires
first_match-requires c = record {
  size = c.requires.size;
  row = row_of c.args.bits c.args.row.now c.holes_of-holes.result.now c.normal_of.result.now c.requires.doer.few c.requires.doer.read c.holes_of-holes.ensures
      c.normal_of.ensures.moves c.normal_of.ensures.few;
}
