use Rattle.md_check.proofs.Telling.{checked_rows}
use Rattle.temp_shapes.proofs.Roles.{checked_roles, checked_few}
use Rattle.temp_shapes.proofs.rows.ShapeRows.new.Goals as goal

pub frame_of-requires : goal.frame_of-requires
frame_of-requires g c = checked_roles g.W.Word.BITS c.raw-d.result.now c.raw-d.ensures.checked

pub all_covering-requires-clause-few : goal.all_covering-requires-clause-few
all_covering-requires-clause-few g c = checked_few g.W.Word.BITS c.raw-d.result.now c.said_is_limited.ensures c.raw-d.ensures.checked

pub all_covering-requires-clause-rows : goal.all_covering-requires-clause-rows
all_covering-requires-clause-rows g c = checked_rows g.W.Word.BITS c.raw-d.result.now c.said_is_sound.ensures c.raw-d.ensures.checked
