use Rattle.std.proofs.Common.{refl}
use Rattle.temp_shapes.proofs.Table.{row_for_pattern}
use Rattle.temp_shapes.proofs.rows.ShapeRows.row_for.Goals as goal

pub returns : goal.returns
returns c = λ d h. row_for_pattern d c.args.self.now c.args.pattern c.place_of.result _ h c.place_of.ensures.place c.place_of.ensures.shape refl
