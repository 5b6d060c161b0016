use Rattle.flow_live.proofs.Cells.{lost}
use Rattle.flow_live.proofs.rows.Row.lose.Goals as goal

pub returns : goal.returns
returns c = lost c.args.self.now.registers c.args.self.now.flags c.args.spared c.args.self.now.temporaries.items c.ranges.spared.fits
