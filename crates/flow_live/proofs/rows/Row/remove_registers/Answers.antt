use Rattle.flow_live.proofs.Cells.{unmasked}
use Rattle.flow_live.proofs.rows.Row.remove_registers.Goals as goal

pub returns : goal.returns
returns c = unmasked c.args.self.now.registers c.args.self.now.flags c.args.mask c.args.self.now.temporaries.items c.ranges.mask.fits
