use Rattle.md_lines.proofs.Places.{split_at_place, lacks_unplaced}
use Rattle.md_lines.proofs.splits.split_at_byte.Goals as goal

pub returns-in_err-length-clause-none : goal.returns-in_err-length-clause-none
returns-in_err-length-clause-none c = rw c.from_residual.ensures (lacks_unplaced c.args.byte c.args.text.now c.in_err-length.ensures)

pub returns-clause-found : goal.returns-clause-found
returns-clause-found c = split_at_place c.args.byte c.args.text.now c.in_ok-length.length c.in_ok-length.ensures
