use Rattle.std.proofs.Common.{arith}
use Rattle.vp_io.proofs.Entries.{counts_fault}
use Rattle.vp_io.proofs.find.count_fault.Goals as goal

pub returns : goal.returns
returns c = λ name is.
    counts_fault c.args.entries.now name c.args.place c.saturating_add-file.result _ c.index-entries-place.result is c.saturating_add-file.ensures
    (omega (arith, c.saturating_add-file.ensures))
