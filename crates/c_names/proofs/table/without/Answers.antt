use Rattle.std.proofs.Common.{ℕ, List, Bor}
use Rattle.c_names.proofs.table.without.Goals as goal

pub returns : goal.returns
returns c = λ other. let q : Bor (List ℕ) = record { ref_ptr = (0, 0); now = other } in c.remove.ensures.updates.0 q
