use Rattle.std.proofs.Common.{ℕ, List, Bor}
use Rattle.c_functions.proofs.definitions.with_number.Goals as goal

pub returns : goal.returns
returns c = λ other. let q : Bor (List ℕ) = record { ref_ptr = (0, 0); now = other } in c.in_ok-insert.ensures.updates.0 q
