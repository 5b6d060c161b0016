use Rattle.std.proofs.Common.{ℕ, ◌≤◌, nat_le, arith}
use Rattle.std.specs.Prelude.{IsTrue}
use Rattle.std.proofs.lemmas.Bool.Decides.{nat_tests}
use Rattle.frame_link.proofs.Labels.{is_address_at}
use Rattle.frame_link.proofs.conditions.is_address.Goals as goal

is_at_most : {m n : ℕ} → IsTrue (nat_le m n) → m ≤ n
is_at_most {m} {n} t = grind (arith, nat_tests, t)

pub returns-then-offset-d-eq0 : goal.returns-then-offset-d-eq0
returns-then-offset-d-eq0 c = λ t.
    is_address_at c.args.d.now c.args.bytes.now c.args.address c.in-Some.offset c.in-Some.ensures c.if-offset-d-eq0.true (is_at_most t)
