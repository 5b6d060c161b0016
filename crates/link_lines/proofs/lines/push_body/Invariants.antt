use Rattle.std.proofs.Common.{◌≡◌, ◌++◌, drop, map}
use Rattle.link_lines.proofs.lines.push_body.Given as goal

abbrev pub invariant-loop-transfer : goal.invariant-loop-transfer
invariant-loop-transfer l = l.lines.items ++ map (λ t. t.by) (drop l.transfer-index l.body) ≡ l.fn.lines.items ++ map (λ t. t.by) l.body
