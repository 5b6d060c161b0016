use Rattle.c_scopes.proofs.MoreLabels.{holds_more}
use Rattle.c_scopes.proofs.label_list.Labels.with.Goals as goal

pub invariant_of-result : goal.invariant_of-result
invariant_of-result c = rw c.in_ok-push.ensures.ok (holds_more c.self.inside.values c.insert.new.self _ _ c.self.invariant c.in_ok-insert.ensures.updates.0)
