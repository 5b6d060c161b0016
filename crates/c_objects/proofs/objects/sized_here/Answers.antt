use Rattle.std.proofs.Common.{◌≡◌, subst}
use Rattle.std.specs.Prelude.{IfOk, OnOk}
use Rattle.c_typing.specs.Expressions.{Judged}
use Rattle.c_typing.specs.Faults.{notes}
use Rattle.c_scopes.specs.Here.{here_of}
use Rattle.c_objects.specs.Within.{within_of}
use Rattle.c_objects.proofs.Names.{same_size}
use Rattle.c_objects.proofs.objects.sized_here.Goals as goal

pub returns-clause-seen : goal.returns-clause-seen
returns-clause-seen g c =
    subst (λ (j : Judged). IfOk c.sized.result (λ t. t ≡ j.seen))
    (same_size (within_of g.W.Word.BITS c.args.functions.now) (here_of c.args.state.now) c.args.size.now) c.sized.ensures.seen

pub returns-clause-told : goal.returns-clause-told
returns-clause-told g c =
    subst (λ (j : Judged). OnOk c.sized.result (c.sized.new.told.first ≡ notes c.args.told.now.first j.faults))
    (same_size (within_of g.W.Word.BITS c.args.functions.now) (here_of c.args.state.now) c.args.size.now) c.sized.ensures.told
