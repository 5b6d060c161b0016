use Rattle.std.proofs.Common.{◌≡◌, subst, Option}
use Rattle.std.specs.Prelude.{IfOk, OnOk}
use Rattle.c_tree.specs.declared.typed.LocalInit.{LocalInit}
use Rattle.c_typing.specs.Faults.{Faults}
use Rattle.c_typing.specs.Faults.{notes}
use Rattle.c_scopes.specs.Here.{here_of}
use Rattle.c_objects.specs.Within.{within_of}
use Rattle.c_objects.proofs.Names.{same_init}
use Rattle.c_objects.proofs.objects.initialised_here.Goals as goal

pub returns-clause-tree : goal.returns-clause-tree
returns-clause-tree g c =
    subst (λ (j : Option LocalInit × Faults). IfOk c.initialised.result (λ t. t ≡ j.0))
    (same_init (within_of g.W.Word.BITS c.args.functions.now) (here_of c.args.state.now) c.args.of c.args.extent c.args.init.now) c.initialised.ensures.tree

pub returns-clause-told : goal.returns-clause-told
returns-clause-told g c =
    subst (λ (j : Option LocalInit × Faults). OnOk c.initialised.result (c.initialised.new.told.first ≡ notes c.args.told.now.first j.1))
    (same_init (within_of g.W.Word.BITS c.args.functions.now) (here_of c.args.state.now) c.args.of c.args.extent c.args.init.now) c.initialised.ensures.told
