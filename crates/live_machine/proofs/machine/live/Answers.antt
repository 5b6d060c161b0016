use Rattle.live_machine.proofs.Described.{told_of}
use Rattle.live_machine.proofs.machine.live.Goals as goal

pub returns : goal.returns
returns g c =
    told_of g.W.Word.BITS c.raw-d.result.now c.args.m.now c.roles_of-roles.result c.args.c.now c.args.f.now c.raw-d.ensures.description c.raw-d.ensures.checked c.requires.flow
    c.roles_of-roles.ensures c.live_by.result c.live_by.ensures
