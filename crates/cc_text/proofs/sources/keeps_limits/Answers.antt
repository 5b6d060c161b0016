use Rattle.std.proofs.Common.{◌≡◌, [], subst}
use Rattle.std.specs.Prelude.{OnOk, IfErr}
use Rattle.c_limits.specs.Limits.{IsFirst}
use Rattle.cc_text.proofs.Judging.{word_is, checked, has_room, room_of, limits_are}
use Rattle.cc_text.proofs.sources.keeps_limits.Goals as goal

pub within-requires : goal.within-requires
within-requires g c =
    room_of c.args.m.now _ _ _ c.layout-layout.ensures.memory c.layout-layout.ensures.stack c.layout-layout.ensures.base
    (has_room c.said_is_laid_out.ensures _ c.args.m.now (checked _ _ _ c.raw.ensures.description c.raw.ensures.checked))

pub returns-clause-within : goal.returns-clause-within
returns-clause-within g c =
    subst (λ fs. OnOk c.within.result (fs ≡ []))
    (limits_are c.args.m.now c.args.t.now _ _ _ _ (word_is _ c.args.m.now (checked _ _ _ c.raw.ensures.description c.raw.ensures.checked)) c.layout-layout.ensures.memory c.layout-layout.ensures.stack c.layout-layout.ensures.base)
    c.within.ensures.within

pub returns-clause-refused : goal.returns-clause-refused
returns-clause-refused g c =
    subst (λ fs. IfErr c.within.result (λ r. IsFirst fs r))
    (limits_are c.args.m.now c.args.t.now _ _ _ _ (word_is _ c.args.m.now (checked _ _ _ c.raw.ensures.description c.raw.ensures.checked)) c.layout-layout.ensures.memory c.layout-layout.ensures.stack c.layout-layout.ensures.base)
    c.within.ensures.refused
