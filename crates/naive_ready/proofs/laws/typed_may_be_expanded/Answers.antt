use Rattle.naive_ready.proofs.Meeting.{typed_may_be_expanded}
use Rattle.naive_ready.proofs.laws.typed_may_be_expanded.Goals as goal

pub returns : goal.returns
returns c =
    typed_may_be_expanded (record {
      meant = c.typed_is_meant.ensures;
      bound = c.limits_bound.ensures;
      filled = c.regular_fills_lists.ensures;
      expandable = c.regular_is_expandable.ensures;
      regular = c.typed_is_regular.ensures;
      sound = c.typed_is_sound.ensures;
      scalars = c.typed_names_scalars.ensures;
    })
