use Rattle.naive_units.proofs.Units.{units_are_good}
use Rattle.naive_units.proofs.laws.units_are_good.Goals as goal

pub returns : goal.returns
returns c =
    units_are_good (record {
      sound = c.functions_are_sound.ensures;
      room = c.functions_have_room.ensures;
      short = c.built_is_short.ensures;
      go = c.operations_go.ensures;
      images = c.units_are_images.ensures;
      homes = c.homes_are_obeyed.ensures;
      none = c.none_is_reserve.ensures;
      names = c.names_are_temporaries.ensures;
      once = c.labels_are_once.ensures;
      own = c.labels_are_own.ensures;
      slots = c.homes_are_slots.ensures;
      weight = c.code_is_within_weight.ensures;
    })
