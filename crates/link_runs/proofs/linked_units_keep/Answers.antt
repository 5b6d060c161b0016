use Rattle.link_runs.proofs.Units.{units_keep}
use Rattle.link_runs.proofs.linked_units_keep.Goals as goal

pub returns : goal.returns
returns c =
    units_keep c.glue_is_of_rows.ensures c.program_is_short.ensures c.jobs_are_sound.ensures c.jobs_are_flat.ensures c.sound_image_is_linkable.ensures
    c.linked_program_does_the_same.ensures
