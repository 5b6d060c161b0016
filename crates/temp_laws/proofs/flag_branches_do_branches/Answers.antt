use Rattle.temp_laws.proofs.Branching.{flag_branches_done}
use Rattle.temp_laws.proofs.flag_branches_do_branches.Goals as goal

pub returns : goal.returns
returns c = flag_branches_done c.said_is_sound.ensures c.said_is_bounded.ensures c.effect_grows.ensures
