use Rattle.rtl_norm_value.proofs.Moved.{wild_as_it_stands, normal_form_moves_jump}
use Rattle.rtl_norm_value.proofs.normal_form_moves_a_jump.Goals as goal

pub returns-clause-wild : goal.returns-clause-wild
returns-clause-wild c = wild_as_it_stands

pub returns-clause-elsewhere : goal.returns-clause-elsewhere
returns-clause-elsewhere c = normal_form_moves_jump
