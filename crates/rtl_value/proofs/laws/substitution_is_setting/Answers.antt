use Rattle.rtl_value.proofs.Put.{put-sets_cell, put-sets_flag}
use Rattle.rtl_value.proofs.laws.substitution_is_setting.Goals as goal

pub returns : goal.returns
returns c = record { cell = put-sets_cell; flag = put-sets_flag }
