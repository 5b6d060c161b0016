use Rattle.rtl_norm_form.proofs.WellFormed.{well_formed_kept}
use Rattle.rtl_norm_form.proofs.normal_transfer_is_well_formed.Goals as goal

pub returns : goal.returns
returns c = well_formed_kept
