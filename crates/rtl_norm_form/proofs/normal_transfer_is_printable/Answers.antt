use Rattle.rtl_norm_form.proofs.Leaves.{leaf_of_normal}
use Rattle.rtl_norm_form.proofs.normal_transfer_is_printable.Goals as goal

pub returns : goal.returns
returns c = leaf_of_normal
