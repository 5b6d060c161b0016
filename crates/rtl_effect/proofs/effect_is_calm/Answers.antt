use Rattle.rtl_effect.proofs.Calm.{effect_is_calm as proved}
use Rattle.rtl_effect.proofs.effect_is_calm.Goals as goal

pub returns : goal.returns
returns c = proved
