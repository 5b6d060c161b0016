use Rattle.rtl_norm_value.proofs.WordViews.{words_are_kept}
use Rattle.rtl_norm_value.proofs.effect_keeps_words.Goals as goal

pub returns : goal.returns
returns c = words_are_kept
