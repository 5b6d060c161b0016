-- The jump that its normal form moves.
use Rattle.std.proofs.Common.{refl}
use Rattle.rtl_norm.specs.Normal.{step, finish}
use Rattle.rtl_norm.specs.Rules.{fold_rule, swap_rule, mirror_rule, minus_rule, negate_rule, join_rule, neutral_rule, twice_rule, extend_rule, cut_rule, byte_rule, pair_rule, when_rule}
use Rattle.rtl_norm_value.specs.Moved.{WildAsItStands, NormalFormMovesJump}

pub wild_as_it_stands : WildAsItStands
unfolding step finish fold_rule swap_rule mirror_rule minus_rule negate_rule join_rule neutral_rule twice_rule extend_rule cut_rule byte_rule pair_rule when_rule
wild_as_it_stands v = (refl, (_, refl, refl), (_, refl, refl))

pub normal_form_moves_jump : NormalFormMovesJump
unfolding step finish fold_rule swap_rule mirror_rule minus_rule negate_rule join_rule neutral_rule twice_rule extend_rule cut_rule byte_rule pair_rule when_rule
normal_form_moves_jump v = ((_, refl, refl), (_, refl, refl))
