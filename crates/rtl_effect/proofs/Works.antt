-- The transfers that were worked out by hand.
use Rattle.std.proofs.Common.{refl}
use Rattle.rtl_effect.specs.Worked.{Swaps, UnsetDivided, UnsetStored, PrintsAndEnds, NumberIsNoTarget}

pub swaps : Swaps
swaps v = (_, refl, refl, refl)

pub unset_divided : UnsetDivided
unset_divided v = ((_, refl, refl), refl)

pub unset_stored : UnsetStored
unset_stored v = (_, refl, refl, refl, refl, refl)

pub prints_and_ends : PrintsAndEnds
prints_and_ends v = (_, refl, refl, refl)

pub number_is_no_target : NumberIsNoTarget
number_is_no_target v = ((_, refl, refl), refl, refl, (_, refl, refl))
