-- The addresses and bytes of the worked objects are computed, and an image with them is placed.
use Rattle.std.proofs.Common.{inl, refl, arith}
use Rattle.naive_data.specs.Worked.{Objects, objects}
use Rattle.naive_data.proofs.Placing.{placed_by}

pub worked_objects : Objects
worked_objects = record {
  at = refl;
  bytes = refl;
  size = refl;
  within = refl;
  placed = placed_by 16 1000 objects _ _ (inl refl) refl (omega arith) refl refl;
}
