-- The operations of each worked node are computed.
use Rattle.std.proofs.Common.{refl}
use Rattle.naive_code.specs.Worked.{Operations}

pub operations : Operations
operations = record {
  leaf = refl;
  sum = refl;
  conjunction = refl;
  set_element = refl;
  loop = refl;
  unsigned_test = refl;
  call_of_two = refl;
  loop_with_step = refl;
  set_character = refl;
  step_behind = refl;
  two_cases = refl;
  depths_of_two = refl;
}
