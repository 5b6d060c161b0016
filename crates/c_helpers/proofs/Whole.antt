-- What each helper computes, operator by operator.
use Rattle.std.proofs.Common.{ℕ, ◌<◌, subst, arith}
use Rattle.rtl_word.specs.Words.{IsWordSize}
use Rattle.rtl_word.proofs.Below.{by_size}
use Rattle.c_helpers.specs.Code.{IsHelper}
use Rattle.c_helpers.specs.Helpers as helper
use Rattle.c_helpers.specs.declared.operator.Operator.{Operator}
use Rattle.c_helpers.specs.declared.operator.Operator.TheVariants.{Multiply, Divide, DivideUnsigned, Remainder, RemainderUnsigned, ShiftLeft, ShiftRight, ShiftRightUnsigned, Xor}
use Rattle.c_helpers.specs.Operators.{helper_of}
use Rattle.c_helpers.specs.Law.{Gives, HelpersCompute, HelpersFit}
use Rattle.c_helpers.proofs.Products.{multiplies, shifts_left, shifts_right, excludes}
use Rattle.c_helpers.proofs.Quotients.{divides_unsigned, divides_signed, remains_unsigned, remains_signed, some_same}
use Rattle.c_helpers.proofs.Shifts.{shifts_signed}

some_bits : (w : ℕ) → IsWordSize w → 0 < w
some_bits w z = by_size (λ w. 0 < w) (omega arith) (omega arith) w z

pub helpers_compute : HelpersCompute
helpers_compute w z Multiply x y v xw yw e = subst (Gives w helper.mul x y) (some_same _ v e) (multiplies w x y (some_bits w z) xw yw)
helpers_compute w z Divide x y v xw yw e = divides_signed w x y v z xw yw e
helpers_compute w z DivideUnsigned x y v xw yw e = divides_unsigned w x y v (some_bits w z) xw yw e
helpers_compute w z Remainder x y v xw yw e = remains_signed w x y v z xw yw e
helpers_compute w z RemainderUnsigned x y v xw yw e = remains_unsigned w x y v (some_bits w z) xw yw e
helpers_compute w z ShiftLeft x y v xw yw e = shifts_left w x y v xw e
helpers_compute w z ShiftRight x y v xw yw e = shifts_signed w x y v z xw e
helpers_compute w z ShiftRightUnsigned x y v xw yw e = shifts_right w x y v (some_bits w z) xw e
helpers_compute w z Xor x y v xw yw e = subst (Gives w helper.xor x y) (some_same _ v e) (excludes w x y z xw yw)

-- at a known size the bounds are of numbers
fits_16 : (o : Operator) → IsHelper 16 (helper_of 16 o)
fits_16 Multiply = record { words = grind arith; code = grind arith; result = grind arith }
fits_16 Divide = record { words = grind arith; code = grind arith; result = grind arith }
fits_16 DivideUnsigned = record { words = grind arith; code = grind arith; result = grind arith }
fits_16 Remainder = record { words = grind arith; code = grind arith; result = grind arith }
fits_16 RemainderUnsigned = record { words = grind arith; code = grind arith; result = grind arith }
fits_16 ShiftLeft = record { words = grind arith; code = grind arith; result = grind arith }
fits_16 ShiftRight = record { words = grind arith; code = grind arith; result = grind arith }
fits_16 ShiftRightUnsigned = record { words = grind arith; code = grind arith; result = grind arith }
fits_16 Xor = record { words = grind arith; code = grind arith; result = grind arith }

fits_32 : (o : Operator) → IsHelper 32 (helper_of 32 o)
fits_32 Multiply = record { words = grind arith; code = grind arith; result = grind arith }
fits_32 Divide = record { words = grind arith; code = grind arith; result = grind arith }
fits_32 DivideUnsigned = record { words = grind arith; code = grind arith; result = grind arith }
fits_32 Remainder = record { words = grind arith; code = grind arith; result = grind arith }
fits_32 RemainderUnsigned = record { words = grind arith; code = grind arith; result = grind arith }
fits_32 ShiftLeft = record { words = grind arith; code = grind arith; result = grind arith }
fits_32 ShiftRight = record { words = grind arith; code = grind arith; result = grind arith }
fits_32 ShiftRightUnsigned = record { words = grind arith; code = grind arith; result = grind arith }
fits_32 Xor = record { words = grind arith; code = grind arith; result = grind arith }

pub helpers_fit : HelpersFit
helpers_fit w z o = by_size (λ w. IsHelper w (helper_of w o)) (fits_16 o) (fits_32 o) w z
