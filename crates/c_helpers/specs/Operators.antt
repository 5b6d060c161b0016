-- The operators that helpers stand for.
use Rattle.std.specs.Prelude.{ℕ, Option, Some, bit_xor}
use Rattle.rtl_word.specs.Words.{word_mul, word_div, word_divu, word_rem, word_remu, word_shl, word_shr, word_shru}
use Rattle.c_helpers.specs.declared.operator.Operator.{Operator}
use Rattle.c_helpers.specs.declared.operator.Operator.TheVariants.{Multiply, Divide, DivideUnsigned, Remainder, RemainderUnsigned, ShiftLeft, ShiftRight, ShiftRightUnsigned, Xor}
use Rattle.c_helpers.specs.Code.{Helper}
use Rattle.c_helpers.specs.Helpers as helper

-- what it gives of two words of w bits, where it is defined
abbrev pub given_by : ℕ → Operator → ℕ → ℕ → Option ℕ
given_by w Multiply x y = Some (word_mul w x y)
given_by w Divide x y = word_div w x y
given_by w DivideUnsigned x y = word_divu x y
given_by w Remainder x y = word_rem w x y
given_by w RemainderUnsigned x y = word_remu x y
given_by w ShiftLeft x y = word_shl w x y
given_by w ShiftRight x y = word_shr w x y
given_by w ShiftRightUnsigned x y = word_shru w x y
given_by w Xor x y = Some (bit_xor x y)

abbrev pub helper_of : ℕ → Operator → Helper
helper_of w Multiply = helper.mul
helper_of w Divide = helper.div w
helper_of w DivideUnsigned = helper.divu w
helper_of w Remainder = helper.rem w
helper_of w RemainderUnsigned = helper.remu w
helper_of w ShiftLeft = helper.shl
helper_of w ShiftRight = helper.shr w
helper_of w ShiftRightUnsigned = helper.shru
helper_of w Xor = helper.xor
