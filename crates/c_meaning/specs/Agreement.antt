-- The operators of constant expressions and those of a run are the same: a constant has a value just where the act is defined.
use Rattle.std.specs.Prelude.{◌≡◌, ℕ, ◌<◌, ◌^◌, Option, Some, None}
use Rattle.rtl_word.specs.Words.{IsWordSize}
use Rattle.c_tree.specs.declared.types.CType.{CType}
use Rattle.c_tree.specs.declared.syntax.BinaryOperator.{BinaryOperator}
use Rattle.c_tree.specs.declared.syntax.UnaryOperator.{UnaryOperator}
use Rattle.c_constants.specs.Operators as constants
use Rattle.c_meaning.specs.Operators.{Outcome, gives, undefined, Sort, computes, compares, logical, as_type, calculate, compare, sort_of, apply}

abbrev pub value_of : Outcome → Option ℕ
value_of (gives v) = Some v
value_of (undefined what) = None

-- `&&` and `||` have no value of two words: they evaluate the right operand only where they need it
abbrev pub evaluated : ℕ → CType → Sort → ℕ → ℕ → Outcome
evaluated w t (computes o) x y = calculate w t o x y
evaluated w t (compares r u) x y = compare w t r u x y
evaluated w t (logical b) x y = undefined 0

abbrev pub BinaryAgree : Type 0
BinaryAgree =
    (w : ℕ) (t : CType) (o : BinaryOperator) (x y : ℕ) → IsWordSize w → x < 2 ^ w → y < 2 ^ w
    → constants.on_two w t o x y ≡ value_of (evaluated w t (sort_of o) x y)

abbrev pub UnaryAgree : Type 0
UnaryAgree =
    (w : ℕ) (t : CType) (o : UnaryOperator) (x : ℕ) → IsWordSize w → x < 2 ^ w
    → constants.on_one w t o x ≡ value_of (apply w t o x)

abbrev pub ConversionsAgree : Type 0
ConversionsAgree = (w : ℕ) (t : CType) (x : ℕ) → IsWordSize w → x < 2 ^ w → constants.as_type w t x ≡ as_type w t x

pub record OperatorsAgree : Type 0 where
  pub binary : BinaryAgree
  pub unary : UnaryAgree
  pub conversions : ConversionsAgree
