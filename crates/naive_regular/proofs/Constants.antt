-- The value of a constant expression is a word.
use Rattle.std.proofs.Common.{◌≡◌, ℕ, zero, suc, ◌%◌, ◌^◌, ◌<◌, nat_lt, Bool, true, false, if◌then◌else◌, Option, Some, None, refl, arith}
use Rattle.std.proofs.lemmas.Bool.Decides.{nat_tests}
use Rattle.std.proofs.lemmas.Nat.{pow_pos, mod_below, or_lt, xor_lt}
use Rattle.rtl_word.specs.Words.{IsWordSize, word_div, word_divu, word_rem, word_remu, word_shl, word_shr, word_shru}
use Rattle.rtl_word.proofs.Below.{by_size, word_add-below, word_sub-below, word_mul-below, word_neg-below, word_not-below, bit_and-below, word_sxb-below, word_div-below, word_rem-below, word_shr-below, word_divu-below, word_remu-below, word_shl-below, word_shru-below}
use Rattle.c_tree.proofs.TypedFolds.{Both, expr_relates}
use Rattle.c_tree.specs.declared.types.CType.{CType}
use Rattle.c_tree.specs.declared.types.CType.TheVariants as type
use Rattle.c_tree.specs.declared.syntax.BinaryOperator.{BinaryOperator}
use Rattle.c_tree.specs.declared.syntax.BinaryOperator.TheVariants as binary
use Rattle.c_tree.specs.declared.syntax.UnaryOperator.{UnaryOperator}
use Rattle.c_tree.specs.declared.syntax.UnaryOperator.TheVariants as unary
use Rattle.c_tree.specs.declared.typed.TypedExpr.{TypedExpr}
use Rattle.c_tree.specs.declared.typed.TypedExpr.TheOpen.{TypedExpr-F, Comma, Assign, Compound, Conditional, Binary, Unary, Before, After, Constant, Object, Element, Call, Convert}
use Rattle.c_tree.specs.declared.typed.TypedExpr.TheFolds.{map-TypedExpr}
use Rattle.c_constants.specs.declared.fixed.Fixed.{Fixed}
use Rattle.c_constants.specs.Operators.{on_signed, on_unsigned, on_two, on_one, negated, as_type, given_if, one_if, shift_fits}
use Rattle.c_constants.specs.Constants.{word, of_two, of_one, truth, conjunction, disjunction, chosen, is_and, is_or, of_binary, converted, constant, known, constant_value}
use Rattle.c_typing.specs.Statements.{constant_of}
use Rattle.c_sound.proofs.Judged.{Kept, over}

module _ (w : ℕ) (z : IsWordSize w) where
  abbrev pub is_word : ℕ → Bool
  is_word v = nat_lt v (2 ^ w)

  abbrev pub Word : Option ℕ → Type 0
  Word = Kept is_word

  under : (v : ℕ) → is_word v ≡ true → v < 2 ^ w
  under v e = grind (arith, nat_tests, e)

  a_word : (v : ℕ) → v < 2 ^ w → is_word v ≡ true
  a_word v h = over v (2 ^ w) h

  no_word : is_word 0 ≡ true
  no_word = a_word 0 (pow_pos w)

  one_word : is_word 1 ≡ true
  one_word = a_word 1 (by_size (λ n. 1 < 2 ^ n) (omega arith) (omega arith) w z)

  maybe : (o : Option ℕ) → ((v : ℕ) → o ≡ Some v → v < 2 ^ w) → Word o
  maybe None f = tt
  maybe (Some v) f = a_word v (f v refl)

  given : (b : Bool) (v : ℕ) → v < 2 ^ w → Word (given_if b v)
  given true v h = a_word v h
  given false v h = tt

  one_or_none : (b : Bool) → Word (one_if b)
  one_or_none true = one_word
  one_or_none false = no_word

  if_fits : (b : Bool) (o : Option ℕ) → Word o → Word (if b then o else None)
  if_fits true o h = h
  if_fits false o h = tt

  signed : (o : BinaryOperator) (x y : ℕ) → x < 2 ^ w → y < 2 ^ w → Word (on_signed w o x y)
  signed binary.Add x y h k = given _ _ (word_add-below w x y)
  signed binary.Subtract x y h k = given _ _ (word_sub-below w x y)
  signed binary.Multiply x y h k = given _ _ (word_mul-below w x y)
  signed binary.Divide x y h k = maybe (word_div w x y) (λ v e. word_div-below w x y v z h k e)
  signed binary.Remainder x y h k = maybe (word_rem w x y) (λ v e. word_rem-below w x y v z h k e)
  signed binary.And x y h k = a_word _ (bit_and-below w x y h)
  signed binary.Or x y h k = a_word _ (or_lt w x y h k)
  signed binary.Xor x y h k = a_word _ (xor_lt w x y h k)
  signed binary.ShiftLeft x y h k = if_fits (shift_fits w x y) (word_shl w x y) (maybe (word_shl w x y) (λ v e. word_shl-below w x y v e))
  signed binary.ShiftRight x y h k = maybe (word_shr w x y) (λ v e. word_shr-below w x y v z h e)
  signed binary.Equal x y h k = one_or_none _
  signed binary.NotEqual x y h k = one_or_none _
  signed binary.Less x y h k = one_or_none _
  signed binary.Greater x y h k = one_or_none _
  signed binary.LessEqual x y h k = one_or_none _
  signed binary.GreaterEqual x y h k = one_or_none _
  signed binary.LogicalOr x y h k = tt
  signed binary.LogicalAnd x y h k = tt

  unsigned : (o : BinaryOperator) (x y : ℕ) → x < 2 ^ w → y < 2 ^ w → Word (on_unsigned w o x y)
  unsigned binary.Add x y h k = a_word _ (word_add-below w x y)
  unsigned binary.Subtract x y h k = a_word _ (word_sub-below w x y)
  unsigned binary.Multiply x y h k = a_word _ (word_mul-below w x y)
  unsigned binary.Divide x y h k = maybe (word_divu x y) (λ v e. word_divu-below w x y v h e)
  unsigned binary.Remainder x y h k = maybe (word_remu x y) (λ v e. word_remu-below w x y v h e)
  unsigned binary.And x y h k = a_word _ (bit_and-below w x y h)
  unsigned binary.Or x y h k = a_word _ (or_lt w x y h k)
  unsigned binary.Xor x y h k = a_word _ (xor_lt w x y h k)
  unsigned binary.ShiftLeft x y h k = maybe (word_shl w x y) (λ v e. word_shl-below w x y v e)
  unsigned binary.ShiftRight x y h k = maybe (word_shru w x y) (λ v e. word_shru-below w x y v h e)
  unsigned binary.Equal x y h k = one_or_none _
  unsigned binary.NotEqual x y h k = one_or_none _
  unsigned binary.Less x y h k = one_or_none _
  unsigned binary.Greater x y h k = one_or_none _
  unsigned binary.LessEqual x y h k = one_or_none _
  unsigned binary.GreaterEqual x y h k = one_or_none _
  unsigned binary.LogicalOr x y h k = tt
  unsigned binary.LogicalAnd x y h k = tt

  two_words : (t : CType) (o : BinaryOperator) (x y : ℕ) → x < 2 ^ w → y < 2 ^ w → Word (on_two w t o x y)
  two_words type.Unsigned o x y h k = unsigned o x y h k
  two_words type.Int o x y h k = signed o x y h k
  two_words type.Schar o x y h k = signed o x y h k
  two_words type.Uchar o x y h k = signed o x y h k
  two_words type.Void o x y h k = signed o x y h k

  negated_word : (t : CType) (x : ℕ) → Word (negated w t x)
  negated_word type.Unsigned x = a_word _ (word_neg-below w x)
  negated_word type.Int x = given _ _ (word_neg-below w x)
  negated_word type.Schar x = given _ _ (word_neg-below w x)
  negated_word type.Uchar x = given _ _ (word_neg-below w x)
  negated_word type.Void x = given _ _ (word_neg-below w x)

  one_operand : (t : CType) (o : UnaryOperator) (x : ℕ) → x < 2 ^ w → Word (on_one w t o x)
  one_operand t unary.Plus x h = a_word x h
  one_operand t unary.Minus x h = negated_word t x
  one_operand t unary.Complement x h = a_word _ (word_not-below w x)
  one_operand t unary.Not x h = one_or_none _

  byte_word : (x : ℕ) → x % 256 < 2 ^ w
  byte_word x = let h = mod_below x 256 (omega arith) in by_size (λ n. x % 256 < 2 ^ n) (omega (arith, h)) (omega (arith, h)) w z

  of_type : (t : CType) (x : ℕ) → x < 2 ^ w → as_type w t x < 2 ^ w
  of_type type.Schar x h = word_sxb-below w x z
  of_type type.Uchar x h = byte_word x
  of_type type.Int x h = h
  of_type type.Unsigned x h = h
  of_type type.Void x h = h

  -- ---- parts of an expression

  of_binary_two : (t : CType) (o : BinaryOperator) (x y : Option ℕ) → Word x → Word y → Word (of_two w t o x y)
  of_binary_two t o (Some x) (Some y) h k = two_words t o x y (under x h) (under y k)
  of_binary_two t o (Some x) None h k = tt
  of_binary_two t o None y h k = tt

  truth_word : (x : Option ℕ) → Word (truth x)
  truth_word None = tt
  truth_word (Some zero) = no_word
  truth_word (Some (suc n)) = one_word

  conjunction_word : (x y : Option ℕ) → Word (conjunction x y)
  conjunction_word None y = tt
  conjunction_word (Some zero) y = no_word
  conjunction_word (Some (suc n)) y = truth_word y

  disjunction_word : (x y : Option ℕ) → Word (disjunction x y)
  disjunction_word None y = tt
  disjunction_word (Some zero) y = truth_word y
  disjunction_word (Some (suc n)) y = one_word

  chosen_word : (x y v : Option ℕ) → Word y → Word v → Word (chosen x y v)
  chosen_word None y v h k = tt
  chosen_word (Some zero) y v h k = k
  chosen_word (Some (suc n)) y v h k = h

  binary_word : (t : CType) (o : BinaryOperator) (x y : Option ℕ) → Word x → Word y → Word (of_binary w t o x y)
  binary_word t o x y h k = by (is_and o) (is_or o)
    where
      by : (a b : Bool) → Word (if a then conjunction x y else (if b then disjunction x y else of_two w t o x y))
      by true b = conjunction_word x y
      by false true = disjunction_word x y
      by false false = of_binary_two t o x y h k

  unary_word : (t : CType) (o : UnaryOperator) (x : Option ℕ) → Word x → Word (of_one w t o x)
  unary_word t o (Some x) h = one_operand t o x (under x h)
  unary_word t o None h = tt

  converted_word : (t : CType) (x : Option ℕ) → Word x → Word (converted w t x)
  converted_word t None h = tt
  converted_word t (Some x) h = a_word _ (of_type t x (under x h))

  constant_word : (v : ℕ) → Word (word w v)
  constant_word v = by (is_word v) refl
    where
      by : (b : Bool) → is_word v ≡ b → Word (if b then Some v else None)
      by true e = e
      by false e = tt

  record Fine (a b : Fixed) : Type 0 where
    word : Word a.value

  node : (y : TypedExpr-F (Both Fine)) → Fine (constant w (map-TypedExpr (Both Fine) Fixed (λ e. e.0) y)) (constant w (map-TypedExpr (Both Fine) Fixed (λ e. e.1) y))
  node (Constant h v) = record { word = constant_word v }
  node (Binary h a o b) = record { word = binary_word a.0.of o a.0.value b.0.value a.2.word b.2.word }
  node (Unary h o a) = record { word = unary_word a.0.of o a.0.value a.2.word }
  node (Conditional h a b d) = record { word = chosen_word a.0.value b.0.value d.0.value b.2.word d.2.word }
  node (Convert h a) = record { word = converted_word h.of a.0.value a.2.word }
  node (Comma h a b) = record { word = tt }
  node (Assign h a b) = record { word = tt }
  node (Compound h a o b) = record { word = tt }
  node (Before h o a) = record { word = tt }
  node (After h a o) = record { word = tt }
  node (Object h v) = record { word = tt }
  node (Element h v a) = record { word = tt }
  node (Call h f xs) = record { word = tt }

  value_word : (e : TypedExpr) → Word (constant_value w e)
  value_word e = if_fits (known w e).is_fixed (known w e).value (expr_relates Fixed Fixed (constant w) (constant w) Fine node e).word

  pub constant_is_word : (o : Option TypedExpr) → Word (constant_of w o)
  constant_is_word None = tt
  constant_is_word (Some e) = value_word e
