-- Constant expressions (C11 6.6): constants, conversions and operators alone, also where they aren't evaluated.
use Rattle.std.specs.Prelude.{ℕ, zero, suc, ◌^◌, nat_lt, Bool, true, false, ◌&&◌, Option, Some, None, if◌then◌else◌}
use Rattle.c_tree.specs.declared.types.CType.{CType}
use Rattle.c_tree.specs.declared.syntax.BinaryOperator.{BinaryOperator}
use Rattle.c_tree.specs.declared.syntax.BinaryOperator.TheVariants as binary
use Rattle.c_tree.specs.declared.syntax.UnaryOperator.{UnaryOperator}
use Rattle.c_tree.specs.declared.typed.TypedExpr.{TypedExpr}
use Rattle.c_tree.specs.declared.typed.TypedExpr.TheOpen.{TypedExpr-F, Comma, Assign, Compound, Conditional, Binary, Unary, Before, After, Constant, Object, Element, Call, Convert}
use Rattle.c_tree.specs.declared.typed.TypedExpr.TheFolds.{fold-TypedExpr}
use Rattle.c_constants.specs.declared.fixed.Fixed.{Fixed}
use Rattle.c_constants.specs.Operators.{on_two, on_one, as_type}

abbrev pub word : ℕ → ℕ → Option ℕ
word w v = if nat_lt v (2 ^ w) then Some v else None

abbrev pub of_two : ℕ → CType → BinaryOperator → Option ℕ → Option ℕ → Option ℕ
of_two w t o (Some x) (Some y) = on_two w t o x y
of_two w t o (Some x) None = None
of_two w t o None y = None

abbrev pub of_one : ℕ → CType → UnaryOperator → Option ℕ → Option ℕ
of_one w t o (Some x) = on_one w t o x
of_one w t o None = None

abbrev pub truth : Option ℕ → Option ℕ
truth None = None
truth (Some zero) = Some 0
truth (Some (suc n)) = Some 1

-- `&&`, `||` and `?:` evaluate only what they need (C11 6.5.13 to 6.5.15)
abbrev pub conjunction : Option ℕ → Option ℕ → Option ℕ
conjunction None y = None
conjunction (Some zero) y = Some 0
conjunction (Some (suc n)) y = truth y

abbrev pub disjunction : Option ℕ → Option ℕ → Option ℕ
disjunction None y = None
disjunction (Some zero) y = truth y
disjunction (Some (suc n)) y = Some 1

abbrev pub chosen : Option ℕ → Option ℕ → Option ℕ → Option ℕ
chosen None y z = None
chosen (Some zero) y z = z
chosen (Some (suc n)) y z = y

abbrev pub is_and : BinaryOperator → Bool
is_and binary.LogicalAnd = true
is_and _ = false

abbrev pub is_or : BinaryOperator → Bool
is_or binary.LogicalOr = true
is_or _ = false

abbrev pub of_binary : ℕ → CType → BinaryOperator → Option ℕ → Option ℕ → Option ℕ
of_binary w t o x y = if is_and o then conjunction x y else (if is_or o then disjunction x y else of_two w t o x y)

abbrev pub converted : ℕ → CType → Option ℕ → Option ℕ
converted w t None = None
converted w t (Some v) = Some (as_type w t v)

abbrev pub fixed : Bool → Option ℕ → CType → Fixed
fixed b v t = record { is_fixed = b; value = v; of = t }

abbrev pub constant : ℕ → TypedExpr-F Fixed → Fixed
constant w (Constant h v) = fixed true (word w v) h.of
constant w (Binary h a o b) = fixed (a.is_fixed && b.is_fixed) (of_binary w a.of o a.value b.value) h.of
constant w (Unary h o a) = fixed a.is_fixed (of_one w a.of o a.value) h.of
constant w (Conditional h a b c) = fixed (a.is_fixed && (b.is_fixed && c.is_fixed)) (chosen a.value b.value c.value) h.of
constant w (Convert h a) = fixed a.is_fixed (converted w h.of a.value) h.of
constant w (Comma h a b) = fixed false None h.of
constant w (Assign h a b) = fixed false None h.of
constant w (Compound h a o b) = fixed false None h.of
constant w (Before h o a) = fixed false None h.of
constant w (After h a o) = fixed false None h.of
constant w (Object h v) = fixed false None h.of
constant w (Element h v a) = fixed false None h.of
constant w (Call h f xs) = fixed false None h.of

-- what is known of an expression as a constant
abbrev pub known : ℕ → TypedExpr → Fixed
known w = fold-TypedExpr Fixed (constant w)

-- the defined value of a constant expression
abbrev pub constant_value : ℕ → TypedExpr → Option ℕ
constant_value w e = if (known w e).is_fixed then (known w e).value else None
