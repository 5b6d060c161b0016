-- The thirteen rules of the normal form. Each tells what it makes of a tree, by the tree's root, or that it does not apply.
use Rattle.std.specs.Prelude.{ℕ, ◌-◌, ◌^◌, Bool, true, false, not, ◌&&◌, cond, nat_le, ◌==◌, Option, Some, None, bit_and, bit_or}
use Rattle.rtl_word.specs.declared.Rel.{Rel}
use Rattle.rtl_word.specs.declared.Rel.TheVariants.{Eq, Ne}
use Rattle.rtl_word.specs.Words.{word_add, word_neg, mirrored}
use Rattle.rtl_tree.specs.Trees.{Tree, Number, Load, Unary, Binary}
use Rattle.rtl_tree.specs.Likeness.{commutes}
use Rattle.rtl_tree.specs.declared.expressions.Width.TheVariants.{Byte}
use Rattle.rtl_tree.specs.declared.expressions.UnOp.TheVariants.{Neg, Not, Sxb, Test}
use Rattle.rtl_tree.specs.declared.expressions.BinOp.{BinOp}
use Rattle.rtl_tree.specs.declared.expressions.BinOp.TheVariants.{Add, Sub, Mul, Div, Divu, And, Or, Xor, Shl, Shr, Shru, Cmp, Pair, When}
use Rattle.rtl_norm.specs.Numbers.{is_constant, unary_number, binary_number}

-- N1: an operator on numbers alone becomes its value, where it has one
abbrev pub folded : ℕ → Tree → Option ℕ
folded w (Unary o (Number a)) = unary_number w o a
folded w (Binary o (Number a) (Number b)) = binary_number w o a b
folded w _ = None

abbrev pub number_if : Option ℕ → Option Tree
number_if (Some v) = Some (Number v)
number_if None = None

unfoldable pub fold_rule : ℕ → Tree → Option Tree
fold_rule w t = number_if (folded w t)

-- N2: (c op a) becomes (a op c) where the operands may be swapped and a is no number
unfoldable pub swap_rule : Tree → Option Tree
swap_rule (Binary o a b) = cond (commutes o && is_constant a && not (is_constant b)) (Some (Binary o b a)) None
swap_rule _ = None

-- N3: (c rel a), an order, becomes (a rel' c) with the mirrored order where a is no number
abbrev pub is_order : Rel → Bool
is_order Eq = false
is_order Ne = false
is_order _ = true

unfoldable pub mirror_rule : Tree → Option Tree
mirror_rule (Binary (Cmp r) a b) = cond (is_order r && is_constant a && not (is_constant b)) (Some (Binary (Cmp (mirrored r)) b a)) None
mirror_rule _ = None

-- N4: (a - c) becomes (a + -c)
unfoldable pub minus_rule : ℕ → Tree → Option Tree
minus_rule w (Binary Sub a (Number c)) = Some (Binary Add a (Number (word_neg w c)))
minus_rule w _ = None

-- N5: (0 - a) becomes (neg a)
unfoldable pub negate_rule : Tree → Option Tree
negate_rule (Binary Sub (Number c) a) = cond (c == 0) (Some (Unary Neg a)) None
negate_rule _ = None

-- N6: ((a op c) op d) becomes (a op e), where e is (c op d), for + & |
abbrev pub joined : ℕ → BinOp → BinOp → ℕ → ℕ → Option ℕ
joined w Add Add c d = Some (word_add w c d)
joined w And And c d = Some (bit_and c d)
joined w Or Or c d = Some (bit_or c d)
joined w _ _ c d = None

abbrev pub joined_number : ℕ → BinOp → Tree → Tree → Option ℕ
joined_number w o (Binary p a (Number c)) (Number d) = joined w o p c d
joined_number w o _ _ = None

abbrev pub left_of : Tree → Tree
left_of (Binary o a b) = a
left_of t = t

abbrev pub binary_if : BinOp → Tree → Option ℕ → Option Tree
binary_if o a (Some v) = Some (Binary o a (Number v))
binary_if o a None = None

unfoldable pub join_rule : ℕ → Tree → Option Tree
join_rule w (Binary o a b) = binary_if o (left_of a) (joined_number w o a b)
join_rule w _ = None

-- N7: (a op c) becomes a where c on the right changes nothing
abbrev pub is_neutral : ℕ → BinOp → ℕ → Bool
is_neutral w Add c = c == 0
is_neutral w Or c = c == 0
is_neutral w Xor c = c == 0
is_neutral w Shl c = c == 0
is_neutral w Shr c = c == 0
is_neutral w Shru c = c == 0
is_neutral w Mul c = c == 1
is_neutral w Div c = c == 1
is_neutral w Divu c = c == 1
is_neutral w And c = c == 2 ^ w - 1
is_neutral w _ c = false

unfoldable pub neutral_rule : ℕ → Tree → Option Tree
neutral_rule w (Binary o a (Number c)) = cond (is_neutral w o c) (Some a) None
neutral_rule w _ = None

-- N8: (neg (neg a)) and (not (not a)) become a
unfoldable pub twice_rule : Tree → Option Tree
twice_rule (Unary Neg (Unary Neg a)) = Some a
twice_rule (Unary Not (Unary Not a)) = Some a
twice_rule _ = None

-- N9: (sxb (sxb a)) and (sxb (a & 255)) become (sxb a)
unfoldable pub extend_rule : Tree → Option Tree
extend_rule (Unary Sxb (Unary Sxb a)) = Some (Unary Sxb a)
extend_rule (Unary Sxb (Binary And a (Number c))) = cond (c == 255) (Some (Unary Sxb a)) None
extend_rule _ = None

-- N10: ((sxb a) & c) becomes (a & c) where c is at most 255
unfoldable pub cut_rule : Tree → Option Tree
cut_rule (Binary And (Unary Sxb a) (Number c)) = cond (nat_le c 255) (Some (Binary And a (Number c))) None
cut_rule _ = None

-- N11: (B[a] & 255) becomes B[a]
unfoldable pub byte_rule : Tree → Option Tree
byte_rule (Binary And (Load Byte a) (Number c)) = cond (c == 255) (Some (Load Byte a)) None
byte_rule _ = None

-- N12: ((a ? b) rel) becomes (a rel b)
unfoldable pub pair_rule : Tree → Option Tree
pair_rule (Unary (Test r) (Binary Pair a b)) = Some (Binary (Cmp r) a b)
pair_rule _ = None

-- N13: (c -> l) becomes l where c is not 0
unfoldable pub when_rule : Tree → Option Tree
when_rule (Binary When (Number c) l) = cond (c == 0) None (Some l)
when_rule _ = None
