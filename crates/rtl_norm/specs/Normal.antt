-- The normal form of a tree: from the leaves up, at each node the first rule that applies, until none applies.
use Rattle.std.specs.Prelude.{◌≡◌, ℕ, zero, suc, ◌+◌, Option, Some, None}
use Rattle.rtl_tree.specs.Trees.{Tree, Number, Symbol, CodeLabel, Read, Load, Unary, Binary, NoPair, AnyNumber, AnyName}
use Rattle.rtl_tree.specs.declared.expressions.BinOp.{BinOp}
use Rattle.rtl_tree.specs.declared.expressions.BinOp.TheVariants.{Sub}
use Rattle.rtl_norm.specs.Rules.{fold_rule, swap_rule, mirror_rule, minus_rule, negate_rule, join_rule, neutral_rule, twice_rule, extend_rule, cut_rule, byte_rule, pair_rule, when_rule}

abbrev pub or_else : Option Tree → Option Tree → Option Tree
or_else (Some t) o = Some t
or_else None o = o

-- what the first rule that applies at the root makes of the tree
unfoldable pub step : ℕ → Tree → Option Tree
step w t =
    or_else (fold_rule w t)
    (or_else (swap_rule t)
    (or_else (mirror_rule t)
    (or_else (minus_rule w t)
    (or_else (negate_rule t)
    (or_else (join_rule w t)
    (or_else (neutral_rule w t)
    (or_else (twice_rule t)
    (or_else (extend_rule t)
    (or_else (cut_rule t)
    (or_else (byte_rule t)
    (or_else (pair_rule t) (when_rule t))))))))))))

-- a number that each step at the root makes less
abbrev pub sub_weight : BinOp → ℕ
sub_weight Sub = 1
sub_weight _ = 0

abbrev pub constant_weight : Tree → ℕ
constant_weight (Number n) = 1
constant_weight (AnyNumber n) = 1
constant_weight _ = 0

abbrev pub weight : Tree → ℕ
weight (Load d a) = weight a + 1
weight (Unary o a) = weight a + 3
weight (Binary o a b) = weight a + weight b + sub_weight o + constant_weight a + 3
weight _ = 1

abbrev pub follow : Option Tree → Tree → (Tree → Tree) → Tree
follow (Some u) t go = go u
follow None t go = t

-- at most n steps at the root
abbrev pub steps : ℕ → ℕ → Tree → Tree
steps w zero t = t
steps w (suc n) t = follow (step w t) t (steps w n)

-- steps at the root until no rule applies there
unfoldable pub finish : ℕ → Tree → Tree
finish w t = steps w (weight t) t

-- the normal form
abbrev pub norm : ℕ → Tree → Tree
norm w (Load d a) = finish w (Load d (norm w a))
norm w (Unary o a) = finish w (Unary o (norm w a))
norm w (Binary o a b) = finish w (Binary o (norm w a) (norm w b))
norm w (Number n) = Number n
norm w (Symbol n) = Symbol n
norm w (CodeLabel l) = CodeLabel l
norm w (Read c) = Read c
norm w NoPair = NoPair
norm w (AnyNumber n) = AnyNumber n
norm w (AnyName n) = AnyName n

-- no rule applies anywhere in the tree
abbrev pub IsNormal : ℕ → Tree → Type 0
IsNormal w (Load d a) = (step w (Load d a) ≡ None) × IsNormal w a
IsNormal w (Unary o a) = (step w (Unary o a) ≡ None) × IsNormal w a
IsNormal w (Binary o a b) = (step w (Binary o a b) ≡ None) × IsNormal w a × IsNormal w b
IsNormal w _ = Unit {0}
