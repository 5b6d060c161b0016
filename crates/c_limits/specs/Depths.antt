-- How deep an expression nests, and how many arguments its calls have.
use Rattle.std.specs.Prelude.{ℕ, ◌+◌, max, List, [], ◌∷◌, length, map, Option, Some, None}
use Rattle.c_tree.specs.declared.types.CType.{CType}
use Rattle.c_tree.specs.declared.types.CType.TheVariants as type
use Rattle.c_tree.specs.declared.typed.TypedExpr.{TypedExpr}
use Rattle.c_tree.specs.declared.typed.TypedExpr.TheOpen.{TypedExpr-F, Comma, Assign, Compound, Conditional, Binary, Unary, Before, After, Constant, Object, Element, Call, Convert}
use Rattle.c_tree.specs.declared.typed.TypedExpr.TheFolds.{fold-TypedExpr}
use Rattle.c_tree.specs.declared.typed.LocalInit.{LocalInit}
use Rattle.c_tree.specs.declared.typed.LocalInit.TheVariants as init
use Rattle.c_tree.specs.declared.typed.Local.{Local}
use Rattle.c_tree.specs.declared.typed.Start.{Start}
use Rattle.c_tree.specs.declared.typed.Start.TheVariants as start
use Rattle.c_tree.specs.declared.typed.Stat.{Stat}
use Rattle.c_tree.specs.declared.typed.Stat.TheOpen as stat
use Rattle.c_tree.specs.declared.typed.Stat.TheFolds.{fold-Stat}
use Rattle.c_limits.specs.Sums.{or_0}

-- the greatest of the depth of operand i, and i
abbrev pub deepest_from : ℕ → List ℕ → ℕ
deepest_from i [] = 0
deepest_from i (d ∷ ds) = max (d + i) (deepest_from (i + 1) ds)

abbrev pub node_depth : List ℕ → ℕ
node_depth ds = 2 + deepest_from 0 ds

abbrev pub conversion_depth : CType → ℕ
conversion_depth type.Schar = 4
conversion_depth type.Uchar = 4
conversion_depth _ = 0

-- the index is the one operand of an element
abbrev pub expression_depth : TypedExpr-F ℕ → ℕ
expression_depth (Constant h v) = 2
expression_depth (Object h x) = 2
expression_depth (Convert h a) = conversion_depth h.of + a
expression_depth (Element h x i) = node_depth (i ∷ [])
expression_depth (Assign h a b) = node_depth (a ∷ b ∷ [])
expression_depth (Compound h a o b) = node_depth (a ∷ b ∷ [])
expression_depth (Before h o a) = node_depth (a ∷ [])
expression_depth (After h a o) = node_depth (a ∷ [])
expression_depth (Binary h a o b) = node_depth (a ∷ b ∷ [])
expression_depth (Unary h o a) = node_depth (a ∷ [])
expression_depth (Comma h a b) = node_depth (a ∷ b ∷ [])
expression_depth (Conditional h a b c) = node_depth (a ∷ b ∷ c ∷ [])
expression_depth (Call h f es) = node_depth es

abbrev pub depth_of : TypedExpr → ℕ
depth_of = fold-TypedExpr ℕ expression_depth

-- of operands from the i-th on
abbrev pub deepest_of : ℕ → List TypedExpr → ℕ
deepest_of i es = deepest_from i (map depth_of es)

abbrev pub greatest : List ℕ → ℕ
greatest [] = 0
greatest (x ∷ xs) = max x (greatest xs)

-- the most arguments of a call in it
abbrev pub expression_arguments : TypedExpr-F ℕ → ℕ
expression_arguments (Constant h v) = 0
expression_arguments (Object h x) = 0
expression_arguments (Convert h a) = a
expression_arguments (Element h x i) = i
expression_arguments (Assign h a b) = max a b
expression_arguments (Compound h a o b) = max a b
expression_arguments (Before h o a) = a
expression_arguments (After h a o) = a
expression_arguments (Binary h a o b) = max a b
expression_arguments (Unary h o a) = a
expression_arguments (Comma h a b) = max a b
expression_arguments (Conditional h a b c) = max a (max b c)
expression_arguments (Call h f es) = max (length es) (greatest es)

abbrev pub arguments_of : TypedExpr → ℕ
arguments_of = fold-TypedExpr ℕ expression_arguments

abbrev pub most_of : List TypedExpr → ℕ
most_of es = greatest (map arguments_of es)

-- ---- the greatest over the full expressions of a statement (C11 6.8p4), 0 where it has none

abbrev pub in_option : (TypedExpr → ℕ) → Option TypedExpr → ℕ
in_option f None = 0
in_option f (Some e) = f e

abbrev pub in_list : (TypedExpr → ℕ) → List TypedExpr → ℕ
in_list f [] = 0
in_list f (e ∷ es) = max (f e) (in_list f es)

abbrev pub in_init : (TypedExpr → ℕ) → LocalInit → ℕ
in_init f init.Absent = 0
in_init f (init.Value e) = f e
in_init f (init.List es) = in_list f es

abbrev pub in_locals : (TypedExpr → ℕ) → List Local → ℕ
in_locals f [] = 0
in_locals f (l ∷ ls) = max (in_init f l.init) (in_locals f ls)

abbrev pub in_start : (TypedExpr → ℕ) → Start → ℕ
in_start f start.Absent = 0
in_start f (start.Value e) = f e
in_start f (start.Declared at ls) = in_locals f ls

abbrev pub in_statement : (TypedExpr → ℕ) → stat.Stat-F ℕ → ℕ
in_statement f (stat.Block at ss) = greatest ss
in_statement f (stat.Declare at ls) = in_locals f ls
in_statement f (stat.Evaluate at e) = in_option f e
in_statement f (stat.If at e a b) = max (f e) (max a (or_0 b))
in_statement f (stat.While at e a) = max (f e) a
in_statement f (stat.DoWhile at a e) = max (f e) a
in_statement f (stat.For at first test step a) = max (max (in_start f first) (in_option f test)) (max (in_option f step) a)
in_statement f (stat.Switch at e ss) = max (greatest ss) (f e)
in_statement f (stat.Case at v a) = a
in_statement f (stat.Default at a) = a
in_statement f (stat.Break at) = 0
in_statement f (stat.Continue at) = 0
in_statement f (stat.Return at e) = in_option f e

abbrev pub greatest_in : (TypedExpr → ℕ) → Stat → ℕ
greatest_in f = fold-Stat ℕ (in_statement f)

abbrev pub in_block : (TypedExpr → ℕ) → List Stat → ℕ
in_block f ss = greatest (map (greatest_in f) ss)

abbrev pub in_else : (TypedExpr → ℕ) → Option Stat → ℕ
in_else f None = 0
in_else f (Some s) = greatest_in f s
