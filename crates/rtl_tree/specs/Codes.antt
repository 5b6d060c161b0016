-- How a proof stores trees and moves: a tree as an expression whose boxes are at no address.
use Rattle.std.specs.Prelude.{◌≡◌, ◌⊎◌}
use Rattle.std.proofs.Common.{refl, inl, inr, ap, ◌∙◌, Box, Global}
use Rattle.std.specs.Ptr.{null_ptr}
use Rattle.std.specs.Coded.{Coded, code_by, coded×, coded⊎}
use Rattle.rtl_tree.specs.contracts.cells.Cell as c
use Rattle.rtl_tree.specs.contracts.expressions.Width as w
use Rattle.rtl_tree.specs.contracts.expressions.Expr as e
use Rattle.rtl_tree.specs.declared.cells.Cell.{Cell}
use Rattle.rtl_tree.specs.declared.expressions.Width.{Width}
use Rattle.rtl_tree.specs.declared.expressions.Expr.{Expr}
use Rattle.rtl_tree.specs.declared.expressions.Expr.TheVariants.{Num, Sym, Label, Cell as Leaf, Mem', Un', Bin', Lost, NumHole, NameHole}
use Rattle.rtl_tree.specs.Trees.{Tree, Number, Symbol, CodeLabel, Read, Load, Unary, Binary, NoPair, AnyNumber, AnyName, tree_of}
use Rattle.rtl_tree.specs.Moves.{Goal, ToCell, ToMemory, Move}

-- the address of a box that is not there
abbrev pub nowhere : Box (Unit {0}) Global
nowhere = record { ptr = null_ptr; alloc = record { memory = record { seal = tt } }; value = tt }

abbrev pub expr_of : Tree → Expr
expr_of (Number n) = Num n
expr_of (Symbol n) = Sym n
expr_of (CodeLabel l) = Label l
expr_of (Read c) = Leaf c
expr_of (Load w a) = Mem' w nowhere (expr_of a)
expr_of (Unary o a) = Un' o nowhere (expr_of a)
expr_of (Binary o a b) = Bin' o nowhere (expr_of a) nowhere (expr_of b)
expr_of NoPair = Lost
expr_of (AnyNumber n) = NumHole n
expr_of (AnyName n) = NameHole n

pub tree_of-expr_of : (t : Tree) → tree_of (expr_of t) ≡ t
tree_of-expr_of (Number n) = refl
tree_of-expr_of (Symbol n) = refl
tree_of-expr_of (CodeLabel l) = refl
tree_of-expr_of (Read c) = refl
tree_of-expr_of (Load w a) = ap (Load w) (tree_of-expr_of a)
tree_of-expr_of (Unary o a) = ap (Unary o) (tree_of-expr_of a)
tree_of-expr_of (Binary o a b) =
    ap (λ x. Binary o x (tree_of (expr_of b))) (tree_of-expr_of a) ∙ ap (Binary o a) (tree_of-expr_of b)
tree_of-expr_of NoPair = refl
tree_of-expr_of (AnyNumber n) = refl
tree_of-expr_of (AnyName n) = refl

abbrev pub tree_code : Coded Tree
tree_code = code_by Expr e.the_row.coded expr_of tree_of tree_of-expr_of

-- a goal is stored as a cell, or as a width and a tree
abbrev pub stored_goal : Goal → Cell ⊎ (Width × Expr)
stored_goal (ToCell c) = inl c
stored_goal (ToMemory w a) = inr (w, expr_of a)

abbrev pub goal_stored : Cell ⊎ (Width × Expr) → Goal
goal_stored (inl c) = ToCell c
goal_stored (inr p) = ToMemory p.0 (tree_of p.1)

pub goal_stored-stored_goal : (g : Goal) → goal_stored (stored_goal g) ≡ g
goal_stored-stored_goal (ToCell c) = refl
goal_stored-stored_goal (ToMemory w a) = ap (ToMemory w) (tree_of-expr_of a)

abbrev pub goal_code : Coded Goal
goal_code =
    code_by (Cell ⊎ (Width × Expr)) (coded⊎ c.the_row.coded (coded× w.the_row.coded e.the_row.coded))
    stored_goal goal_stored goal_stored-stored_goal

abbrev pub move_code : Coded Move
move_code =
    code_by (Goal × Tree) (coded× goal_code tree_code)
    (λ m. (m.to, m.value)) (λ p. record { to = p.0; value = p.1 }) (λ _. refl)
