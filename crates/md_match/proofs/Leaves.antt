-- Leaves of rows, filled, and what occurs in a tree.
use Rattle.std.proofs.Common.{◌≡◌, Bool, true, false, ◌||◌, Option, Some, None, is_some, refl, sym}
use Rattle.std.specs.Prelude.{slice_get}
use Rattle.rtl_tree.specs.Trees.{Tree, Number, Symbol, CodeLabel, Read, Load, Unary, Binary, NoPair, AnyNumber, AnyName, tree_of}
use Rattle.rtl_tree.specs.Same.{same_tree}
use Rattle.rtl_tree.specs.declared.cells.Cell.TheVariants.{Hard, Temp, Flag, Pc, Input, Output, Halt, Hole as RegisterHole}
use Rattle.rtl_tree.specs.declared.expressions.Width.{Width}
use Rattle.rtl_tree.specs.declared.expressions.UnOp.{UnOp}
use Rattle.rtl_tree.specs.declared.expressions.BinOp.{BinOp}
use Rattle.std.proofs.Common.{Box, Global}
use Rattle.rtl_tree.specs.declared.expressions.Expr.{Expr, Mem, Un, Bin}
use Rattle.rtl_tree.specs.declared.expressions.Expr.TheVariants.{Num, Sym, Label, Cell as Leaf, Mem', Un', Bin', Lost, NumHole, NameHole}
use Rattle.md_rows.specs.declared.instance.Bound.{Bound}
use Rattle.md_rows.specs.declared.instance.Bound.TheVariants.{Reg, Num as NumBound, Sym as SymBound, Label as LabelBound}
use Rattle.md_match.specs.Slots.{Slots}
use Rattle.md_match.specs.Searches.{fill, filled_with, occurs_by}
use Rattle.md_match.specs.Leaves.{leaf_kind, same_leaves}

leaf_same : (x y : Tree) → is_some (leaf_kind y) ≡ true → same_leaves (leaf_kind x) (leaf_kind y) ≡ same_tree x y
leaf_same x (Load w a) e = let k : false ≡ true = e in cc
leaf_same x (Unary o a) e = let k : false ≡ true = e in cc
leaf_same x (Binary o a b) e = let k : false ≡ true = e in cc
leaf_same (Number m) (Number n) e = refl
leaf_same (Symbol m) (Symbol n) e = refl
leaf_same (CodeLabel m) (CodeLabel n) e = refl
leaf_same (Read m) (Read n) e = refl
leaf_same NoPair NoPair e = refl
leaf_same (AnyNumber m) (AnyNumber n) e = refl
leaf_same (AnyName m) (AnyName n) e = refl
leaf_same _ _ e = refl

held_kind : (hole : Tree) (o : Option (Option Bound)) → is_some (leaf_kind hole) ≡ true → is_some (leaf_kind (filled_with hole o)) ≡ true
held_kind hole None e = e
held_kind hole (Some None) e = e
held_kind hole (Some (Some (Reg c))) e = refl
held_kind hole (Some (Some (NumBound c))) e = refl
held_kind hole (Some (Some (SymBound c))) e = refl
held_kind hole (Some (Some (LabelBound c))) e = refl

abbrev boxed : Box (Unit {0}) Global → Expr → Box Expr Global
boxed p a = record { ptr = p.ptr; alloc = p.alloc; value = a }

-- a tree against one that isn't inner
pub leaf_last : (s : Slots) (x : Tree) (b : Expr)
    → ((w : Width) (a : Box Expr Global) → b ≡ Mem w a → ⊥)
    → ((o : UnOp) (a : Box Expr Global) → b ≡ Un o a → ⊥)
    → ((o : BinOp) (a c : Box Expr Global) → b ≡ Bin o a c → ⊥)
    → same_leaves (leaf_kind x) (leaf_kind (fill s (tree_of b))) ≡ same_tree x (fill s (tree_of b))
leaf_last s x (Mem' w p a) m u b = absurd (m w (boxed p a) refl)
leaf_last s x (Un' w p a) m u b = absurd (u w (boxed p a) refl)
leaf_last s x (Bin' w p a q c) m u b = absurd (b w (boxed p a) (boxed q c) refl)
leaf_last s x (Num n) m u b = leaf_same x (Number n) refl
leaf_last s x (Sym n) m u b = leaf_same x (Symbol n) refl
leaf_last s x (Label n) m u b = leaf_same x (CodeLabel n) refl
leaf_last s x Lost m u b = leaf_same x NoPair refl
leaf_last s x (NumHole h) m u b = leaf_same x (filled_with (AnyNumber h) (slice_get s h)) (held_kind (AnyNumber h) (slice_get s h) refl)
leaf_last s x (NameHole h) m u b = leaf_same x (filled_with (AnyName h) (slice_get s h)) (held_kind (AnyName h) (slice_get s h) refl)
leaf_last s x (Leaf (RegisterHole h)) m u b =
    leaf_same x (filled_with (Read (RegisterHole h)) (slice_get s h)) (held_kind (Read (RegisterHole h)) (slice_get s h) refl)
leaf_last s x (Leaf (Hard n)) m u b = leaf_same x (Read (Hard n)) refl
leaf_last s x (Leaf (Temp n)) m u b = leaf_same x (Read (Temp n)) refl
leaf_last s x (Leaf (Flag n)) m u b = leaf_same x (Read (Flag n)) refl
leaf_last s x (Leaf Pc) m u b = leaf_same x (Read Pc) refl
leaf_last s x (Leaf Input) m u b = leaf_same x (Read Input) refl
leaf_last s x (Leaf Output) m u b = leaf_same x (Read Output) refl
leaf_last s x (Leaf Halt) m u b = leaf_same x (Read Halt) refl

left_true : (a b : Bool) → a ≡ true → true ≡ (a || b)
left_true true b e = refl
left_true false b e = let k : false ≡ true = e in cc

-- what is the whole tree occurs in it
pub occurs_whole : (g : Tree → Tree) (x t : Tree) → same_tree (g x) (g t) ≡ true → true ≡ occurs_by g x t
occurs_whole g x (Load w a) e = left_true (same_tree (g x) (g (Load w a))) (occurs_by g x a) e
occurs_whole g x (Unary o a) e = left_true (same_tree (g x) (g (Unary o a))) (occurs_by g x a) e
occurs_whole g x (Binary o a b) e = left_true (same_tree (g x) (g (Binary o a b))) (occurs_by g x a || occurs_by g x b) e
occurs_whole g x (Number n) e = sym e
occurs_whole g x (Symbol n) e = sym e
occurs_whole g x (CodeLabel n) e = sym e
occurs_whole g x (Read n) e = sym e
occurs_whole g x NoPair e = sym e
occurs_whole g x (AnyNumber n) e = sym e
occurs_whole g x (AnyName n) e = sym e
