-- Leaves that stand in no shape.
use Rattle.std.proofs.Common.{◌≡◌, ℕ, None, refl}
use Rattle.rtl_tree.specs.Trees.{tree_of}
use Rattle.rtl_tree.specs.declared.cells.Cell.{Cell as CellType}
use Rattle.rtl_tree.specs.declared.cells.Lab.{Lab}
use Rattle.rtl_tree.specs.declared.expressions.Expr.{Expr}
use Rattle.rtl_tree.specs.declared.expressions.Expr.TheVariants.{Num, Sym, Label, Cell as Leaf, Lost, NumHole, NameHole}
use Rattle.md_match.specs.Slots.{Slots, Fit}
use Rattle.md_match.specs.Find.{leaf}
use Rattle.md_shapes.specs.declared.drawing.Drawn.{Drawn}
use Rattle.md_shapes.specs.declared.drawing.Drawn.TheVariants.{Number, Symbol, Label as LabelLeaf, Cell, Mem', Un', Bin'}
use Rattle.md_shapes.specs.Drawings.{drawn_tree}

pub other_leaf : (f : Fit) (r : Expr) (e : Drawn) (s : Slots)
    → ((n : ℕ) → r ≡ Num n → ⊥) → ((n : ℕ) → r ≡ Sym n → ⊥) → ((l : Lab) → r ≡ Label l → ⊥) → ((c : CellType) → r ≡ Leaf c → ⊥)
    → ((n : ℕ) → r ≡ NumHole n → ⊥) → ((n : ℕ) → r ≡ NameHole n → ⊥)
    → None ≡ leaf f (tree_of r) (drawn_tree e) s
unfolding leaf
other_leaf f (Num n) e s a b c d g h = absurd (a n refl)
other_leaf f (Sym n) e s a b c d g h = absurd (b n refl)
other_leaf f (Label n) e s a b c d g h = absurd (c n refl)
other_leaf f (Leaf n) e s a b c d g h = absurd (d n refl)
other_leaf f (NumHole n) e s a b c d g h = absurd (g n refl)
other_leaf f (NameHole n) e s a b c d g h = absurd (h n refl)
other_leaf f Lost (Number m) s a b c d g h = refl
other_leaf f Lost (Symbol m) s a b c d g h = refl
other_leaf f Lost (LabelLeaf m) s a b c d g h = refl
other_leaf f Lost (Cell m) s a b c d g h = refl
other_leaf f Lost (Mem' w p x) s a b c d g h = refl
other_leaf f Lost (Un' o p x) s a b c d g h = refl
other_leaf f Lost (Bin' o p x q y) s a b c d g h = refl
other_leaf f _ e s a b c d g h = refl
