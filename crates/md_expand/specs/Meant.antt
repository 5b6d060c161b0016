-- Leaves of the program and those of texts.
use Rattle.std.specs.Prelude.{◌≡◌, ℕ, List, [], ◌∷◌, Option, None, option_and_then, slice_get, unwrap_or}
use Rattle.rtl_tree.specs.declared.cells.Cell.TheVariants.{Hole}
use Rattle.rtl_tree.specs.Trees.{Tree, Read, NoPair, tree_of}
use Rattle.rtl_tree.specs.Moves.{Goal, ToCell}
use Rattle.rtl_spelling.specs.Holes.{Open, leaf_named}
use Rattle.md_expand.specs.Like.{IsLike, hole_in}
use Rattle.md_expand.specs.declared.leaves.Meaning.{Meaning}

-- the tree of the first hole of a name, and `lost` where there is none
abbrev pub tree_named : List Open → List ℕ → Tree
tree_named holes name = unwrap_or (leaf_named holes name) NoPair

-- the meaning stands for a tree: it is like it, equal to it where the holes are few, and knows the number of a register's hole
pub record IsMeant (few : Type 0) (t : Tree) (m : Meaning) : Type 0 where
  pub like : IsLike t (tree_of m.tree)
  pub same : few → tree_of m.tree ≡ t
  pub register : m.register ≡ hole_in t

abbrev pub AllMeant : Type 0 → List Tree → List Meaning → Type 0
AllMeant few [] [] = Unit {0}
AllMeant few (t ∷ ts) (m ∷ ms) = IsMeant few t m × AllMeant few ts ms
AllMeant few _ _ = ⊥

-- the number of the register hole that a tree is with these leaves
abbrev pub register_in : List Meaning → Tree → Option ℕ
register_in leaves (Read (Hole n)) = option_and_then (λ m. m.register) (slice_get leaves n)
register_in leaves t = None

-- the number of the register hole that a place is with these leaves
abbrev pub goal_register : List Meaning → Goal → Option ℕ
goal_register leaves (ToCell (Hole n)) = option_and_then (λ m. m.register) (slice_get leaves n)
goal_register leaves g = None

abbrev pub said_register : List Meaning → Option Goal → Option ℕ
said_register leaves to = option_and_then (goal_register leaves) to
