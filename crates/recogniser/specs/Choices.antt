-- The lists of choices from which bindings come, and their order.
use Rattle.std.specs.Prelude.{◌≡◌, ◌⊎◌, ℕ, ◌<◌, Bool, true, false, List, [], ◌∷◌, ◌++◌, set, slice_get, Some}
use Rattle.rtl_tree.specs.Trees.{Tree, Load, Unary, Binary}
use Rattle.rtl_tree.specs.Moves.{Move}
use Rattle.rtl_tree.specs.Likeness.{commutes}
use Rattle.rtl_tree.specs.declared.expressions.Width.{Width}
use Rattle.rtl_tree.specs.declared.expressions.UnOp.{UnOp}
use Rattle.rtl_tree.specs.declared.expressions.BinOp.{BinOp}
use Rattle.md_rows.specs.declared.instance.Bound.{Bound}
use Rattle.md_rows.specs.Instances.{filled}
use Rattle.md_match.specs.Searches.{Marks, is_marked, goal_tree}

-- the place of the row's assignment to which one of the transfer's is alike, or whether the operands of a node are swapped
pub data Choice : Type 0 where
  Place : ℕ → Choice
  Unswapped : Choice
  Swapped : Choice

-- a lesser place comes before a greater one, and unswapped before swapped
abbrev pub Precedes : Choice → Choice → Type 0
Precedes (Place i) (Place j) = i < j
Precedes Unswapped Swapped = Unit {0}
Precedes _ _ = ⊥

-- the order of lists: the first choice in which they differ decides
abbrev pub Earlier : List Choice → List Choice → Type 0
Earlier (c ∷ cs) (d ∷ ds) = Precedes c d ⊎ ((c ≡ d) × Earlier cs ds)
Earlier _ _ = ⊥

abbrev pub is_leaf : Tree → Bool
is_leaf (Load w a) = false
is_leaf (Unary o a) = false
is_leaf (Binary o a b) = false
is_leaf t = true

-- A tree is alike another with these choices: whether the operands are swapped at each node of the other whose operands may be.
-- Outer nodes stand before inner ones, and left ones before right ones.
pub data IsAlikeBy : Tree → Tree → List Choice → Type 0 where
  leaves : (a : Tree) → is_leaf a ≡ true → IsAlikeBy a a []
  loads : (w : Width) (a c : Tree) (cs : List Choice) → IsAlikeBy a c cs → IsAlikeBy (Load w a) (Load w c) cs
  unaries : (o : UnOp) (a c : Tree) (cs : List Choice) → IsAlikeBy a c cs → IsAlikeBy (Unary o a) (Unary o c) cs
  ordered : (o : BinOp) (a b c d : Tree) (cs ds : List Choice) → commutes o ≡ false
      → IsAlikeBy a c cs → IsAlikeBy b d ds → IsAlikeBy (Binary o a b) (Binary o c d) (cs ++ ds)
  unswapped : (o : BinOp) (a b c d : Tree) (cs ds : List Choice) → commutes o ≡ true
      → IsAlikeBy a c cs → IsAlikeBy b d ds → IsAlikeBy (Binary o a b) (Binary o c d) (Unswapped ∷ cs ++ ds)
  swapped : (o : BinOp) (a b c d : Tree) (cs ds : List Choice) → commutes o ≡ true
      → IsAlikeBy b c cs → IsAlikeBy a d ds → IsAlikeBy (Binary o a b) (Binary o c d) (Swapped ∷ cs ++ ds)

-- Each assignment of a transfer is alike one of the row's that has no mark yet and gets one, with these choices: for each in order the
-- place of the row's, then the choices in the tree of its place, and then those in its value.
pub data TakesBy (row : List Move) (b : List Bound) : Marks → List Move → List Choice → Marks → Type 0 where
  all_taken : (used : Marks) → TakesBy row b used [] [] used
  taken : (e : Move) (es : List Move) (j : ℕ) (r : Move) (used left : Marks) (ps vs cs : List Choice)
      → slice_get row j ≡ Some r → is_marked used j ≡ false
      → IsAlikeBy (filled b (goal_tree r.to)) (goal_tree e.to) ps → IsAlikeBy (filled b r.value) e.value vs
      → TakesBy row b (set used j true) es cs left
      → TakesBy row b used (e ∷ es) (Place j ∷ ps ++ (vs ++ cs)) left
