-- The ways in which a row's trees can be filled so that they are alike trees, each with its choices, and their order.
use Rattle.std.specs.Prelude.{◌≡◌, ℕ, ◌<◌, true, false, List, [], ◌∷◌, set, slice_get, Option, Some, None}
use Rattle.rtl_tree.specs.Trees.{Tree, Load, Unary, Binary}
use Rattle.rtl_tree.specs.Moves.{Move}
use Rattle.rtl_tree.specs.Likeness.{commutes}
use Rattle.rtl_tree.specs.declared.expressions.Width.{Width}
use Rattle.rtl_tree.specs.declared.expressions.UnOp.{UnOp}
use Rattle.rtl_tree.specs.declared.expressions.BinOp.{BinOp}
use Rattle.md_match.specs.Slots.{Slots, Fit}
use Rattle.md_match.specs.Find.{leaf}
use Rattle.md_match.specs.Searches.{Marks, is_marked, goal_tree, Search, accept}

-- whether the operands of each node are swapped, as a tree of the same form
pub data Choice : Type 0 where
  Here : Choice
  Under : Choice → Choice
  Straight : Choice → Choice → Choice
  Crossed : Choice → Choice → Choice

-- with these choices the slots s become the slots t
pub data Way (f : Fit) : Tree → Tree → Choice → Slots → Slots → Type 0 where
  at_leaf : (r e : Tree) (s t : Slots) → leaf f r e s ≡ Some t → Way f r e Here s t
  at_load : (w : Width) (a c : Tree) (i : Choice) (s t : Slots) → Way f a c i s t → Way f (Load w a) (Load w c) (Under i) s t
  at_unary : (o : UnOp) (a c : Tree) (i : Choice) (s t : Slots) → Way f a c i s t → Way f (Unary o a) (Unary o c) (Under i) s t
  straight : (o : BinOp) (a b c d : Tree) (i j : Choice) (s m t : Slots)
      → Way f a c i s m → Way f b d j m t → Way f (Binary o a b) (Binary o c d) (Straight i j) s t
  crossed : (o : BinOp) (a b c d : Tree) (i j : Choice) (s m t : Slots) → commutes o ≡ true
      → Way f b c i s m → Way f a d j m t → Way f (Binary o a b) (Binary o c d) (Crossed i j) s t

-- the order of lists of choices: outer nodes before inner ones, left ones before right ones, unswapped before swapped
pub data Before : Choice → Choice → Type 0 where
  under : (i j : Choice) → Before i j → Before (Under i) (Under j)
  unswapped : (i j k l : Choice) → Before (Straight i j) (Crossed k l)
  left_straight : (i j k l : Choice) → Before i k → Before (Straight i j) (Straight k l)
  right_straight : (i j l : Choice) → Before j l → Before (Straight i j) (Straight i l)
  left_crossed : (i j k l : Choice) → Before i k → Before (Crossed i j) (Crossed k l)
  right_crossed : (i j l : Choice) → Before j l → Before (Crossed i j) (Crossed i l)

-- u is what the first way gives with which k goes on
pub record Found (f : Fit) (r e : Tree) (k : Slots → Option Slots) (s u : Slots) : Type 0 where
  pub by : Choice
  pub to : Slots
  pub way : Way f r e by s to
  pub goes : k to ≡ Some u
  pub first : (j : Choice) (v : Slots) → Way f r e j s v → Before j by → k v ≡ None

-- for each assignment of a transfer: the place of the row's, and the choices in its place and in its value
pub data Choices : Type 0 where
  Ended : Choices
  Next : ℕ → Choice → Choice → Choices → Choices

-- with these choices all assignments are taken, and the marks and slots become those at the end
pub data Ways (t : Search) : List Move → Choices → Marks → Slots → Marks → Slots → Type 0 where
  ended : (used : Marks) (s : Slots) → Ways t [] Ended used s used s
  next : (e : Move) (es : List Move) (j : ℕ) (r : Move) (p v : Choice) (cs : Choices) (used : Marks) (s a b : Slots) (left : Marks) (u : Slots)
      → slice_get t.row j ≡ Some r → is_marked used j ≡ false
      → Way t.fit (goal_tree r.to) (goal_tree e.to) p s a → Way t.fit r.value e.value v a b
      → Ways t es cs (set used j true) b left u
      → Ways t (e ∷ es) (Next j p v cs) used s left u

-- the order: by the place for the first assignment, then the choices in its place and in its value, then the next assignment's
pub data Earlier : Choices → Choices → Type 0 where
  by_place : (i j : ℕ) (p q v w : Choice) (cs ds : Choices) → i < j → Earlier (Next i p v cs) (Next j q w ds)
  by_goal : (j : ℕ) (p q v w : Choice) (cs ds : Choices) → Before p q → Earlier (Next j p v cs) (Next j q w ds)
  by_value : (j : ℕ) (p v w : Choice) (cs ds : Choices) → Before v w → Earlier (Next j p v cs) (Next j p w ds)
  by_rest : (j : ℕ) (p v : Choice) (cs ds : Choices) → Earlier cs ds → Earlier (Next j p v cs) (Next j p v ds)

-- u is what the first choices give that are accepted
pub record FoundAll (t : Search) (es : List Move) (used : Marks) (s u : Slots) : Type 0 where
  pub by : Choices
  pub left : Marks
  pub to : Slots
  pub ways : Ways t es by used s left to
  pub goes : accept t left to ≡ Some u
  pub first : (cs : Choices) (l : Marks) (v : Slots) → Ways t es cs used s l v → Earlier cs by → accept t l v ≡ None
