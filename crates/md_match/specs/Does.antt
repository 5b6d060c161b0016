-- When a row with a binding does a transfer.
use Rattle.std.specs.Prelude.{◌≡◌, ◌≢◌, AllPairs, filter_map, ℕ, ◌<◌, ◌≤◌, Bool, true, false, ◌||◌, ◌==◌, List, [], ◌∷◌, length, set, slice_get, take, Option, Some, None}
use Rattle.rtl_tree.specs.Trees.{Tree, Read, Load, Unary, Binary, AnyNumber, AnyName}
use Rattle.rtl_tree.specs.Moves.{Move}
use Rattle.rtl_tree.specs.Likeness.{IsAlike}
use Rattle.rtl_tree.specs.declared.cells.Cell.{Cell}
use Rattle.rtl_tree.specs.declared.cells.Cell.TheVariants.{Hole as RegisterHole}
use Rattle.md_rows.specs.declared.row.Hole.{Hole}
use Rattle.md_rows.specs.declared.instance.Bound.{Bound}
use Rattle.md_rows.specs.Instances.{filled, filled_goal, assigned_register, AllFit}
use Rattle.md_match.specs.Searches.{Marks, no_marks, is_marked, goal_tree, unary_traps, binary_traps, occurs_in_move}

-- an assignment of a row, filled, is alike an assignment: their places, and their values
pub record IsAlikeMove (b : List Bound) (r e : Move) : Type 0 where
  pub place : IsAlike (filled b (goal_tree r.to)) (goal_tree e.to)
  pub value : IsAlike (filled b r.value) e.value

-- each assignment of a transfer is alike one of the row's that has no mark yet and gets one
pub data Takes (row : List Move) (b : List Bound) : Marks → List Move → Marks → Type 0 where
  all_taken : (used : Marks) → Takes row b used [] used
  taken : (e : Move) (es : List Move) (j : ℕ) (r : Move) (used left : Marks) → slice_get row j ≡ Some r → is_marked used j ≡ false
      → IsAlikeMove b r e → Takes row b (set used j true) es left → Takes row b used (e ∷ es) left

-- whether hole h stands in a tree
abbrev pub has_hole : ℕ → Tree → Bool
has_hole h (Read (RegisterHole k)) = h == k
has_hole h (AnyNumber k) = h == k
has_hole h (AnyName k) = h == k
has_hole h (Load w a) = has_hole h a
has_hole h (Unary o a) = has_hole h a
has_hole h (Binary o a b) = has_hole h a || has_hole h b
has_hole h _ = false

-- an assignment of the row that has a mark, or that has none
pub record IsMarked (row : List Move) (used : Marks) (mark : Bool) (r : Move) : Type 0 where
  pub place : ℕ
  pub is : slice_get row place ≡ Some r
  pub marked : is_marked used place ≡ mark

-- hole h stands in a marked assignment
pub record IsHoleOfMarked (row : List Move) (used : Marks) (h : ℕ) : Type 0 where
  pub move : Move
  pub marked : IsMarked row used true move
  pub has : (has_hole h (goal_tree move.to) || has_hole h move.value) ≡ true

-- a tree of the row occurs in a marked assignment, both filled
pub record IsPartOfMarked (row : List Move) (used : Marks) (b : List Bound) (x : Tree) : Type 0 where
  pub move : Move
  pub marked : IsMarked row used true move
  pub part : occurs_in_move (filled b) x move ≡ true

-- each node of a tree that can trap has a property
abbrev pub AllTraps : (Tree → Type 0) → Tree → Type 0
AllTraps P (Load w a) = P (Load w a) × AllTraps P a
AllTraps P (Unary o a) = (unary_traps o ≡ true → P (Unary o a)) × AllTraps P a
AllTraps P (Binary o a b) = (binary_traps o ≡ true → P (Binary o a b)) × AllTraps P a × AllTraps P b
AllTraps P _ = Unit {0}

-- the register or temporary that an assignment of the row is to, once it is filled
abbrev pub assigned : List Bound → Move → Option Cell
assigned b r = assigned_register (filled_goal b r.to)

-- With words of w bits and the general registers g, a row with the binding b does a transfer: each assignment of the transfer is
-- alike one of the row's of its own, which is marked; the others are idle and trap only where a marked one does; every hole is bound
-- by a marked one; and no two assigned registers become one.
pub record Does (w g : ℕ) (holes : List Hole) (idle : Move → Bool) (row es : List Move) (b : List Bound) (marks : Marks) : Type 0 where
  pub fit : AllFit w g holes b
  pub takes : Takes row b no_marks es marks
  pub others : (r : Move) → IsMarked row marks false r → idle r ≡ true
  pub traps : (r : Move) → IsMarked row marks false r → AllTraps (IsPartOfMarked row marks b) r.value
  pub bound : (h : ℕ) → h < length holes → IsHoleOfMarked row marks h
  pub different : AllPairs (λ c d. c ≢ d) (filter_map (assigned b) row)

-- each hole of a tree is one of the row's
abbrev pub HasHolesBelow : ℕ → Tree → Type 0
HasHolesBelow n (Read (RegisterHole h)) = h < n
HasHolesBelow n (AnyNumber h) = h < n
HasHolesBelow n (AnyName h) = h < n
HasHolesBelow n (Load w a) = HasHolesBelow n a
HasHolesBelow n (Unary o a) = HasHolesBelow n a
HasHolesBelow n (Binary o a b) = HasHolesBelow n a × HasHolesBelow n b
HasHolesBelow n _ = Unit {0}

-- a row as the text of a description can have it: at most eight holes and six assignments, and no other holes in these
pub record IsRow (holes : List Hole) (row : List Move) : Type 0 where
  pub few_holes : length holes ≤ 8
  pub few_moves : length row ≤ 6
  pub places : (j : ℕ) (r : Move) → slice_get row j ≡ Some r → HasHolesBelow (length holes) (goal_tree r.to)
  pub values : (j : ℕ) (r : Move) → slice_get row j ≡ Some r → HasHolesBelow (length holes) r.value

-- the values of holes that are all known
abbrev pub known : List (Option Bound) → List Bound
known [] = []
known (Some v ∷ s) = v ∷ known s
known (None ∷ s) = known s

-- what is found: the binding, and which assignments of the row take one of the transfer's
pub record IsDone (w g : ℕ) (holes : List Hole) (idle : Move → Bool) (row es : List Move) (u : List (Option Bound)) : Type 0 where
  pub marks : Marks
  pub does : Does w g holes idle row es (known (take (length holes) u)) marks
