-- The leaves of a transfer are those that its text can spell.
use Rattle.std.proofs.Common.{◌≡◌, ℕ, ◌<◌, ◌^◌, Option, Some, None, List, [], ◌∷◌, length}
use Rattle.std.specs.List.{All}
use Rattle.std.proofs.lemmas.List.Elements.{All-nil, All-cons}
use Rattle.std.proofs.lemmas.Option.{slice_get_within}
use Rattle.rtl_tree.specs.Trees.{Tree, Number, Symbol, CodeLabel, Read, Load, NoPair}
use Rattle.rtl_tree.specs.Moves.{Goal, Move}
use Rattle.rtl_tree.specs.declared.cells.Cell.{Cell}
use Rattle.rtl_tree.specs.declared.cells.Cell.TheVariants.{Flag}
use Rattle.rtl_tree.specs.declared.cells.Lab.TheVariants.{Block, Function}
use Rattle.rtl_norm_form.proofs.Leaves.{AllLeaves, AllLeavesOfGoal, AllLeavesOfMove}
use Rattle.rtl_spelling.specs.Holes.{leaf_named}
use Rattle.rtl_spelling.specs.Spelling.{Context, Placed, Said, goal_of_leaf, IsSpelledCell, Spells, SpellsPlace, SpellsMove, SpellsTransfer, number, symbol, function, block, cell, memory, unary, binary, test, hole, to_cell, to_memory, to_hole, value, lost, last, more}
use Rattle.rtl_spelling.specs.Contract.{said_of}

-- a property of each leaf that can be spelled
pub record IsOfSpelled (c : Context) (P : Tree → Type 0) : Type 0 where
  pub of_number : (n : ℕ) → n < 2 ^ c.width → P (Number n)
  pub of_symbol : (k : ℕ) → k < length c.objects → P (Symbol k)
  pub of_function : (k : ℕ) → k < length c.functions → P (CodeLabel (Function k))
  pub of_block : (k : ℕ) → k < 2 ^ 32 → P (CodeLabel (Block k))
  pub of_cell : (x : Cell) → IsSpelledCell x → P (Read x)
  pub of_lost : P NoPair
  pub of_hole : (name : List ℕ) (leaf : Tree) → leaf_named c.holes name ≡ Some leaf → AllLeaves P leaf

module _ (c : Context) (P : Tree → Type 0) (p : IsOfSpelled c P) where
  tree_leaves : (d : ℕ) (t : Tree) (ps : List Placed) → Spells c d t ps → AllLeaves P t
  tree_leaves _ _ _ (number d n h) = p.of_number n h
  tree_leaves _ _ _ (symbol d k name e) = p.of_symbol k (slice_get_within c.objects k name e)
  tree_leaves _ _ _ (function d k name e) = p.of_function k (slice_get_within c.functions k name e)
  tree_leaves _ _ _ (block d k h) = p.of_block k h
  tree_leaves _ _ _ (cell d x h) = p.of_cell x h
  tree_leaves _ _ _ (memory d w a ps s) = tree_leaves _ a ps s
  tree_leaves _ _ _ (unary d o a ps b s) = tree_leaves _ a ps s
  tree_leaves _ _ _ (binary d o a b ps qs s r) = (tree_leaves _ a ps s, tree_leaves _ b qs r)
  tree_leaves _ _ _ (test d r n h) = p.of_cell (Flag n) h
  tree_leaves _ _ _ (hole d name leaf e) = p.of_hole name leaf e

  abbrev AreLeavesOf : Option Goal → Type 0
  AreLeavesOf (Some g) = AllLeavesOfGoal P g
  AreLeavesOf None = Unit {0}

  leaf_as_place : (t : Tree) → AllLeaves P t → AreLeavesOf (goal_of_leaf t)
  leaf_as_place (Read x) h = h
  leaf_as_place (Load w a) h = h
  leaf_as_place _ h = tt

  place_leaves : (g : Option Goal) (ps : List Placed) → SpellsPlace c g ps → AreLeavesOf g
  place_leaves _ _ (to_cell x h) = p.of_cell x h
  place_leaves _ _ (to_memory w a ps s) = tree_leaves 2 a ps s
  place_leaves _ _ (to_hole name leaf e) = leaf_as_place leaf (p.of_hole name leaf e)

  abbrev AreLeavesOfSaid : Said → Type 0
  AreLeavesOfSaid s = AreLeavesOf s.to × AllLeaves P s.value

  move_leaves : (s : Said) (ps : List Placed) → SpellsMove c s ps → AreLeavesOfSaid s
  move_leaves _ _ (value g t ps qs h s) = (place_leaves g ps h, tree_leaves 1 t qs s)
  move_leaves _ _ (lost g ps h) = (place_leaves g ps h, p.of_lost)

  abbrev AreLeavesOfAll : List Said → Type 0
  AreLeavesOfAll [] = Unit {0}
  AreLeavesOfAll (s ∷ ss) = AreLeavesOfSaid s × AreLeavesOfAll ss

  said_leaves : (ss : List Said) (ps : List Placed) → SpellsTransfer c ss ps → AreLeavesOfAll ss
  said_leaves _ _ (last s ps m) = (move_leaves s ps m, tt)
  said_leaves _ _ (more s ss ps qs m r) = (move_leaves s ps m, said_leaves ss qs r)

  all_leaves : (ms : List Move) → AreLeavesOfAll (said_of ms) → All (AllLeavesOfMove P) ms
  all_leaves [] h = All-nil (AllLeavesOfMove P)
  all_leaves (m ∷ ms) h = All-cons (AllLeavesOfMove P) m ms h.0 (all_leaves ms h.1)

  pub spelled_leaves : (ms : List Move) (ps : List Placed) → SpellsTransfer c (said_of ms) ps → All (AllLeavesOfMove P) ms
  spelled_leaves ms ps s = all_leaves ms (said_leaves (said_of ms) ps s)
