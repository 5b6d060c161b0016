-- When a transfer does what another does, but for flags; and the premises under which an instruction does so.
use Rattle.std.specs.Prelude.{◌≡◌, ℕ, true, false, List, map, slice_get, Some, Ok, All}
use Rattle.rtl_word.specs.Words.{IsWordSize}
use Rattle.rtl_tree.specs.declared.cells.Cell.{Cell}
use Rattle.rtl_tree.specs.declared.cells.Cell.TheVariants.{Hard, Temp, Flag, Pc}
use Rattle.rtl_tree.specs.declared.expressions.Width.{Width}
use Rattle.rtl_tree.specs.Trees.{Tree, Number, Load, Unary, Binary}
use Rattle.rtl_tree.specs.Moves.{ToCell, ToMemory, Move}
use Rattle.rtl_tree.specs.WellFormed.{IsWellFormed}
use Rattle.rtl_norm.specs.Transfers.{norm_moves, IsMoveFitting}
use Rattle.rtl_effect.specs.Views.{View}
use Rattle.rtl_effect.specs.Effects.{assigned, Done, effect}
use Rattle.rtl_norm_value.specs.Kept.{IsWordView}
use Rattle.rtl_norm_value.specs.Effect.{with_normal_jump}
use Rattle.md_rows.specs.declared.instance.Bound.{Bound}
use Rattle.md_rows.specs.Instances.{filled_move}
use Rattle.md_match.specs.Searches.{Marks, no_marks, goal_tree, is_flag_of}
use Rattle.md_match.specs.Does.{Takes, IsMarked, AllTraps, IsPartOfMarked}
use Rattle.md_filled.specs.Held.{IsHeld}

-- what was done is the same, but for flags that the first transfer doesn't assign
pub record IsSameBut (wanted : List Move) (d e : Done) : Type 0 where
  pub temps : (n : ℕ) → e.view.cells (Temp n) ≡ d.view.cells (Temp n)
  pub registers : (n : ℕ) → e.view.cells (Hard n) ≡ d.view.cells (Hard n)
  pub flags : (n : ℕ) (t : Tree) → assigned wanted (Flag n) ≡ Some t → e.view.flags n ≡ d.view.flags n
  pub bytes : (a : ℕ) → e.view.bytes a ≡ d.view.bytes a
  pub input : e.view.input ≡ d.view.input
  pub place : e.place ≡ d.place
  pub output : e.output ≡ d.output
  pub halt : e.halt ≡ d.halt

-- wherever the one can be done on words, the other does the same
pub record DoesAs (w : ℕ) (wanted ms : List Move) : Type 0 where
  pub does : (v : View) (d : Done) → IsWordView w v → effect w wanted v ≡ Ok d → (e : Done) × (effect w ms v ≡ Ok e) × IsSameBut wanted d e

-- in each hole of an assignment stands a value of its kind
pub record IsHeldMove (w : ℕ) (b : List Bound) (m : Move) : Type 0 where
  pub place : IsHeld w b (goal_tree m.to)
  pub value : IsHeld w b m.value

-- a row's transfer as an accepted description has it, with values for its holes
pub record IsRowFilled (w : ℕ) (b : List Bound) (effects : List Move) : Type 0 where
  pub held : All (IsHeldMove w b) effects
  pub numbers : All (IsMoveFitting w) effects
  pub formed : IsWellFormed effects

-- no number stands in a tree
abbrev pub IsNumberless : Tree → Type 0
IsNumberless (Number n) = ⊥
IsNumberless (Load d a) = IsNumberless a
IsNumberless (Unary o a) = IsNumberless a
IsNumberless (Binary o a b) = IsNumberless a × IsNumberless b
IsNumberless _ = Unit {0}

-- a transfer that assigns no cell twice, stores once at most, and jumps to a place that no number says
pub record IsSimple (es : List Move) : Type 0 where
  pub once : (i j : ℕ) (m n : Move) (c : Cell) → slice_get es i ≡ Some m → slice_get es j ≡ Some n → m.to ≡ ToCell c → n.to ≡ ToCell c → m ≡ n
  pub one_store : (i j : ℕ) (m n : Move) (d f : Width) (a b : Tree) → slice_get es i ≡ Some m → slice_get es j ≡ Some n → m.to ≡ ToMemory d a → n.to ≡ ToMemory f b
      → m ≡ n
  pub jump : (i : ℕ) (m : Move) → slice_get es i ≡ Some m → m.to ≡ ToCell Pc → IsNumberless m.value

-- A row that does a transfer, its other assignments going to flags and trapping only where a marked one does, makes a transfer that does
-- it too.
abbrev pub RowDoesAs : Type 0
RowDoesAs =
    (w : ℕ) (b : List Bound) (effects es : List Move) (marks : Marks) → IsWordSize w → IsRowFilled w b effects → IsSimple es
    → Takes (norm_moves w effects) b no_marks es marks
    → ((r : Move) → IsMarked (norm_moves w effects) marks false r → is_flag_of 255 r.to ≡ true)
    → ((r : Move) → IsMarked (norm_moves w effects) marks false r → AllTraps (IsPartOfMarked (norm_moves w effects) marks b) r.value)
    → DoesAs w es (with_normal_jump w (map (filled_move b) effects))
