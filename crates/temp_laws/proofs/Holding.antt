-- The values of an instance are of the kinds of its row's holes.
use Rattle.std.proofs.Common.{◌≡◌, ℕ, zero, suc, ◌^◌, Bool, true, false, ◌&&◌, List, [], ◌∷◌, slice_get, Some, IsTrue, refl}
use Rattle.std.proofs.lemmas.Bool.{ltb-true}
use Rattle.rtl_tree.specs.declared.cells.Cell.TheVariants.{Hard, Temp, Flag, Pc, Input, Output, Halt, Hole as HoleCell}
use Rattle.rtl_tree.specs.Trees.{Tree, Number, Symbol, CodeLabel, Read, Load, Unary, Binary, NoPair, AnyNumber, AnyName}
use Rattle.rtl_tree.specs.Moves.{Move}
use Rattle.md_rows.specs.declared.row.Hole.{Hole}
use Rattle.md_rows.specs.declared.row.Hole.TheVariants.{Reg as RegHole, Num as NumHole, Sym as SymHole, Label as LabelHole}
use Rattle.md_rows.specs.declared.instance.Bound.{Bound}
use Rattle.md_rows.specs.declared.instance.Bound.TheVariants.{Reg, Num, Sym, Label}
use Rattle.md_rows.specs.Fits.{fits}
use Rattle.md_rows.specs.Instances.{AllFit}
use Rattle.md_match.specs.Searches.{goal_tree}
use Rattle.md_covers.specs.Covers.{is_register_hole, is_number_hole, is_name_hole, IsRowTree, IsRowMove}
use Rattle.md_filled.specs.Held.{IsRegister, IsWord, IsName, IsHeld}
use Rattle.md_filled.specs.Doing.{IsHeldMove}

clash : false ≡ true → ⊥
clash e = cc

both_of : (a b : Bool) → (a && b) ≡ true → (a ≡ true) × (b ≡ true)
both_of true b h = (refl, h)
both_of false b h = absurd (clash h)

module _ (w g : ℕ) where
  is_register : (h : Hole) (v : Bound) → IsTrue (fits w g h v) → is_register_hole (Some h) ≡ true → IsRegister (Some v)
  is_register (RegHole class) (Reg (Hard k)) f e = tt
  is_register (RegHole class) (Reg (Temp t)) f e = tt
  is_register (RegHole class) (Reg (Flag k)) f e = absurd (clash f)
  is_register (RegHole class) (Reg Pc) f e = absurd (clash f)
  is_register (RegHole class) (Reg Input) f e = absurd (clash f)
  is_register (RegHole class) (Reg Output) f e = absurd (clash f)
  is_register (RegHole class) (Reg Halt) f e = absurd (clash f)
  is_register (RegHole class) (Reg (HoleCell k)) f e = absurd (clash f)
  is_register (RegHole class) (Num v) f e = absurd (clash f)
  is_register (RegHole class) (Sym s) f e = absurd (clash f)
  is_register (RegHole class) (Label l) f e = absurd (clash f)
  is_register (NumHole low high inverted) v f e = absurd (clash e)
  is_register SymHole v f e = absurd (clash e)
  is_register LabelHole v f e = absurd (clash e)

  is_word : (h : Hole) (v : Bound) → IsTrue (fits w g h v) → is_number_hole (Some h) ≡ true → IsWord w (Some v)
  is_word (NumHole low high inverted) (Num v) f e = ltb-true v (2 ^ w) (both_of (_) (_) f).0
  is_word (NumHole low high inverted) (Reg c) f e = absurd (clash f)
  is_word (NumHole low high inverted) (Sym s) f e = absurd (clash f)
  is_word (NumHole low high inverted) (Label l) f e = absurd (clash f)
  is_word (RegHole class) v f e = absurd (clash e)
  is_word SymHole v f e = absurd (clash e)
  is_word LabelHole v f e = absurd (clash e)

  is_name : (h : Hole) (v : Bound) → IsTrue (fits w g h v) → is_name_hole (Some h) ≡ true → IsName (Some v)
  is_name SymHole (Sym s) f e = tt
  is_name SymHole (Reg c) f e = absurd (clash f)
  is_name SymHole (Num v) f e = absurd (clash f)
  is_name SymHole (Label l) f e = tt
  is_name LabelHole (Label l) f e = tt
  is_name LabelHole (Reg c) f e = absurd (clash f)
  is_name LabelHole (Num v) f e = absurd (clash f)
  is_name LabelHole (Sym s) f e = tt
  is_name (RegHole class) v f e = absurd (clash e)
  is_name (NumHole low high inverted) v f e = absurd (clash e)

  register_in : (hs : List Hole) (b : List Bound) (k : ℕ) → AllFit w g hs b → is_register_hole (slice_get hs k) ≡ true → IsRegister (slice_get b k)
  register_in [] b k f e = absurd (clash e)
  register_in (h ∷ hs) [] k f e = absurd f
  register_in (h ∷ hs) (v ∷ vs) zero f e = is_register h v f.0 e
  register_in (h ∷ hs) (v ∷ vs) (suc k) f e = register_in hs vs k f.1 e

  word_in : (hs : List Hole) (b : List Bound) (k : ℕ) → AllFit w g hs b → is_number_hole (slice_get hs k) ≡ true → IsWord w (slice_get b k)
  word_in [] b k f e = absurd (clash e)
  word_in (h ∷ hs) [] k f e = absurd f
  word_in (h ∷ hs) (v ∷ vs) zero f e = is_word h v f.0 e
  word_in (h ∷ hs) (v ∷ vs) (suc k) f e = word_in hs vs k f.1 e

  name_in : (hs : List Hole) (b : List Bound) (k : ℕ) → AllFit w g hs b → is_name_hole (slice_get hs k) ≡ true → IsName (slice_get b k)
  name_in [] b k f e = absurd (clash e)
  name_in (h ∷ hs) [] k f e = absurd f
  name_in (h ∷ hs) (v ∷ vs) zero f e = is_name h v f.0 e
  name_in (h ∷ hs) (v ∷ vs) (suc k) f e = name_in hs vs k f.1 e

  tree_held : (holes : List Hole) (b : List Bound) (t : Tree) → AllFit w g holes b → IsRowTree holes t → IsHeld w b t
  tree_held holes b (Number n) f r = tt
  tree_held holes b (Symbol n) f r = tt
  tree_held holes b (CodeLabel l) f r = tt
  tree_held holes b (Read (HoleCell k)) f r = register_in holes b k f r
  tree_held holes b (Read (Hard k)) f r = tt
  tree_held holes b (Read (Temp k)) f r = tt
  tree_held holes b (Read (Flag k)) f r = tt
  tree_held holes b (Read Pc) f r = tt
  tree_held holes b (Read Input) f r = tt
  tree_held holes b (Read Output) f r = tt
  tree_held holes b (Read Halt) f r = tt
  tree_held holes b (Load d a) f r = tree_held holes b a f r
  tree_held holes b (Unary o a) f r = tree_held holes b a f r
  tree_held holes b (Binary o a c) f r = (tree_held holes b a f r.0, tree_held holes b c f r.1)
  tree_held holes b NoPair f r = tt
  tree_held holes b (AnyNumber k) f r = word_in holes b k f r
  tree_held holes b (AnyName k) f r = name_in holes b k f r

  pub move_held : (holes : List Hole) (b : List Bound) (m : Move) → AllFit w g holes b → IsRowMove holes m → IsHeldMove w b m
  move_held holes b m f r = record { place = tree_held holes b (goal_tree m.to) f r.place; value = tree_held holes b m.value f r.value }
