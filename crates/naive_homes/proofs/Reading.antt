-- What a transfer of a shape reads beside what it assigns to flags.
use Rattle.std.proofs.Common.{◌≡◌, inl, inr, ℕ, Bool, false, not, ◌||◌, ◌&&◌, List, refl, sym, subst, ap, ◌∙◌}
use Rattle.rtl_tree.specs.declared.cells.Cell.{Cell}
use Rattle.rtl_tree.specs.declared.cells.Cell.TheVariants.{Temp, Flag}
use Rattle.rtl_tree.specs.Moves.{Goal, ToCell, ToMemory, Move}
use Rattle.rtl_tree.specs.Same.{same_cell}
use Rattle.rtl_tree.specs.Likeness.{IsAlike}
use Rattle.rtl_norm.specs.Normal.{norm}
use Rattle.rtl_norm.specs.Transfers.{norm_goal}
use Rattle.md_rows.specs.Instances.{filled, filled_cell, filled_goal, filled_move, general_set}
use Rattle.md_match.specs.Searches.{goal_tree}
use Rattle.md_shapes.specs.Shapes.{shape_moves}
use Rattle.md_said.specs.Sound.{SaidIsSound}
use Rattle.md_bounds.specs.Bounds.{SaidIsBounded}
use Rattle.md_filled.specs.Held.{IsHeld}
use Rattle.md_filled.proofs.Rewriting.{norm_held}
use Rattle.md_filled.proofs.Alike.{alike_load}
use Rattle.md_filled.proofs.Lookups.{Among}
use Rattle.md_filled.proofs.Partner.{memory_is}
use Rattle.md_filled.proofs.Doing.{move_held as norm_move_held}
use Rattle.temp_machine.specs.Cells.{some_cell, some_goal_cell, sets_by, is_flag}
use Rattle.temp_laws.proofs.Making.{Makes, made_of, Taking, held_at, kind, comes_from}
use Rattle.temp_laws.proofs.Places.{SamePlace, cells, stores, place_same, to_cell, each_false, none_by}
use Rattle.temp_laws.proofs.Cells.{or_both, alike_cells, taken_cells, norm_filled_cells}
use Rattle.naive_homes.specs.Reading.{ReadsAreShapes}

abbrev beside : (Cell → Bool) → Move → Bool
beside p m = not (sets_by is_flag m.to) && (some_goal_cell p m.to || some_cell p m.value)

beside_same : (p : Cell → Bool) (m n : Move) → sets_by is_flag m.to ≡ sets_by is_flag n.to
    → (some_goal_cell p m.to || some_cell p m.value) ≡ (some_goal_cell p n.to || some_cell p n.value) → beside p m ≡ beside p n
beside_same p m n e f =
    ap (λ (b : Bool). not b && (some_goal_cell p m.to || some_cell p m.value)) e ∙ ap (λ (b : Bool). not (sets_by is_flag n.to) && b) f

sets_same : (p : Cell → Bool) (g h : Goal) → SamePlace g h → sets_by p g ≡ sets_by p h
sets_same p _ _ (cells c) = refl
sets_same p _ _ (stores d a b) = refl

module _ (w g : ℕ) (es ms : List Move) (m : Makes w g es ms) (p : Cell → Bool) (lacks : (y : Move) → Among es y → beside p y ≡ false) where
  goal_reads : (to goal : Goal) → IsHeld w m.binding (goal_tree to) → IsAlike (filled m.binding (goal_tree (norm_goal w to))) (goal_tree goal)
      → some_goal_cell p (filled_goal m.binding to) ≡ some_goal_cell p goal
  goal_reads (ToCell c) goal i a =
      sym (ap (some_goal_cell p) (to_cell (ToCell (filled_cell m.binding c)) goal (filled_cell m.binding c) (place_same w m.binding (ToCell c) goal i a) refl))
  goal_reads (ToMemory d s) goal i a =
      let l = alike_load d (filled m.binding (norm w s)) (goal_tree goal) a in
      norm_filled_cells p w m.binding s i (norm_held w m.binding s i)
      ∙ (alike_cells p (filled m.binding (norm w s)) l.at l.alike ∙ sym (ap (some_goal_cell p) (memory_is d (filled m.binding (norm w s)) goal l)))

  taking_lacks : (e : Move) → Among m.row.effects e → Taking w g es ms m e → beside p (filled_move m.binding e) ≡ false
  taking_lacks e a t =
      let held = held_at w g es ms m a.place e a.is in
      let same = place_same w m.binding e.to t.move.to held.place t.alike.place in
      beside_same p (filled_move m.binding e) t.move (sets_same is_flag (filled_goal m.binding e.to) t.move.to same)
      (or_both _ _ _ _ (goal_reads e.to t.move.to held.place t.alike.place)
      (taken_cells p w m.binding e.to e.value t.move.value held.value (norm_move_held w m.binding e held).value t.alike.value))
      ∙ lacks t.move t.among

  flag_lacks : (x : Move) (n : ℕ) → x.to ≡ ToCell (Flag n) → beside p x ≡ false
  flag_lacks x n e = ap (λ (h : Goal). not (sets_by is_flag h) && (some_goal_cell p x.to || some_cell p x.value)) e

  each_lacks : (x : Move) → Among ms x → beside p x ≡ false
  each_lacks x a =
      let from = comes_from w g es ms m x a in
      subst (λ (y : Move). beside p y ≡ false) from.2 (elim (kind w g es ms m from.0 from.1) [
        | inl t ↦ taking_lacks from.0 from.1 t
        | inr i ↦ flag_lacks (filled_move m.binding from.0) i.flag.flag (ap (filled_goal m.binding) i.flag.is)
      ])

module _ (sound : SaidIsSound) (bounded : SaidIsBounded) where
  pub reads_are_shapes : ReadsAreShapes
  reads_are_shapes w d frame pattern at t c h n e =
      let p = same_cell (Temp n) in
      none_by (beside p) t.what (each_lacks d.word (general_set d.registers) (shape_moves frame pattern at) t.what (made_of w d frame pattern at t sound bounded c h) p
      (λ y a. each_false (beside p) (shape_moves frame pattern at) y a e))
