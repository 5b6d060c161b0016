-- With registers a transfer stays straight, and a jump goes where it went.
use Rattle.std.proofs.Common.{◌≡◌, ◌≢◌, ℕ, ◌||◌, Bool, true, false, List, [], ◌∷◌, Option, Some, None, refl, sym, ap, ◌∙◌}
use Rattle.std.proofs.lemmas.Bool.{eq-eqb, ne_eqb}
use Rattle.rtl_tree.specs.declared.cells.Cell.TheVariants.{Hard, Temp, Pc}
use Rattle.rtl_tree.specs.declared.cells.Lab.TheVariants.{Block, Function}
use Rattle.rtl_tree.specs.declared.expressions.BinOp.TheVariants.{When}
use Rattle.rtl_tree.specs.Trees.{Tree, CodeLabel, Binary}
use Rattle.rtl_tree.specs.Same.{same_cell}
use Rattle.rtl_tree.specs.Moves.{Goal, ToCell, ToMemory, Move}
use Rattle.rtl_effect.specs.Effects.{assigned}
use Rattle.rtl_norm_value.specs.Effect.{with_normal_jump}
use Rattle.temp_machine.specs.Routines.{Routine, Target}
use Rattle.temp_machine.specs.Cells.{sets_by, some_read, sets}
use Rattle.temp_machine.specs.Flow.{label_by, label_of}
use Rattle.temp_machine.specs.Units.{IsTarget}
use Rattle.color_code.specs.Colors.{Seats}
use Rattle.color_renaming.specs.Renaming.{goal_with, with_registers}
use Rattle.color_renaming.proofs.Seeing.{maybe_with}
use Rattle.color_renaming.proofs.Assigning.{pc_assigned}
use Rattle.color_jumps.proofs.Renamed.{jump_is_renamed}
use Rattle.color_transfer.specs.Colored.{Stands, AreColoredParts}
use Rattle.color_holding.specs.Places.{AreGeneral}
use Rattle.color_holding.proofs.Members.{true_false, by_seat, or_left, or_right, or_none}
use Rattle.color_image.specs.Laws.{IsStraightTransfer}

neither : (b c : Bool) → b ≡ false → c ≡ false → (b || c) ≡ false
neither true c e f = e
neither false c e f = f

none_behind : (b c : Bool) → (b || c) ≡ false → c ≡ false
none_behind true c e = true_false e
none_behind false c e = e

-- ---- what is set

module _ (register : ℕ → ℕ) where
  goal_counter : (g : Goal) → sets_by (same_cell Pc) (goal_with register g) ≡ sets_by (same_cell Pc) g
  goal_counter (ToCell (Temp k)) = refl
  goal_counter (ToCell c) = refl
  goal_counter (ToMemory d a) = refl

  counter_set : (ms : List Move) → sets Pc (with_registers register ms) ≡ sets Pc ms
  counter_set [] = refl
  counter_set (m ∷ ms) = λ i. goal_counter m.to i || counter_set ms i

  module _ (n : ℕ) where
    goal_unset : (g : Goal) → sets_by (same_cell (Hard n)) g ≡ false → ((k : ℕ) → sets_by (same_cell (Temp k)) g ≡ true → register k ≢ n)
        → sets_by (same_cell (Hard n)) (goal_with register g) ≡ false
    goal_unset (ToCell (Temp k)) e h = ne_eqb n (register k) (λ f. h k (eq-eqb k k refl) (sym f))
    goal_unset (ToCell c) e h = e
    goal_unset (ToMemory d a) e h = refl

    register_unset : (ms : List Move) → sets (Hard n) ms ≡ false → ((k : ℕ) → sets (Temp k) ms ≡ true → register k ≢ n) → sets (Hard n) (with_registers register ms) ≡ false
    register_unset [] e h = e
    register_unset (m ∷ ms) e h =
        neither (sets_by (same_cell (Hard n)) (goal_with register m.to)) _
        (goal_unset m.to (or_none (sets_by (same_cell (Hard n)) m.to) (sets (Hard n) ms) e) (λ k s. h k (or_left (sets_by (same_cell (Temp k)) m.to) (sets (Temp k) ms) s)))
        (register_unset ms (none_behind (sets_by (same_cell (Hard n)) m.to) (sets (Hard n) ms) e) (λ k s. h k (or_right (sets_by (same_cell (Temp k)) m.to) (sets (Temp k) ms) s)))

-- ---- where a jump goes

module _ (register : ℕ → ℕ) where
  label_kept : (o : Option Tree) → label_by (maybe_with register o) ≡ label_by o
  label_kept (Some (Binary When a (CodeLabel (Block l)))) = refl
  label_kept (Some (Binary When a (CodeLabel (Function f)))) = refl
  label_kept (Some (Binary When a b)) = refl
  label_kept (Some (Binary o a b)) = refl
  label_kept (Some (CodeLabel (Block l))) = refl
  label_kept (Some (CodeLabel (Function f))) = refl
  label_kept (Some a) = refl
  label_kept None = refl

  counter_renamed : (w : ℕ) (ms : List Move) → assigned (with_normal_jump w (with_registers register ms)) Pc ≡ maybe_with register (assigned (with_normal_jump w ms) Pc)
  counter_renamed w ms = ap (λ ns. assigned ns Pc) (jump_is_renamed w register ms) ∙ pc_assigned register (with_normal_jump w ms)

-- ---- the parts of a coloured transfer

module _ (t : Target) (r : Routine) (seats : Seats) (ms : List Move) (loads : List (List Move)) (middle : List Move) (stores : List (List Move))
    (parts : AreColoredParts t r seats ms loads middle stores) where
  pub jumps_on : (w l : ℕ) → assigned (with_normal_jump w ms) Pc ≡ Some (CodeLabel (Block l)) → assigned (with_normal_jump w middle) Pc ≡ Some (CodeLabel (Block l))
  jumps_on w l e = ap (λ ns. assigned (with_normal_jump w ns) Pc) parts.renamed ∙ counter_renamed parts.register w ms ∙ ap (maybe_with parts.register) e

  pub label_on : (w : ℕ) → label_of w middle ≡ label_of w ms
  label_on w =
      ap (label_of w) parts.renamed ∙ ap label_by (counter_renamed parts.register w ms) ∙ label_kept parts.register (assigned (with_normal_jump w ms) Pc)

  module _ (target : IsTarget t) (general : AreGeneral t seats) where
    pub in_general : (k : ℕ) → Stands ms k → t.general (parts.register k) ≡ true
    in_general k s = by_seat (seats k) (λ c e. ap t.general (parts.seated k c e) ∙ general k c e) (λ e. parts.scratch.general k s e)

    no_stack : (k : ℕ) → sets (Temp k) ms ≡ true → parts.register k ≢ t.sp
    no_stack k s e = true_false (sym (in_general k (or_right (some_read (same_cell (Temp k)) ms) (sets (Temp k) ms) s)) ∙ ap t.general e ∙ target.stack)

    pub stack_left : sets (Hard t.sp) ms ≡ false → sets (Hard t.sp) middle ≡ false
    stack_left e = ap (sets (Hard t.sp)) parts.renamed ∙ register_unset parts.register t.sp ms e no_stack

    pub straight_on : IsStraightTransfer t ms → IsStraightTransfer t middle
    straight_on s = record { counter = ap (sets Pc) parts.renamed ∙ counter_set parts.register ms ∙ s.counter; stack = stack_left s.stack }
