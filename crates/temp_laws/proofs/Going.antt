-- Where the transfers of jumps, branches and calls go.
use Rattle.std.proofs.Common.{◌≡◌, inl, inr, ℕ, true, false, List, slice_get, Option, Some, None, refl, sym, subst, ap, ◌∙◌}
use Rattle.rtl_tree.specs.declared.cells.Cell.TheVariants.{Hard, Temp, Flag, Pc, Input, Output, Halt, Hole as RegisterHole}
use Rattle.rtl_tree.specs.declared.cells.Lab.{Lab}
use Rattle.rtl_tree.specs.declared.cells.Lab.TheVariants.{Block}
use Rattle.rtl_tree.specs.declared.expressions.BinOp.{BinOp}
use Rattle.rtl_tree.specs.declared.expressions.BinOp.TheVariants.{When}
use Rattle.rtl_tree.specs.declared.expressions.UnOp.{UnOp}
use Rattle.rtl_tree.specs.declared.expressions.Width.{Width}
use Rattle.rtl_tree.specs.Trees.{Tree, CodeLabel, Load, Unary, Binary}
use Rattle.rtl_tree.specs.Moves.{Goal, ToCell, ToMemory, Move}
use Rattle.rtl_tree.specs.Likeness.{commutes, IsAlike, equal, loads, unaries, straight, crossed}
use Rattle.rtl_norm.specs.Normal.{norm}
use Rattle.rtl_norm.specs.Transfers.{norm_value}
use Rattle.rtl_effect.specs.Effects.{assigned}
use Rattle.rtl_norm_value.specs.Effect.{jump_in_form, with_normal_jump}
use Rattle.md_rows.specs.declared.instance.Bound.{Bound}
use Rattle.md_rows.specs.declared.instance.Bound.TheVariants.{Reg, Num, Sym, Label}
use Rattle.md_rows.specs.Instances.{register_by, filled, filled_goal}
use Rattle.md_match.specs.Searches.{goal_tree}
use Rattle.md_shapes.specs.declared.patterns.Pattern.TheVariants as shape
use Rattle.md_shapes.specs.Shapes.{Frame, shape_moves, call_moves}
use Rattle.md_said.specs.Sound.{SaidIsSound}
use Rattle.md_bounds.specs.Bounds.{SaidIsBounded}
use Rattle.md_filled.specs.Held.{IsRegister, IsHeld}
use Rattle.md_filled.specs.Doing.{IsNumberless, IsSimple, IsHeldMove}
use Rattle.md_filled.proofs.Rewriting.{norm_held}
use Rattle.md_filled.proofs.Commuting.{form_filled}
use Rattle.md_filled.proofs.Sorted.{alike_numberless, plain_of}
use Rattle.md_filled.proofs.Lookups.{assigned_from, assigned_some}
use Rattle.md_filled.proofs.Doing.{mapped, unmapped}
use Rattle.temp_machine.specs.Machine.{callee_by}
use Rattle.temp_machine.specs.Flow.{label_by}
use Rattle.temp_laws.specs.Going.{JumpsGo, BranchesGo, FlagBranchesGo, CallsGo}
use Rattle.temp_laws.proofs.Making.{Makes, made_of, Taking, held_at, kind, comes_from}
use Rattle.temp_laws.proofs.Places.{place_same, from_cell, to_cell, goal_same, taken_to}
use Rattle.temp_laws.proofs.Simple.{jump_simple, branch_simple, flag_branch_simple, call_simple}

-- a place that is the program counter once it is filled is that
hole_no_counter : (h : ℕ) (o : Option Bound) → IsRegister o → register_by (RegisterHole h) o ≡ Pc → ⊥
hole_no_counter h (Some (Reg (Hard k))) i e = cc
hole_no_counter h (Some (Reg (Temp n))) i e = cc
hole_no_counter h (Some (Reg (Flag n))) i e = absurd i
hole_no_counter h (Some (Reg Pc)) i e = absurd i
hole_no_counter h (Some (Reg Input)) i e = absurd i
hole_no_counter h (Some (Reg Output)) i e = absurd i
hole_no_counter h (Some (Reg Halt)) i e = absurd i
hole_no_counter h (Some (Reg (RegisterHole n))) i e = absurd i
hole_no_counter h (Some (Num n)) i e = absurd i
hole_no_counter h (Some (Sym n)) i e = absurd i
hole_no_counter h (Some (Label l)) i e = absurd i
hole_no_counter h None i e = absurd i

counter_filled : (w : ℕ) (b : List Bound) (g : Goal) → IsHeld w b (goal_tree g) → filled_goal b g ≡ ToCell Pc → g ≡ ToCell Pc
counter_filled w b (ToCell (RegisterHole h)) i e = absurd (hole_no_counter h (slice_get b h) i (goal_same _ Pc e))
counter_filled w b (ToCell (Hard n)) i e = e
counter_filled w b (ToCell (Temp n)) i e = e
counter_filled w b (ToCell (Flag n)) i e = e
counter_filled w b (ToCell Pc) i e = e
counter_filled w b (ToCell Input) i e = e
counter_filled w b (ToCell Output) i e = e
counter_filled w b (ToCell Halt) i e = e
counter_filled w b (ToMemory d a) i e = absurd (cc)

no_flag : (n : ℕ) → (let g : Goal = ToCell (Flag n) in g ≡ ToCell Pc) → ⊥
no_flag n e = cc

module _ (w g : ℕ) (es ms : List Move) (simple : IsSimple es) (m : Makes w g es ms) where
  abbrev formed : Move → Move
  formed x = record { to = x.to; value = jump_in_form w x.to x.value }

  -- what the program counter is assigned, in its normal form, is alike what the shape assigns to it
  pub record Goes (u : Tree) : Type 0 where
    pub tree : Tree
    pub is : assigned (with_normal_jump w ms) Pc ≡ Some tree
    pub alike : IsAlike tree u

  form_alike : (t x : Tree) → IsHeld w m.binding t → IsNumberless x → IsAlike (filled m.binding (norm w t)) x → IsAlike (norm w (filled m.binding t)) x
  form_alike t x held plain alike =
      subst (λ (y : Tree). IsAlike y x)
      (sym (form_filled w m.binding t held (plain_of w m.binding (norm w t) (norm_held w m.binding t held) (alike_numberless _ x alike plain)))) alike

  -- the value of an assignment of the row to the program counter
  value_alike : (e : Move) (u : Tree) → IsHeldMove w m.binding e → Taking w g es ms m e → assigned es Pc ≡ Some u → e.to ≡ ToCell Pc
      → IsAlike (norm w (filled m.binding e.value)) u
  value_alike e u held t is to =
      let at = to_cell (filled_goal m.binding e.to) t.move.to Pc (place_same w m.binding e.to t.move.to held.place t.alike.place)
      (ap (filled_goal m.binding) to) in
      let a = assigned_from es Pc u is in
      let same = simple.once t.among.place a.among.place t.move a.move Pc t.among.is a.among.is at a.to in
      let value : t.move.value ≡ u = ap (λ (y : Move). y.value) same ∙ a.value in
      let alike : IsAlike (filled m.binding (norm w e.value)) t.move.value =
      subst (λ (x : Goal). IsAlike (filled m.binding (norm_value w x e.value)) t.move.value) to t.alike.value in
      subst (λ (x : Tree). IsAlike (norm w (filled m.binding e.value)) x) value
      (form_alike e.value t.move.value held.value (simple.jump t.among.place t.move t.among.is at) alike)

  goes_by : (u : Tree) → assigned es Pc ≡ Some u → (o : Option Tree) → assigned (with_normal_jump w ms) Pc ≡ o → Goes u
  goes_by u is (Some tree) f =
      let a = assigned_from (with_normal_jump w ms) Pc tree f in
      let from = unmapped formed ms a.among.place a.move a.among.is in
      let source = comes_from w g es ms m from.from (record { place = a.among.place; is = from.is }) in
      let to : from.from.to ≡ ToCell Pc = ap (λ (y : Move). y.to) from.to ∙ a.to in
      let filled_to : filled_goal m.binding source.0.to ≡ ToCell Pc = ap (λ (y : Move). y.to) source.2 ∙ to in
      let held = held_at w g es ms m source.1.place source.0 source.1.is in
      let row_to = counter_filled w m.binding source.0.to held.place filled_to in
      let value : norm w (filled m.binding source.0.value) ≡ tree =
      ap (λ (x : Goal). jump_in_form w x (filled m.binding source.0.value)) (sym filled_to)
      ∙ (ap (λ (y : Move). jump_in_form w y.to y.value) source.2 ∙ (ap (λ (y : Move). y.value) from.to ∙ a.value)) in
      elim (kind w g es ms m source.0 source.1) [
        | inl t ↦ record { tree = tree; is = f; alike = subst (λ (x : Tree). IsAlike x u) value (value_alike source.0 u held t is row_to) }
        | inr i ↦ absurd (no_flag i.flag.flag (sym i.flag.is ∙ row_to))
      ]
  goes_by u is None f =
      let a = assigned_from es Pc u is in
      let t = taken_to w g es ms m a.move a.among in
      let to = from_cell t.0.to a.move.to Pc t.2 a.to in
      absurd (assigned_some (with_normal_jump w ms) Pc (formed t.0)
      (record { place = t.1.place; is = mapped formed ms t.1.place t.0 t.1.is }) to f)

  pub goes : (u : Tree) → assigned es Pc ≡ Some u → Goes u
  goes u is = goes_by u is (assigned (with_normal_jump w ms) Pc) refl

alike_label : (l : Lab) (x : Tree) → IsAlike x (CodeLabel l) → x ≡ CodeLabel l
alike_label l _ (equal a) = refl

no_commute : (o : BinOp) → o ≡ When → commutes o ≡ true → ⊥
no_commute o e h = let k : false ≡ true = sym (ap commutes e) ∙ h in cc

record Chooses (l : Lab) (x : Tree) : Type 0 where
  condition : Tree
  is : x ≡ Binary When condition (CodeLabel l)

binary_same : (o p : BinOp) (a b c d : Tree) → Binary o a b ≡ Binary p c d → (o ≡ p) × (b ≡ d)
binary_same o p a b c d e = (cc, cc)

load_no_binary : (d : Width) (a b c : Tree) (o : BinOp) → Load d a ≡ Binary o b c → ⊥
load_no_binary d a b c o e = cc

unary_no_binary : (u : UnOp) (a b c : Tree) (o : BinOp) → Unary u a ≡ Binary o b c → ⊥
unary_no_binary u a b c o e = cc

alike_chooses : (l : Lab) (c x y : Tree) → IsAlike x y → y ≡ Binary When c (CodeLabel l) → Chooses l x
alike_chooses l c _ _ (equal a) e = record { condition = c; is = e }
alike_chooses l c _ _ (loads d a b h) e = absurd (load_no_binary d b c (CodeLabel l) When e)
alike_chooses l c _ _ (unaries o a b h) e = absurd (unary_no_binary o b c (CodeLabel l) When e)
alike_chooses l c _ _ (straight o a b p q h i) e =
    let s = binary_same o When p q c (CodeLabel l) e in
    let label = alike_label l b (subst (λ (x : Tree). IsAlike b x) s.1 i) in
    record { condition = a; is = ap (λ (x : BinOp). Binary x a b) s.0 ∙ ap (λ (x : Tree). Binary When a x) label }
alike_chooses l c _ _ (crossed o a b p q k h i) e =
    absurd (no_commute o (binary_same o When p q c (CodeLabel l) e).0 k)

module _ (sound : SaidIsSound) (bounded : SaidIsBounded) where
  pub jumps_go : JumpsGo
  jumps_go w d frame at t c h =
      let es = shape_moves frame shape.Jump at in
      let x = goes d.word _ es t.what (jump_simple frame at) (made_of w d frame shape.Jump at t sound bounded c h) (CodeLabel at.label) refl in
      x.is ∙ ap (λ (y : Tree). Some y) (alike_label at.label x.tree x.alike)

  chosen_label : (o : Option Tree) (x : Tree) (m l : Lab) (n : ℕ) → o ≡ Some x → Chooses m x → m ≡ Block n → label_by o ≡ Some n
  chosen_label o x m l n e c f =
      ap label_by (e ∙ ap (λ (y : Tree). Some y) (c.is ∙ ap (λ (y : Lab). Binary When c.condition (CodeLabel y)) f))

  pub branches_go : BranchesGo
  branches_go w d frame r at t l c h e =
      let es = shape_moves frame (shape.Branch r) at in
      let m = made_of w d frame (shape.Branch r) at t sound bounded c h in
      let x = goes d.word _ es t.what (branch_simple frame at r) m _ refl in
      chosen_label _ x.tree at.label at.label l x.is (alike_chooses at.label _ x.tree _ x.alike refl) e

  pub flag_branches_go : FlagBranchesGo
  flag_branches_go w d frame r j at t l c h e =
      let es = shape_moves frame (shape.BranchByFlag r j) at in
      let m = made_of w d frame (shape.BranchByFlag r j) at t sound bounded c h in
      let x = goes d.word _ es t.what (flag_branch_simple frame at r j) m _ refl in
      chosen_label _ x.tree at.label at.label l x.is (alike_chooses at.label _ x.tree _ x.alike refl) e

  calls_assign : (f : Frame) (z : Option ℕ) (l : Lab) → assigned (call_moves f z l) Pc ≡ Some (CodeLabel l)
  calls_assign f (Some z) l = refl
  calls_assign f None l = refl

  pub calls_go : CallsGo
  calls_go w d frame at t f c h e =
      let es = shape_moves frame shape.Call at in
      let m = made_of w d frame shape.Call at t sound bounded c h in
      let x = goes d.word _ es t.what (call_simple frame at) m (CodeLabel at.label) (calls_assign frame frame.link at.label) in
      ap callee_by (x.is ∙ (ap (λ (y : Tree). Some y) (alike_label at.label x.tree x.alike) ∙ ap (λ (l : Lab). Some (CodeLabel l)) e))
