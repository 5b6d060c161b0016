-- What transfers with registers assign.
use Rattle.std.proofs.Common.{◌≡◌, ℕ, ◌==◌, ◌||◌, Bool, true, false, cond, List, [], ◌∷◌, Option, Some, is_some, refl, sym, ap, ◌∙◌, subst}
use Rattle.std.proofs.lemmas.Bool.{eqb-true, eq-eqb, ne_eqb}
use Rattle.rtl_tree.specs.Trees.{Tree}
use Rattle.rtl_tree.specs.declared.cells.Cell.{Cell}
use Rattle.rtl_tree.specs.declared.cells.Cell.TheVariants.{Hard, Temp, Flag, Pc, Input, Output, Halt, Hole}
use Rattle.rtl_tree.specs.Same.{same_cell}
use Rattle.rtl_tree.specs.Moves.{Goal, ToCell, ToMemory, Move}
use Rattle.rtl_effect.specs.Effects.{assigned_by, assigned}
use Rattle.temp_machine.specs.Cells.{some_set, sets_by, sets}
use Rattle.color_renaming.specs.Renaming.{cell_with, tree_with, goal_with, with_registers}
use Rattle.color_renaming.specs.Does.{IsSeparate, IsSpared}
use Rattle.color_renaming.proofs.Seeing.{maybe_with}

false_true : {A : Type 0} → false ≡ true → A
false_true e = absurd (let k : false ≡ true = e in cc)

cell_is : (c d : Cell) → same_cell c d ≡ true → c ≡ d
cell_is (Hard m) (Hard n) e = ap Hard (eqb-true m n e)
cell_is (Temp m) (Temp n) e = ap Temp (eqb-true m n e)
cell_is (Flag m) (Flag n) e = ap Flag (eqb-true m n e)
cell_is (Hole m) (Hole n) e = ap Hole (eqb-true m n e)
cell_is Pc Pc e = refl
cell_is Input Input e = refl
cell_is Output Output e = refl
cell_is Halt Halt e = refl
cell_is _ _ e = absurd (let k : false ≡ true = e in cc)

same_self : (c : Cell) → same_cell c c ≡ true
same_self (Hard m) = eq-eqb m m refl
same_self (Temp m) = eq-eqb m m refl
same_self (Flag m) = eq-eqb m m refl
same_self (Hole m) = eq-eqb m m refl
same_self Pc = refl
same_self Input = refl
same_self Output = refl
same_self Halt = refl

set_head : (g : Goal) (a : Tree) (o : Option Tree) (c : Cell) → is_some o ≡ true → is_some (assigned_by g a c o) ≡ true
set_head (ToCell d) a o c h = by (same_cell d c)
  where
    by : (b : Bool) → is_some (cond b (Some a) o) ≡ true
    by true = refl
    by false = h
set_head (ToMemory d b) a o c h = h

set_here : (c : Cell) (a : Tree) (o : Option Tree) → is_some (assigned_by (ToCell c) a c o) ≡ true
set_here c a o = subst (λ b. is_some (cond b (Some a) o) ≡ true) (sym (same_self c)) refl

-- what is assigned is set
pub is_set : (ms : List Move) (c : Cell) → is_some (assigned ms c) ≡ true → some_set (same_cell c) ms ≡ true
is_set [] c e = false_true e
is_set (m ∷ ms) c e = by m.to e (is_set ms c)
  where
    left : (b s : Bool) → b ≡ true → (b || s) ≡ true
    left b s f = subst (λ x. (x || s) ≡ true) (sym f) refl

    right : (b s : Bool) → s ≡ true → (b || s) ≡ true
    right true s f = refl
    right false s f = f

    pick : (d : Cell) (b : Bool) → same_cell d c ≡ b → is_some (cond b (Some m.value) (assigned ms c)) ≡ true → (is_some (assigned ms c) ≡ true → some_set (same_cell c) ms ≡ true)
        → (same_cell c d || some_set (same_cell c) ms) ≡ true
    pick d true f k ih = left (same_cell c d) _ (ap (same_cell c) (cell_is d c f) ∙ same_self c)
    pick d false f k ih = right (same_cell c d) _ (ih k)

    by : (g : Goal) → is_some (assigned_by g m.value c (assigned ms c)) ≡ true → (is_some (assigned ms c) ≡ true → some_set (same_cell c) ms ≡ true)
        → (sets_by (same_cell c) g || some_set (same_cell c) ms) ≡ true
    by (ToCell d) k ih = pick d (same_cell d c) refl k ih
    by (ToMemory d a) k ih = ih k

module _ (r : ℕ → ℕ) where
  module _ (c d : Cell) where
    -- a cell stands for another where it does so for each cell that is assigned
    assigned_renamed : (ms : List Move) → ((e : Cell) → is_some (assigned ms e) ≡ true → same_cell (cell_with r e) d ≡ same_cell e c) → assigned (with_registers r ms) d ≡ maybe_with r (assigned ms c)
    assigned_renamed [] h = refl
    assigned_renamed (m ∷ ms) h = by m.to m.value (λ e s. h e s) (assigned_renamed ms (λ e s. h e (set_head m.to m.value (assigned ms e) e s)))
      where
        pick : (b b' : Bool) (a : Tree) (o o' : Option Tree) → b' ≡ b → o' ≡ maybe_with r o → cond b' (Some (tree_with r a)) o' ≡ maybe_with r (cond b (Some a) o)
        pick true b' a o o' e f = subst (λ x. cond x (Some (tree_with r a)) o' ≡ Some (tree_with r a)) (sym e) refl
        pick false b' a o o' e f = subst (λ x. cond x (Some (tree_with r a)) o' ≡ maybe_with r o) (sym e) f

        by : (g : Goal) (a : Tree) → ((e : Cell) → is_some (assigned_by g a e (assigned ms e)) ≡ true → same_cell (cell_with r e) d ≡ same_cell e c) → assigned (with_registers r ms) d ≡ maybe_with r (assigned ms c)
            → assigned_by (goal_with r g) (tree_with r a) d (assigned (with_registers r ms) d) ≡ maybe_with r (assigned_by g a c (assigned ms c))
        by (ToCell e) a k f = pick (same_cell e c) (same_cell (cell_with r e) d) a _ _ (k e (set_here e a (assigned ms e))) f
        by (ToMemory w b) a k f = f

  module _ (ms : List Move) where
    module _ (separate : IsSeparate r ms) (k : ℕ) (set : sets (Temp k) ms ≡ true) where
      of_temp : (e : Cell) → is_some (assigned ms e) ≡ true → same_cell (cell_with r e) (Hard (r k)) ≡ same_cell e (Temp k)
      of_temp (Temp j) s = by (j == k) refl
        where
          by : (b : Bool) → (j == k) ≡ b → (r j == r k) ≡ b
          by true e = eq-eqb (r j) (r k) (ap r (eqb-true j k e))
          by false e = ne_eqb (r j) (r k) (λ f. let g : true ≡ false = sym (eq-eqb j k (separate.temps j k (is_set ms (Temp j) s) set f)) ∙ e in absurd cc)
      of_temp (Hard n) s = ne_eqb n (r k) (λ f. separate.registers n k (is_set ms (Hard n) s) set (sym f))
      of_temp e s = refl

      pub temp_assigned : assigned (with_registers r ms) (Hard (r k)) ≡ maybe_with r (assigned ms (Temp k))
      temp_assigned = assigned_renamed (Temp k) (Hard (r k)) ms of_temp

    module _ (n : ℕ) (spared : IsSpared r ms n) where
      of_register : (e : Cell) → is_some (assigned ms e) ≡ true → same_cell (cell_with r e) (Hard n) ≡ same_cell e (Hard n)
      of_register (Temp j) s = ne_eqb (r j) n (spared j (is_set ms (Temp j) s))
      of_register e s = refl

      pub register_assigned : assigned (with_registers r ms) (Hard n) ≡ maybe_with r (assigned ms (Hard n))
      register_assigned = assigned_renamed (Hard n) (Hard n) ms of_register

    flag_same : (n : ℕ) (e : Cell) → same_cell (cell_with r e) (Flag n) ≡ same_cell e (Flag n)
    flag_same n (Temp j) = refl
    flag_same n e = refl

    pub flag_assigned : (n : ℕ) → assigned (with_registers r ms) (Flag n) ≡ maybe_with r (assigned ms (Flag n))
    flag_assigned n = assigned_renamed (Flag n) (Flag n) ms (λ e s. flag_same n e)

    pc_same : (e : Cell) → same_cell (cell_with r e) Pc ≡ same_cell e Pc
    pc_same (Temp j) = refl
    pc_same e = refl

    pub pc_assigned : assigned (with_registers r ms) Pc ≡ maybe_with r (assigned ms Pc)
    pc_assigned = assigned_renamed Pc Pc ms (λ e s. pc_same e)

    output_same : (e : Cell) → same_cell (cell_with r e) Output ≡ same_cell e Output
    output_same (Temp j) = refl
    output_same e = refl

    pub output_assigned : assigned (with_registers r ms) Output ≡ maybe_with r (assigned ms Output)
    output_assigned = assigned_renamed Output Output ms (λ e s. output_same e)

    halt_same : (e : Cell) → same_cell (cell_with r e) Halt ≡ same_cell e Halt
    halt_same (Temp j) = refl
    halt_same e = refl

    pub halt_assigned : assigned (with_registers r ms) Halt ≡ maybe_with r (assigned ms Halt)
    halt_assigned = assigned_renamed Halt Halt ms (λ e s. halt_same e)
