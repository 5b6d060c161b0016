-- Which cells stand in a transfer, in its core, and in what is assigned.
use Rattle.std.proofs.Common.{◌≡◌, ℕ, ◌||◌, ◌&&◌, Bool, true, false, cond, List, [], ◌∷◌, Option, Some, None, is_some, refl, sym, ap, ◌∙◌, subst}
use Rattle.std.proofs.lemmas.Bool.{eqb-true, eq-eqb}
use Rattle.std.proofs.lemmas.List.Elements.{All-nil, All-cons, All-head, All-tail}
use Rattle.std.specs.Prelude.{All}
use Rattle.rtl_tree.specs.Trees.{Tree, Number, Symbol, CodeLabel, Read, Load, Unary, Binary, NoPair, AnyNumber, AnyName}
use Rattle.rtl_tree.specs.declared.cells.Cell.{Cell}
use Rattle.rtl_tree.specs.declared.cells.Cell.TheVariants.{Hard, Temp, Flag, Pc, Input, Output, Halt, Hole}
use Rattle.rtl_tree.specs.Same.{same_cell}
use Rattle.rtl_tree.specs.Sorts.{IsFitting}
use Rattle.rtl_tree.specs.Moves.{Goal, ToCell, ToMemory, Move}
use Rattle.rtl_norm.specs.Transfers.{IsGoalFitting, IsMoveFitting}
use Rattle.rtl_effect.specs.Agree.{Within, GoalWithin, AllWithin}
use Rattle.rtl_effect.specs.Effects.{assigned_by, assigned}
use Rattle.temp_machine.specs.Cells.{some_cell, some_goal_cell, some_set, sets_by, reads}
use Rattle.color_cores.specs.Cores.{is_wanted, core}
use Rattle.color_cores.proofs.Cores.{assigned_core}
use Rattle.color_renaming.specs.Renaming.{tree_with, goal_with, with_registers}
use Rattle.color_renaming.proofs.Assigning.{is_set}

pub false_true : {A : Type 0} → false ≡ true → A
false_true e = absurd (let k : false ≡ true = e in cc)

pub true_false : {A : Type 0} → true ≡ false → A
true_false e = absurd (let k : true ≡ false = e in cc)

pub by_bool : {A : Type 0} (b : Bool) → (b ≡ true → A) → (b ≡ false → A) → A
by_bool true f g = f refl
by_bool false f g = g refl

-- where a temporary is
pub by_seat : {A : Type 0} (o : Option ℕ) → ((n : ℕ) → o ≡ Some n → A) → (o ≡ None → A) → A
by_seat (Some n) f g = f n refl
by_seat None f g = g refl

pub none_some : {A : Type 0} {B : Type 0} (o : Option B) (x : B) → o ≡ None → o ≡ Some x → A
none_some o x e f = absurd (let k : None ≡ Some x = sym e ∙ f in cc)

pub same_some : {B : Type 0} (x y : B) → Some x ≡ Some y → x ≡ y
same_some x y e = ap (by x) e
  where
    by : {B : Type 0} → B → Option B → B
    by d (Some b) = b
    by d None = d

pub or_left : (b c : Bool) → b ≡ true → (b || c) ≡ true
or_left b c e = subst (λ x. (x || c) ≡ true) (sym e) refl

pub or_right : (b c : Bool) → c ≡ true → (b || c) ≡ true
or_right true c e = refl
or_right false c e = e

pub or_cases : {A : Type 0} (b c : Bool) → (b || c) ≡ true → (b ≡ true → A) → (c ≡ true → A) → A
or_cases true c e f g = f refl
or_cases false c e f g = g e

pub or_none : (b c : Bool) → (b || c) ≡ false → b ≡ false
or_none true c e = e
or_none false c e = refl

pub or_neither : (b c : Bool) → (b || c) ≡ false → c ≡ false
or_neither true c e = true_false e
or_neither false c e = e

pub and_of : (b c : Bool) → b ≡ true → c ≡ true → (b && c) ≡ true
and_of b c e f = subst (λ x. (x && c) ≡ true) (sym e) f

-- ---- what is read

pub within_of : (live : Cell → Bool) (a : Tree) → ((c : Cell) → some_cell (same_cell c) a ≡ true → live c ≡ true) → Within live a
within_of live (Read c) h = h c (self c)
  where
    self : (c : Cell) → same_cell c c ≡ true
    self (Hard m) = eq-eqb m m refl
    self (Temp m) = eq-eqb m m refl
    self (Flag m) = eq-eqb m m refl
    self (Hole m) = eq-eqb m m refl
    self Pc = refl
    self Input = refl
    self Output = refl
    self Halt = refl
within_of live (Load d a) h = within_of live a h
within_of live (Unary o a) h = within_of live a h
within_of live (Binary o a b) h = (within_of live a (λ c e. h c (or_left (some_cell (same_cell c) a) _ e)), within_of live b (λ c e. h c (or_right (some_cell (same_cell c) a) _ e)))
within_of live (Number n) h = tt
within_of live (Symbol n) h = tt
within_of live (CodeLabel l) h = tt
within_of live NoPair h = tt
within_of live (AnyNumber n) h = tt
within_of live (AnyName n) h = tt

goal_within : (live : Cell → Bool) (g : Goal) → ((c : Cell) → some_goal_cell (same_cell c) g ≡ true → live c ≡ true) → GoalWithin live g
goal_within live (ToCell c) h = tt
goal_within live (ToMemory d a) h = within_of live a h

pub all_within : (live : Cell → Bool) (ms : List Move) → ((c : Cell) → reads c ms ≡ true → live c ≡ true) → AllWithin live ms
all_within live [] h = tt
all_within live (m ∷ ms) h = (
  within_of live m.value (λ c e. h c (or_left (some_goal_cell (same_cell c) m.to || some_cell (same_cell c) m.value) _ (or_right (some_goal_cell (same_cell c) m.to) _ e))),
  goal_within live m.to (λ c e. h c (or_left (some_goal_cell (same_cell c) m.to || some_cell (same_cell c) m.value) _ (or_left (some_goal_cell (same_cell c) m.to) _ e))),
  all_within live ms (λ c e. h c (or_right (some_goal_cell (same_cell c) m.to || some_cell (same_cell c) m.value) _ e)),
)

-- ---- what is set

-- what is set is assigned
pub set_assigned : (ms : List Move) (c : Cell) → some_set (same_cell c) ms ≡ true → is_some (assigned ms c) ≡ true
set_assigned [] c e = false_true e
set_assigned (m ∷ ms) c e = by m.to e (set_assigned ms c)
  where
    other_way : (c d : Cell) → same_cell c d ≡ true → same_cell d c ≡ true
    other_way (Hard m) (Hard n) e = eq-eqb n m (sym (eqb-true m n e))
    other_way (Temp m) (Temp n) e = eq-eqb n m (sym (eqb-true m n e))
    other_way (Flag m) (Flag n) e = eq-eqb n m (sym (eqb-true m n e))
    other_way (Hole m) (Hole n) e = eq-eqb n m (sym (eqb-true m n e))
    other_way Pc Pc e = refl
    other_way Input Input e = refl
    other_way Output Output e = refl
    other_way Halt Halt e = refl
    other_way _ _ e = false_true e

    pick : (b : Bool) (o : Option Tree) → (b ≡ false → is_some o ≡ true) → is_some (cond b (Some m.value) o) ≡ true
    pick true o h = refl
    pick false o h = h refl

    by : (g : Goal) → (sets_by (same_cell c) g || some_set (same_cell c) ms) ≡ true → (some_set (same_cell c) ms ≡ true → is_some (assigned ms c) ≡ true)
        → is_some (assigned_by g m.value c (assigned ms c)) ≡ true
    by (ToCell d) k ih = pick (same_cell d c) (assigned ms c) (λ f. or_cases (same_cell c d) _ k (λ g. true_false (sym (other_way c d g) ∙ f)) ih)
    by (ToMemory d a) k ih = ih k

pub unset_unassigned : (ms : List Move) (c : Cell) → some_set (same_cell c) ms ≡ false → assigned ms c ≡ None
unset_unassigned ms c e = by (assigned ms c) (is_set ms c)
  where
    by : (o : Option Tree) → (is_some o ≡ true → some_set (same_cell c) ms ≡ true) → o ≡ None
    by None h = refl
    by (Some a) h = true_false (sym (h refl) ∙ e)

pub unassigned_unset : (ms : List Move) (c : Cell) → assigned ms c ≡ None → some_set (same_cell c) ms ≡ false
unassigned_unset ms c e = by_bool (some_set (same_cell c) ms) (λ f. true_false (sym (set_assigned ms c f) ∙ ap is_some e)) (λ f. f)

-- ---- the core

module _ (wanted : ℕ → Bool) where
  pub core_reads_less : (c : Cell) (ms : List Move) → reads c (core wanted ms) ≡ true → reads c ms ≡ true
  core_reads_less c [] e = e
  core_reads_less c (m ∷ ms) e = by (is_wanted wanted m.to) e (core_reads_less c ms)
    where
      by : (b : Bool) → reads c (cond b (m ∷ core wanted ms) (core wanted ms)) ≡ true → (reads c (core wanted ms) ≡ true → reads c ms ≡ true) → ((some_goal_cell (same_cell c) m.to || some_cell (same_cell c) m.value) || reads c ms) ≡ true
      by true k ih = or_cases (some_goal_cell (same_cell c) m.to || some_cell (same_cell c) m.value) (reads c (core wanted ms)) k (or_left (some_goal_cell (same_cell c) m.to || some_cell (same_cell c) m.value) (reads c ms)) (λ f. or_right (some_goal_cell (same_cell c) m.to || some_cell (same_cell c) m.value) _ (ih f))
      by false k ih = or_right (some_goal_cell (same_cell c) m.to || some_cell (same_cell c) m.value) _ (ih k)

  pub core_sets_less : (c : Cell) → is_wanted wanted (ToCell c) ≡ true → (ms : List Move) → some_set (same_cell c) (core wanted ms) ≡ true → some_set (same_cell c) ms ≡ true
  core_sets_less c on ms e = is_set ms c (ap is_some (sym (assigned_core wanted c on ms)) ∙ set_assigned (core wanted ms) c e)

-- ---- numbers

fitting_renamed : (r : ℕ → ℕ) (w : ℕ) (a : Tree) → IsFitting w a → IsFitting w (tree_with r a)
fitting_renamed r w (Read c) h = tt
fitting_renamed r w (Load d a) h = fitting_renamed r w a h
fitting_renamed r w (Unary o a) h = fitting_renamed r w a h
fitting_renamed r w (Binary o a b) h = (fitting_renamed r w a h.0, fitting_renamed r w b h.1)
fitting_renamed r w (Number n) h = h
fitting_renamed r w (Symbol n) h = h
fitting_renamed r w (CodeLabel l) h = h
fitting_renamed r w NoPair h = h
fitting_renamed r w (AnyNumber n) h = h
fitting_renamed r w (AnyName n) h = h

goal_fitting_renamed : (r : ℕ → ℕ) (w : ℕ) (g : Goal) → IsGoalFitting w g → IsGoalFitting w (goal_with r g)
goal_fitting_renamed r w (ToCell c) h = tt
goal_fitting_renamed r w (ToMemory d a) h = fitting_renamed r w a h

pub numbers_renamed : (r : ℕ → ℕ) (w : ℕ) (ms : List Move) → All (IsMoveFitting w) ms → All (IsMoveFitting w) (with_registers r ms)
numbers_renamed r w [] h = All-nil (IsMoveFitting w)
numbers_renamed r w (m ∷ ms) h =
    let first = All-head (IsMoveFitting w) m ms h in
    All-cons (IsMoveFitting w) (record { to = goal_with r m.to; value = tree_with r m.value }) (with_registers r ms)
    (goal_fitting_renamed r w m.to first.0, fitting_renamed r w m.value first.1) (numbers_renamed r w ms (All-tail (IsMoveFitting w) m ms h))
