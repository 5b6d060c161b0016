-- An instruction with registers in place of its temporaries is one.
use Rattle.std.proofs.Common.{◌≡◌, ◌≢◌, ℕ, zero, suc, ◌<◌, nat_lt, Bool, true, ◌&&◌, List, [], ◌∷◌, map, slice_get, bit_and, Option, Some, None, IsTrue, refl, sym, subst, ap, arith, ◌∙◌}
use Rattle.std.specs.Prelude.{◌==◌, option_map, AllPairs, filter_map}
use Rattle.std.specs.List.{cons_option}
use Rattle.std.specs.Int.{bit_at}
use Rattle.std.proofs.lemmas.Bool.{eqb-true, eq-eqb}
use Rattle.std.proofs.lemmas.Bool.Decides.{nat_tests}
use Rattle.std.proofs.lemmas.Nat.Bits.{bit_at_and, bit_at-lt}
use Rattle.std.proofs.lemmas.Option.{slice_get-map}
use Rattle.std.proofs.lemmas.List.Kept.{AllPairs-cons}
use Rattle.rtl_tree.specs.declared.cells.Cell.{Cell}
use Rattle.rtl_tree.specs.declared.cells.Cell.TheVariants.{Hard, Temp, Flag, Pc, Input, Output, Halt, Hole as RegisterHole}
use Rattle.rtl_tree.specs.Trees.{Tree, Number, Symbol, CodeLabel, Read, Load, Unary, Binary, NoPair, AnyNumber, AnyName}
use Rattle.rtl_tree.specs.Moves.{Goal, ToCell, ToMemory, Move}
use Rattle.rtl_tree.specs.Same.{same_cell}
use Rattle.rtl_tree.proofs.Equality.{same_cell-own}
use Rattle.rtl_tree.proofs.Pairs.{AllPairs-first, AllPairs-rest}
use Rattle.md_rows.specs.declared.row.Hole.{Hole}
use Rattle.md_rows.specs.declared.row.Hole.TheVariants.{Reg as RegHole, Num as NumHole, Sym as SymHole, Label as LabelHole}
use Rattle.md_rows.specs.declared.instance.Bound.{Bound}
use Rattle.md_rows.specs.declared.instance.Bound.TheVariants.{Reg, Num, Sym, Label}
use Rattle.md_rows.specs.Fits.{is_in, fits}
use Rattle.md_rows.specs.Instances.{leaf_of, held_by, filled, register_by, filled_goal, filled_move, effects_with, general_set, AllFit, assigned_register}
use Rattle.md_match.specs.Searches.{goal_tree}
use Rattle.md_match.proofs.Apart.{from_at, all_at, Kept, kept_from}
use Rattle.md_covers.specs.Covers.{IsRowTree, IsRowMove}
use Rattle.md_said.specs.Sound.{SaidIsSound}
use Rattle.md_bounds.specs.Bounds.{SaidIsBounded}
use Rattle.md_filled.proofs.Doing.{none_some, some_same, unmapped}
use Rattle.temp_machine.specs.Cells.{sets_by, some_set}
use Rattle.temp_laws.proofs.Places.{any_true}
use Rattle.color_renaming.specs.Renaming.{cell_with, tree_with, goal_with, with_registers}
use Rattle.color_renaming.specs.Does.{IsSeparate}
use Rattle.row_laws.proofs.Rows.{good_rows}
use Rattle.row_colors.specs.Registers.{bound_with, binding_with, RegistersPutIn, RealisedWithRegisters}

-- the transfer with registers

module _ (r : ℕ → ℕ) (b : List Bound) where
  abbrev put : List Bound
  put = binding_with r b

  slot : (h : ℕ) → slice_get put h ≡ option_map (bound_with r) (slice_get b h)
  slot h = slice_get-map (bound_with r) b h

  leaf_with : (v : Bound) → leaf_of (bound_with r v) ≡ tree_with r (leaf_of v)
  leaf_with (Reg c) = refl
  leaf_with (Num n) = refl
  leaf_with (Sym n) = refl
  leaf_with (Label l) = refl

  held_with : (hole : Tree) → tree_with r hole ≡ hole → (o : Option Bound) → held_by hole (option_map (bound_with r) o) ≡ tree_with r (held_by hole o)
  held_with hole e (Some v) = leaf_with v
  held_with hole e None = sym e

  hole_with : (hole : Tree) → tree_with r hole ≡ hole → (h : ℕ) → held_by hole (slice_get put h) ≡ tree_with r (held_by hole (slice_get b h))
  hole_with hole e h = ap (held_by hole) (slot h) ∙ held_with hole e (slice_get b h)

  tree_filled : (holes : List Hole) (t : Tree) → IsRowTree holes t → filled put t ≡ tree_with r (filled b t)
  tree_filled holes (Number n) i = refl
  tree_filled holes (Symbol n) i = absurd i
  tree_filled holes (CodeLabel l) i = absurd i
  tree_filled holes (Read (RegisterHole h)) i = hole_with (Read (RegisterHole h)) refl h
  tree_filled holes (Read (Hard n)) i = refl
  tree_filled holes (Read (Temp n)) i = absurd i
  tree_filled holes (Read (Flag n)) i = refl
  tree_filled holes (Read Pc) i = refl
  tree_filled holes (Read Input) i = refl
  tree_filled holes (Read Output) i = refl
  tree_filled holes (Read Halt) i = refl
  tree_filled holes (Load d a) i = ap (Load d) (tree_filled holes a i)
  tree_filled holes (Unary o a) i = ap (Unary o) (tree_filled holes a i)
  tree_filled holes (Binary o a c) i =
      ap (λ (t : Tree). Binary o t (filled put c)) (tree_filled holes a i.0) ∙ ap (λ (t : Tree). Binary o (tree_with r (filled b a)) t) (tree_filled holes c i.1)
  tree_filled holes NoPair i = refl
  tree_filled holes (AnyNumber h) i = hole_with (AnyNumber h) refl h
  tree_filled holes (AnyName h) i = hole_with (AnyName h) refl h

  register_with : (h : ℕ) (o : Option Bound) → register_by (RegisterHole h) (option_map (bound_with r) o) ≡ cell_with r (register_by (RegisterHole h) o)
  register_with h (Some (Reg c)) = refl
  register_with h (Some (Num n)) = refl
  register_with h (Some (Sym n)) = refl
  register_with h (Some (Label l)) = refl
  register_with h None = refl

  goal_filled : (holes : List Hole) (g : Goal) → IsRowTree holes (goal_tree g) → filled_goal put g ≡ goal_with r (filled_goal b g)
  goal_filled holes (ToCell (RegisterHole h)) i =
      ap (λ (o : Option Bound). let g : Goal = ToCell (register_by (RegisterHole h) o) in g) (slot h)
      ∙ ap (λ (c : Cell). let g : Goal = ToCell c in g) (register_with h (slice_get b h))
  goal_filled holes (ToCell (Hard n)) i = refl
  goal_filled holes (ToCell (Temp n)) i = absurd i
  goal_filled holes (ToCell (Flag n)) i = refl
  goal_filled holes (ToCell Pc) i = refl
  goal_filled holes (ToCell Input) i = refl
  goal_filled holes (ToCell Output) i = refl
  goal_filled holes (ToCell Halt) i = refl
  goal_filled holes (ToMemory d a) i = ap (ToMemory d) (tree_filled holes a i)

  moves_filled : (holes : List Hole) (ms : List Move) → ((k : ℕ) (m : Move) → slice_get ms k ≡ Some m → IsRowMove holes m)
      → map (filled_move put) ms ≡ with_registers r (map (filled_move b) ms)
  moves_filled holes [] h = refl
  moves_filled holes (m ∷ ms) h =
      let k = h zero m refl in
      let to = goal_filled holes m.to k.place in
      let value = tree_filled holes m.value k.value in
      let rest = moves_filled holes ms (λ i n e. h (suc i) n e) in
      λ i. record { to = to i; value = value i } ∷ rest i

-- the registers fit

class_has : (class g k : ℕ) → bit_and class g ≡ g → bit_at g k ≡ 1 → bit_at class k ≡ 1
class_has class g k e b =
    let x = bit_at_and class g k in
    let y : bit_at (bit_and class g) k ≡ 1 = ap (λ (n : ℕ). bit_at n k) e ∙ b in
    let l = bit_at-lt class k in
    omega (arith, x, y, l, b)

module _ (w g : ℕ) (r : ℕ → ℕ) where
  register_fits : (class k : ℕ) → r k < 64 → is_in g (r k) ≡ true → bit_and class g == g ≡ true → (nat_lt (r k) 64 && is_in class (r k)) ≡ true
  register_fits class k small general fit =
      let has : bit_at class (r k) ≡ 1 = class_has class g (r k) (eqb-true (bit_and class g) g fit) (eqb-true (bit_at g (r k)) 1 general) in
      let first : nat_lt (r k) 64 ≡ true = grind (arith, nat_tests, small) in
      ap (λ (q : Bool). q && is_in class (r k)) first ∙ eq-eqb (bit_at class (r k)) 1 has

  value_fits : (h : Hole) (v : Bound) → ((k : ℕ) → v ≡ Reg (Temp k) → (r k < 64) × (is_in g (r k) ≡ true)) → IsTrue (fits w g h v) → IsTrue (fits w g h (bound_with r v))
  value_fits (RegHole class) (Reg (Temp k)) p f = let q = p k refl in register_fits class k q.0 q.1 f
  value_fits (NumHole low high inverted) (Reg (Temp k)) p f = f
  value_fits SymHole (Reg (Temp k)) p f = f
  value_fits LabelHole (Reg (Temp k)) p f = f
  value_fits h (Reg (Hard n)) p f = f
  value_fits h (Reg (Flag n)) p f = f
  value_fits h (Reg Pc) p f = f
  value_fits h (Reg Input) p f = f
  value_fits h (Reg Output) p f = f
  value_fits h (Reg Halt) p f = f
  value_fits h (Reg (RegisterHole n)) p f = f
  value_fits h (Num n) p f = f
  value_fits h (Sym n) p f = f
  value_fits h (Label l) p f = f

  all_fit : (hs : List Hole) (b : List Bound) → ((h k : ℕ) → slice_get b h ≡ Some (Reg (Temp k)) → (r k < 64) × (is_in g (r k) ≡ true)) → AllFit w g hs b
      → AllFit w g hs (binding_with r b)
  all_fit [] [] p f = tt
  all_fit (h ∷ hs) (v ∷ vs) p f = (value_fits h v (λ k e. p zero k (ap (λ (x : Bound). Some x) e)) f.0, all_fit hs vs (λ i k e. p (suc i) k e) f.1)
  all_fit [] (v ∷ vs) p f = absurd f
  all_fit (h ∷ hs) [] p f = absurd f

-- and no two that are set become one

abbrev set_by : Move → Option Cell
set_by m = assigned_register m.to

-- a register or temporary that is assigned
data Assigned (g : Goal) : Cell → Type 0 where
  hard : (n : ℕ) → g ≡ ToCell (Hard n) → Assigned g (Hard n)
  temp : (n : ℕ) → g ≡ ToCell (Temp n) → Assigned g (Temp n)

assigned_of : (g : Goal) (c : Cell) → assigned_register g ≡ Some c → Assigned g c
assigned_of (ToCell (Hard n)) c e = subst (Assigned (ToCell (Hard n))) (some_same (Hard n) c e) (hard n refl)
assigned_of (ToCell (Temp n)) c e = subst (Assigned (ToCell (Temp n))) (some_same (Temp n) c e) (temp n refl)
assigned_of (ToCell (Flag n)) c e = absurd (none_some c e)
assigned_of (ToCell Pc) c e = absurd (none_some c e)
assigned_of (ToCell Input) c e = absurd (none_some c e)
assigned_of (ToCell Output) c e = absurd (none_some c e)
assigned_of (ToCell Halt) c e = absurd (none_some c e)
assigned_of (ToCell (RegisterHole n)) c e = absurd (none_some c e)
assigned_of (ToMemory d a) c e = absurd (none_some c e)

hard_same : (m n : ℕ) → Hard m ≡ Hard n → m ≡ n
hard_same m n e = cc

module _ (r : ℕ → ℕ) (ms : List Move) (separate : IsSeparate r ms) where
  is_set : (c : Cell) (k : Kept set_by ms c) → k.move.to ≡ ToCell c → some_set (same_cell c) ms ≡ true
  is_set c k e =
      any_true (λ m. sets_by (same_cell c) m.to) ms k.move (record { place = k.place; is = k.is }) (ap (λ (g : Goal). sets_by (same_cell c) g) e ∙ same_cell-own c)

  stay_apart : (c d : Cell) (x : Kept set_by ms c) (y : Kept set_by ms d) → Assigned x.move.to c → Assigned y.move.to d → c ≢ d → cell_with r c ≢ cell_with r d
  stay_apart _ _ x y (hard m p) (hard n q) u e = u e
  stay_apart _ _ x y (hard m p) (temp k q) u e = separate.registers m k (is_set (Hard m) x p) (is_set (Temp k) y q) (sym (hard_same m (r k) e))
  stay_apart _ _ x y (temp j p) (hard n q) u e = separate.registers n j (is_set (Hard n) y q) (is_set (Temp j) x p) (hard_same (r j) n e)
  stay_apart _ _ x y (temp j p) (temp k q) u e = u (ap Temp (separate.temps j k (is_set (Temp j) x p) (is_set (Temp k) y q) (hard_same (r j) (r k) e)))

  kept_apart : (c d : Cell) → Kept set_by ms c → Kept set_by ms d → c ≢ d → cell_with r c ≢ cell_with r d
  kept_apart c d x y u = stay_apart c d x y (assigned_of x.move.to c x.assigns) (assigned_of y.move.to d y.assigns) u

pairs_with : (f : Cell → Cell) (cs : List Cell) → ((i j : ℕ) (c d : Cell) → slice_get cs i ≡ Some c → slice_get cs j ≡ Some d → c ≢ d → f c ≢ f d)
    → AllPairs (λ (c d : Cell). c ≢ d) cs → AllPairs (λ (c d : Cell). c ≢ d) (map f cs)
pairs_with f [] h p = p
pairs_with f (c ∷ cs) h p =
    AllPairs-cons (λ (c d : Cell). c ≢ d) (f c) (map f cs)
    (from_at (λ (d : Cell). f c ≢ d) (map f cs) (λ j y e.
    (let from = unmapped f cs j y e in
    let first = all_at (λ (d : Cell). c ≢ d) cs (AllPairs-first (λ (c d : Cell). c ≢ d) c cs p) j from.from from.is in
    subst (λ (d : Cell). f c ≢ d) from.to (h zero (suc j) c from.from refl from.is first))))
    (pairs_with f cs (λ i j x y e q. h (suc i) (suc j) x y e q) (AllPairs-rest (λ (c d : Cell). c ≢ d) c cs p))

assigned_with : (r : ℕ → ℕ) (g : Goal) → assigned_register (goal_with r g) ≡ option_map (cell_with r) (assigned_register g)
assigned_with r (ToCell (Hard n)) = refl
assigned_with r (ToCell (Temp n)) = refl
assigned_with r (ToCell (Flag n)) = refl
assigned_with r (ToCell Pc) = refl
assigned_with r (ToCell Input) = refl
assigned_with r (ToCell Output) = refl
assigned_with r (ToCell Halt) = refl
assigned_with r (ToCell (RegisterHole n)) = refl
assigned_with r (ToMemory d a) = refl

registers_with : (r : ℕ → ℕ) (ms : List Move) → filter_map set_by (with_registers r ms) ≡ map (cell_with r) (filter_map set_by ms)
registers_with r [] = refl
registers_with r (m ∷ ms) =
    ap (λ (o : Option Cell). cons_option o (filter_map set_by (with_registers r ms))) (assigned_with r m.to) ∙ by (assigned_register m.to) (registers_with r ms)
  where
    by : (o : Option Cell) → filter_map set_by (with_registers r ms) ≡ map (cell_with r) (filter_map set_by ms)
        → cons_option (option_map (cell_with r) o) (filter_map set_by (with_registers r ms)) ≡ map (cell_with r) (cons_option o (filter_map set_by ms))
    by (Some c) e = ap (λ (cs : List Cell). cell_with r c ∷ cs) e
    by None e = e

stay_different : (r : ℕ → ℕ) (ms : List Move) → IsSeparate r ms → AllPairs (λ (c d : Cell). c ≢ d) (filter_map set_by ms)
    → AllPairs (λ (c d : Cell). c ≢ d) (filter_map set_by (with_registers r ms))
stay_different r ms separate p =
    subst (AllPairs (λ (c d : Cell). c ≢ d)) (sym (registers_with r ms))
    (pairs_with (cell_with r) (filter_map set_by ms) (λ i j c d e q. kept_apart r ms separate c d (kept_from set_by ms i c e) (kept_from set_by ms j d q)) p)

-- all in all

pub put_in : SaidIsSound → SaidIsBounded → RegistersPutIn
put_in sound bounded w d i j row r c h general separate same bound =
    let good = good_rows w d sound bounded c i.row row h.has_row in
    let b = i.binding in
    let effects : effects_with row j.binding ≡ with_registers r (effects_with row b) =
    ap (λ (x : List Bound). effects_with row x) bound ∙ moves_filled r b row.holes row.effects (λ k m e. all_at (IsRowMove row.holes) row.effects good.moves k m e) in (
      record {
        has_row = ap (λ (k : ℕ). slice_get d.rows k) same ∙ h.has_row;
        short = h.short;
        fit = subst (AllFit d.word (general_set d.registers) row.holes) (sym bound) (all_fit d.word (general_set d.registers) r row.holes b general h.fit);
        different = subst (λ (ms : List Move). AllPairs (λ (c d : Cell). c ≢ d) (filter_map set_by ms)) (sym effects) (stay_different r (effects_with row b) separate h.different);
      },
      effects,
    )

pub realised_put_in : SaidIsSound → SaidIsBounded → RealisedWithRegisters
realised_put_in sound bounded w d t u r c h general separate same bound what =
    let k = put_in sound bounded w d t.by u.by h.row r c h.instance general (subst (IsSeparate r) h.effects separate) same bound in
    record { row = h.row; instance = k.0; effects = what ∙ (ap (with_registers r) h.effects ∙ sym k.1) }
