-- Transfers without temporaries, which leave the stack register alone, as linking asks for them.
use Rattle.std.proofs.Common.{◌≡◌, ℕ, zero, suc, ◌<◌, Bool, true, false, not, ◌&&◌, ◌||◌, List, [], ◌∷◌, map, length, Option, Some, None, All, Contains, refl, sym, ap, arith, ◌∙◌}
use Rattle.std.specs.Prelude.{◌==◌, if◌then◌else◌, slice_index_or, AllPairs}
use Rattle.std.specs.List.{AllByRecursion}
use Rattle.std.proofs.lemmas.Bool.{eq-eqb}
use Rattle.std.proofs.lemmas.List.Elements.{recursion_from_All}
use Rattle.rtl_word.specs.Words.{IsWordSize}
use Rattle.rtl_tree.specs.declared.cells.Cell.{Cell}
use Rattle.rtl_tree.specs.declared.cells.Cell.TheVariants.{Hard, Temp, Flag, Pc, Input, Output, Halt, Hole as RegisterHole}
use Rattle.rtl_tree.specs.declared.cells.Lab.TheVariants.{Block, Function}
use Rattle.rtl_tree.specs.declared.constructs.Construct.TheVariants.{Taken}
use Rattle.rtl_tree.specs.declared.expressions.BinOp.TheVariants.{When}
use Rattle.rtl_tree.specs.Trees.{Tree, Number, Symbol, CodeLabel, Read, Load, Unary, Binary, NoPair, AnyNumber, AnyName}
use Rattle.rtl_tree.specs.Moves.{Goal, ToCell, ToMemory, Move}
use Rattle.rtl_tree.specs.Same.{same_cell}
use Rattle.rtl_tree.specs.WellFormed.{is_construct, same_goal_cell, set_apart}
use Rattle.rtl_tree.proofs.Equality.{same_cell-own}
use Rattle.rtl_tree.proofs.Pairs.{AllPairs-first, AllPairs-rest}
use Rattle.rtl_norm.specs.Transfers.{IsMoveFitting}
use Rattle.rtl_norm.proofs.Finish.{norm_fits}
use Rattle.rtl_tree.specs.Sorts.{IsFitting}
use Rattle.rtl_effect.specs.Effects.{assigned}
use Rattle.rtl_effect.specs.Agree.{Within, GoalWithin, AllWithin}
use Rattle.rtl_norm_value.specs.Effect.{jump_in_form, with_normal_jump}
use Rattle.md_match.proofs.Apart.{all_at}
use Rattle.md_filled.proofs.Doing.{none_some, some_same, unmapped}
use Rattle.md_filled.proofs.Lookups.{assigned_from}
use Rattle.temp_machine.specs.Routines.{BasicBlock, Target}
use Rattle.temp_machine.specs.Cells.{some_cell, some_goal_cell, sets_by, some_read, some_set, mentions, is_temporary}
use Rattle.temp_machine.specs.Flow.{label_by}
use Rattle.temp_laws.proofs.Cells.{norm_cells}
use Rattle.temp_laws.proofs.Places.{any_true}
use Rattle.link_code.specs.Linked.{stands}
use Rattle.link_code.specs.Runs.{is_no_temporary, NoJump, NoJumps, JumpOwn, GoalOwn, JumpsOwn, IsPlain, JumpPlain}
use Rattle.row_laws.specs.Formed.{IsGoodTransfer}

unlike : true ≡ false → ⊥
unlike e = cc

neither : (a b : Bool) → (a || b) ≡ false → (a ≡ false) × (b ≡ false)
neither true b e = absurd (unlike e)
neither false b e = (refl, e)

-- no temporary is read

no_temporary : (c : Cell) → is_temporary c ≡ false → is_no_temporary c ≡ true
no_temporary (Temp n) e = absurd (unlike e)
no_temporary (Hard n) e = refl
no_temporary (Flag n) e = refl
no_temporary Pc e = refl
no_temporary Input e = refl
no_temporary Output e = refl
no_temporary Halt e = refl
no_temporary (RegisterHole n) e = refl

tree_within : (t : Tree) → some_cell is_temporary t ≡ false → Within is_no_temporary t
tree_within (Read c) e = no_temporary c e
tree_within (Load d a) e = tree_within a e
tree_within (Unary o a) e = tree_within a e
tree_within (Binary o a b) e = let k = neither (some_cell is_temporary a) (some_cell is_temporary b) e in (tree_within a k.0, tree_within b k.1)
tree_within (Number n) e = tt
tree_within (Symbol n) e = tt
tree_within (CodeLabel l) e = tt
tree_within NoPair e = tt
tree_within (AnyNumber n) e = tt
tree_within (AnyName n) e = tt

goal_within : (g : Goal) → some_goal_cell is_temporary g ≡ false → GoalWithin is_no_temporary g
goal_within (ToCell c) e = tt
goal_within (ToMemory d a) e = tree_within a e

pub all_within : (ms : List Move) → some_read is_temporary ms ≡ false → AllWithin is_no_temporary ms
all_within [] e = tt
all_within (m ∷ ms) e =
    let k = neither (some_goal_cell is_temporary m.to || some_cell is_temporary m.value) (some_read is_temporary ms) e in
    let j = neither (some_goal_cell is_temporary m.to) (some_cell is_temporary m.value) k.0 in
    (tree_within m.value j.1, goal_within m.to j.0, all_within ms k.1)

-- what the normal form of a jump keeps

form_cells : (q : Cell → Bool) (w : ℕ) (g : Goal) (t : Tree) → some_cell q (jump_in_form w g t) ≡ some_cell q t
form_cells q w (ToCell Pc) t = norm_cells q w t
form_cells q w (ToCell (Hard n)) t = refl
form_cells q w (ToCell (Temp n)) t = refl
form_cells q w (ToCell (Flag n)) t = refl
form_cells q w (ToCell Input) t = refl
form_cells q w (ToCell Output) t = refl
form_cells q w (ToCell Halt) t = refl
form_cells q w (ToCell (RegisterHole n)) t = refl
form_cells q w (ToMemory d a) t = refl

form_reads : (q : Cell → Bool) (w : ℕ) (ms : List Move) → some_read q (with_normal_jump w ms) ≡ some_read q ms
form_reads q w [] = refl
form_reads q w (m ∷ ms) =
    ap (λ (x : Bool). (some_goal_cell q m.to || x) || some_read q (with_normal_jump w ms)) (form_cells q w m.to m.value)
    ∙ ap (λ (x : Bool). (some_goal_cell q m.to || some_cell q m.value) || x) (form_reads q w ms)

form_sets : (q : Cell → Bool) (w : ℕ) (ms : List Move) → some_set q (with_normal_jump w ms) ≡ some_set q ms
form_sets q w [] = refl
form_sets q w (m ∷ ms) = ap (λ (x : Bool). sets_by q m.to || x) (form_sets q w ms)

form_fits : (w : ℕ) (g : Goal) (t : Tree) → IsWordSize w → IsFitting w t → IsFitting w (jump_in_form w g t)
form_fits w (ToCell Pc) t z f = norm_fits w t z f
form_fits w (ToCell (Hard n)) t z f = f
form_fits w (ToCell (Temp n)) t z f = f
form_fits w (ToCell (Flag n)) t z f = f
form_fits w (ToCell Input) t z f = f
form_fits w (ToCell Output) t z f = f
form_fits w (ToCell Halt) t z f = f
form_fits w (ToCell (RegisterHole n)) t z f = f
form_fits w (ToMemory d a) t z f = f

all_fit : (w : ℕ) (ms : List Move) → IsWordSize w → AllByRecursion (IsMoveFitting w) ms → AllByRecursion (IsMoveFitting w) (with_normal_jump w ms)
all_fit w [] z h = tt
all_fit w (m ∷ ms) z h = ((h.0.0, form_fits w m.to m.value z h.0.1), all_fit w ms z h.1)

-- what isn't set isn't assigned

clash : (q : Bool) → q ≡ true → q ≡ false → ⊥
clash q e f = unlike (sym e ∙ f)

not_assigned : (c : Cell) (ms : List Move) → some_set (same_cell c) ms ≡ false → assigned ms c ≡ None
not_assigned c ms e = by (assigned ms c) refl
  where
    by : (o : Option Tree) → assigned ms c ≡ o → o ≡ None
    by None f = refl
    by (Some t) f =
        let a = assigned_from ms c t f in
        absurd (clash (some_set (same_cell c) ms)
        (any_true (λ m. sets_by (same_cell c) m.to) ms a.move a.among (ap (λ (g : Goal). sets_by (same_cell c) g) a.to ∙ same_cell-own c)) e)

-- no jump

no_jump : (g : Goal) → sets_by (same_cell Pc) g ≡ false → NoJump g
no_jump (ToCell Pc) e = unlike e
no_jump (ToCell (Hard n)) e = tt
no_jump (ToCell (Temp n)) e = tt
no_jump (ToCell (Flag n)) e = tt
no_jump (ToCell Input) e = tt
no_jump (ToCell Output) e = tt
no_jump (ToCell Halt) e = tt
no_jump (ToCell (RegisterHole n)) e = tt
no_jump (ToMemory d a) e = tt

pub no_jumps : (ms : List Move) → some_set (same_cell Pc) ms ≡ false → NoJumps ms
no_jumps [] e = tt
no_jumps (m ∷ ms) e = let k = neither (sets_by (same_cell Pc) m.to) (some_set (same_cell Pc) ms) e in (no_jump m.to k.0, no_jumps ms k.1)

-- jumps to labels of the code

abbrev IsOwnOf : List BasicBlock → Option Tree → Type 0
IsOwnOf bs o = (u : Tree) → o ≡ Some u → JumpOwn bs u

value_own : (bs : List BasicBlock) (g : Goal) (u : Tree) → (g ≡ ToCell Pc → JumpOwn bs u) → GoalOwn bs g u
value_own bs (ToCell Pc) u h = h refl
value_own bs (ToCell (Hard n)) u h = tt
value_own bs (ToCell (Temp n)) u h = tt
value_own bs (ToCell (Flag n)) u h = tt
value_own bs (ToCell Input) u h = tt
value_own bs (ToCell Output) u h = tt
value_own bs (ToCell Halt) u h = tt
value_own bs (ToCell (RegisterHole n)) u h = tt
value_own bs (ToMemory d a) u h = tt

-- no cell is assigned twice
set_twice : (m n : Move) → m.to ≡ ToCell Pc → n.to ≡ ToCell Pc → set_apart m n ≡ true → ⊥
set_twice m n e f s =
    let same : same_goal_cell m.to n.to ≡ true = ap (λ (g : Goal). same_goal_cell g n.to) e ∙ ap (λ (g : Goal). same_goal_cell (ToCell Pc) g) f in
    let wrong : set_apart m n ≡ false = ap (λ (q : Bool). not q && not (is_construct Taken m.value && is_construct Taken n.value)) same in
    clash (set_apart m n) s wrong

here : (w : ℕ) (m : Move) (ms : List Move) → m.to ≡ ToCell Pc → assigned (with_normal_jump w (m ∷ ms)) Pc ≡ Some (jump_in_form w m.to m.value)
here w m ms e = by (jump_in_form w m.to m.value)
  where
    by : (t : Tree) → assigned (record { to = m.to; value = t } ∷ with_normal_jump w ms) Pc ≡ Some t
    by t = ap (λ (g : Goal). assigned (record { to = g; value = t } ∷ with_normal_jump w ms) Pc) e

past : (m : Move) (ms : List Move) (u : Tree) → (m.to ≡ ToCell Pc → ⊥) → assigned ms Pc ≡ Some u → assigned (m ∷ ms) Pc ≡ Some u
past m ms u n e = by m.to n
  where
    by : (g : Goal) → (g ≡ ToCell Pc → ⊥) → assigned (record { to = g; value = m.value } ∷ ms) Pc ≡ Some u
    by (ToCell Pc) n = absurd (n refl)
    by (ToCell (Hard k)) n = e
    by (ToCell (Temp k)) n = e
    by (ToCell (Flag k)) n = e
    by (ToCell Input) n = e
    by (ToCell Output) n = e
    by (ToCell Halt) n = e
    by (ToCell (RegisterHole k)) n = e
    by (ToMemory d a) n = e

pub jumps_own : (bs : List BasicBlock) (w : ℕ) (ms : List Move) → AllPairs (λ m n. set_apart m n ≡ true) ms → IsOwnOf bs (assigned (with_normal_jump w ms) Pc)
    → JumpsOwn bs (with_normal_jump w ms)
jumps_own bs w [] apart h = tt
jumps_own bs w (m ∷ ms) apart h = (
  value_own bs m.to (jump_in_form w m.to m.value) (λ e. h (jump_in_form w m.to m.value) (here w m ms e)),
  jumps_own bs w ms (AllPairs-rest (λ m n. set_apart m n ≡ true) m ms apart) (λ u e.
      (let a = assigned_from (with_normal_jump w ms) Pc u e in
      let from = unmapped (λ (x : Move). record { to = x.to; value = jump_in_form w x.to x.value }) ms a.among.place a.move a.among.is in
      let to : from.from.to ≡ ToCell Pc = ap (λ (x : Move). x.to) from.to ∙ a.to in
      let one = all_at (λ n. set_apart m n ≡ true) ms (AllPairs-first (λ m n. set_apart m n ≡ true) m ms apart) a.among.place from.from from.is in
      h u (past (record { to = m.to; value = jump_in_form w m.to m.value }) (with_normal_jump w ms) u (λ p. set_twice m from.from p to one) e))),
)

-- labels that stand in a code
pub label_stands : (bs : List BasicBlock) (l : ℕ) → Contains (map (λ b. b.label) bs) l → stands bs l ≡ true
label_stands [] l h = absurd (let k = h.1 in omega (arith, k))
label_stands (b ∷ bs) l h = by (λ i. label_stands bs l i) (b.label == l) refl h.0 h.1 h.2
  where
    by : (Contains (map (λ b. b.label) bs) l → stands bs l ≡ true) → (q : Bool) → b.label == l ≡ q → (k : ℕ) → k < length (map (λ b. b.label) (b ∷ bs)) → slice_index_or (map (λ b. b.label) (b ∷ bs)) k l ≡ l → (if q then true else stands bs l) ≡ true
    by next true e k i s = refl
    by next false e zero i s = absurd (clash (b.label == l) (eq-eqb b.label l s) e)
    by next false e (suc k) i s = next (k, omega (arith, i), s)

label_own : (bs : List BasicBlock) (k l : ℕ) → Some k ≡ Some l → stands bs l ≡ true → stands bs k ≡ true
label_own bs k l e s = ap (stands bs) (some_same k l e) ∙ s

jump_own : (bs : List BasicBlock) (u : Tree) (l : ℕ) → label_by (Some u) ≡ Some l → stands bs l ≡ true → JumpOwn bs u
jump_own bs (CodeLabel (Block k)) l e s = label_own bs k l e s
jump_own bs (CodeLabel (Function k)) l e s = absurd (none_some l e)
jump_own bs (Binary When c (CodeLabel (Block k))) l e s = label_own bs k l e s
jump_own bs (Binary When c (CodeLabel (Function k))) l e s = absurd (none_some l e)
jump_own bs (Binary When c (Number n)) l e s = absurd (none_some l e)
jump_own bs (Binary When c (Symbol n)) l e s = absurd (none_some l e)
jump_own bs (Binary When c (Read x)) l e s = absurd (none_some l e)
jump_own bs (Binary When c (Load d a)) l e s = absurd (none_some l e)
jump_own bs (Binary When c (Unary o a)) l e s = absurd (none_some l e)
jump_own bs (Binary When c (Binary o a b)) l e s = absurd (none_some l e)
jump_own bs (Binary When c NoPair) l e s = absurd (none_some l e)
jump_own bs (Binary When c (AnyNumber n)) l e s = absurd (none_some l e)
jump_own bs (Binary When c (AnyName n)) l e s = absurd (none_some l e)
jump_own bs (Binary _ c t) l e s = absurd (none_some l e)
jump_own bs (Number n) l e s = absurd (none_some l e)
jump_own bs (Symbol n) l e s = absurd (none_some l e)
jump_own bs (Read c) l e s = absurd (none_some l e)
jump_own bs (Load d a) l e s = absurd (none_some l e)
jump_own bs (Unary o a) l e s = absurd (none_some l e)
jump_own bs NoPair l e s = absurd (none_some l e)
jump_own bs (AnyNumber n) l e s = absurd (none_some l e)
jump_own bs (AnyName n) l e s = absurd (none_some l e)

pub label_owns : (bs : List BasicBlock) (o : Option Tree) (l : ℕ) → label_by o ≡ Some l → stands bs l ≡ true → IsOwnOf bs o
label_owns bs o l e s u q = jump_own bs u l (ap label_by (sym q) ∙ e) s

-- all in all

pub is_plain : (t : Target) (ms : List Move) → mentions is_temporary ms ≡ false → some_set (same_cell (Hard t.sp)) ms ≡ false → All (IsMoveFitting t.word) ms → IsPlain t ms
is_plain t ms free stack fits = (
  all_within ms (neither (some_read is_temporary ms) (some_set is_temporary ms) free).0,
  not_assigned (Hard t.sp) ms stack,
  recursion_from_All (IsMoveFitting t.word) ms fits,
)

pub jump_plain : (t : Target) (bs : List BasicBlock) (ms : List Move) → IsWordSize t.word → IsGoodTransfer t.word ms → mentions is_temporary ms ≡ false
    → some_set (same_cell (Hard t.sp)) ms ≡ false → IsOwnOf bs (assigned (with_normal_jump t.word ms) Pc) → JumpPlain t bs ms
jump_plain t bs ms z good free stack own = record {
  plain = (
    all_within (with_normal_jump t.word ms) (form_reads is_temporary t.word ms ∙ (neither (some_read is_temporary ms) (some_set is_temporary ms) free).0),
    not_assigned (Hard t.sp) (with_normal_jump t.word ms) (form_sets (same_cell (Hard t.sp)) t.word ms ∙ stack),
    all_fit t.word ms z (recursion_from_All (IsMoveFitting t.word) ms good.fits),
  );
  own = jumps_own bs t.word ms good.formed.once own;
  formed = good.formed;
  fits = good.fits;
  filled = good.filled;
}
