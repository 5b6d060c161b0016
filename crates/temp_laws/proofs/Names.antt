-- The cells that a transfer of a shape names.
use Rattle.std.proofs.Common.{◌≡◌, ◌⊎◌, inl, inr, ℕ, ◌<◌, Bool, true, false, not, ◌||◌, List, length, slice_get, Option, Some, None, refl, sym, subst, ap, arith, ◌∙◌}
use Rattle.std.specs.Prelude.{◌==◌}
use Rattle.std.proofs.lemmas.Bool.Decides.{nat_tests}
use Rattle.rtl_tree.specs.declared.cells.Cell.{Cell}
use Rattle.rtl_tree.specs.declared.cells.Cell.TheVariants.{Hard, Temp, Flag, Pc, Input, Output, Halt, Hole as RegisterHole}
use Rattle.rtl_tree.specs.declared.expressions.UnOp.{UnOp}
use Rattle.rtl_tree.specs.declared.expressions.UnOp.TheVariants.{Neg, Not, Sxb, Test}
use Rattle.rtl_tree.specs.Trees.{Tree, Number, Symbol, CodeLabel, Read, Load, Unary, Binary, NoPair, AnyNumber, AnyName}
use Rattle.rtl_tree.specs.Moves.{Goal, ToCell, ToMemory, Move}
use Rattle.rtl_tree.specs.Same.{same_cell, same_tree}
use Rattle.rtl_tree.specs.Likeness.{IsAlike}
use Rattle.rtl_tree.specs.WellFormed.{flags_tested, tests_flags, IsPlaced}
use Rattle.rtl_tree.proofs.Equality.{same_tree-is}
use Rattle.rtl_norm.specs.Normal.{norm}
use Rattle.rtl_norm.specs.Transfers.{norm_goal, norm_value, norm_move}
use Rattle.rtl_norm_form.proofs.Flags.{norm_tested}
use Rattle.md_rows.specs.declared.instance.Bound.{Bound}
use Rattle.md_rows.specs.declared.instance.Bound.TheVariants.{Reg, Num, Sym, Label}
use Rattle.md_rows.specs.Fits.{is_in}
use Rattle.md_rows.specs.Instances.{filled, filled_cell, filled_goal, filled_move, general_set}
use Rattle.md_match.specs.Searches.{goal_tree, names_none, occurs_by, occurs_in_move}
use Rattle.md_match.specs.Does.{AllTraps, IsPartOfMarked, has_hole}
use Rattle.md_shapes.specs.Shapes.{shape_moves}
use Rattle.md_covers.specs.Covers.{IsRowTree, IsRowMove}
use Rattle.md_covers.proofs.Normal.{norm_row, row_below}
use Rattle.md_said.specs.Sound.{SaidIsSound}
use Rattle.md_bounds.specs.Bounds.{SaidIsBounded}
use Rattle.md_filled.specs.Held.{IsRegister, IsWord, IsName, IsHeld}
use Rattle.md_filled.proofs.Rewriting.{register_is, word_is, name_is, norm_held}
use Rattle.md_filled.proofs.Sorted.{and_true}
use Rattle.md_filled.proofs.Alike.{alike_load}
use Rattle.md_filled.proofs.Lookups.{Among}
use Rattle.md_filled.proofs.Partner.{memory_is}
use Rattle.md_filled.proofs.Doing.{all_at, move_held as norm_move_held}
use Rattle.temp_machine.specs.Cells.{some_cell, some_goal_cell, sets_by, some_read, some_set, mentions, reads}
use Rattle.temp_laws.specs.Keeping.{IsOfOperands, SetsAreShapes, SetsAreKept, NamesAreShapes, FlagsAreShapes}
use Rattle.temp_laws.proofs.Making.{Makes, made_of, normal, Taking, Idling, held_at, kind, marked_takes, comes_from}
use Rattle.temp_laws.proofs.Places.{place_same, to_cell, each_false, none_by, sets_kept, sets_equal}
use Rattle.temp_laws.proofs.Cells.{alike_cells, taken_cells, norm_filled_cells}

clash : false ≡ true → ⊥
clash e = cc

neither : (a b : Bool) → (a || b) ≡ false → (a ≡ false) × (b ≡ false)
neither true b e = let k : true ≡ false = e in cc
neither false b e = (refl, e)

both_false : (a b : Bool) → a ≡ false → b ≡ false → (a || b) ≡ false
both_false a b e f = ap (λ (x : Bool). x || b) e ∙ f

either_of : (a b : Bool) → (a || b) ≡ true → (a ≡ true) ⊎ (b ≡ true)
either_of true b e = inl refl
either_of false b e = inr e

not_true : (a : Bool) → not a ≡ true → a ≡ false
not_true true e = cc
not_true false e = refl

equal_by : (m n : ℕ) → m == n ≡ true → m ≡ n
equal_by m n e = grind (arith, nat_tests, e)

-- a cell of a part of a tree is one of the tree
module _ (w : ℕ) (b : List Bound) (p : Cell → Bool) where
  abbrev Lacks : Tree → Type 0
  Lacks t = some_cell p (filled b t) ≡ false

  same_lacks : (x t : Tree) → same_tree (filled b x) (filled b t) ≡ true → Lacks t → Lacks x
  same_lacks x t e h = ap (some_cell p) (same_tree-is (filled b x) (filled b t) e) ∙ h

  occurs_lacks : (x t : Tree) → occurs_by (filled b) x t ≡ true → Lacks t → Lacks x
  occurs_lacks x (Load d a) e h = elim (either_of (same_tree (filled b x) (filled b (Load d a))) (occurs_by (filled b) x a) e) [
    | inl s ↦ same_lacks x (Load d a) s h
    | inr o ↦ occurs_lacks x a o h
  ]
  occurs_lacks x (Unary o a) e h = elim (either_of (same_tree (filled b x) (filled b (Unary o a))) (occurs_by (filled b) x a) e) [
    | inl s ↦ same_lacks x (Unary o a) s h
    | inr r ↦ occurs_lacks x a r h
  ]
  occurs_lacks x (Binary o a c) e h =
      elim (either_of (same_tree (filled b x) (filled b (Binary o a c))) (occurs_by (filled b) x a || occurs_by (filled b) x c) e) [
        | inl s ↦ same_lacks x (Binary o a c) s h
        | inr r ↦ (let k = neither (some_cell p (filled b a)) (some_cell p (filled b c)) h in
            elim (either_of (occurs_by (filled b) x a) (occurs_by (filled b) x c) r) [
              | inl l ↦ occurs_lacks x a l k.0
              | inr r ↦ occurs_lacks x c r k.1
            ])
      ]
  occurs_lacks x (Read c) e h = same_lacks x (Read c) e h
  occurs_lacks x (Number n) e h = same_lacks x (Number n) e h
  occurs_lacks x (Symbol n) e h = same_lacks x (Symbol n) e h
  occurs_lacks x (CodeLabel l) e h = same_lacks x (CodeLabel l) e h
  occurs_lacks x NoPair e h = same_lacks x NoPair e h
  occurs_lacks x (AnyNumber n) e h = same_lacks x (AnyNumber n) e h
  occurs_lacks x (AnyName n) e h = same_lacks x (AnyName n) e h

  -- an operation doesn't occur in a place that is a cell
  goal_lacks : (o : UnOp) (a : Tree) (to : Goal) → IsHeld w b (goal_tree to) → occurs_by (filled b) (Unary o a) (goal_tree to) ≡ true
      → some_goal_cell p (filled_goal b to) ≡ false → Lacks (Unary o a)
  goal_lacks o a (ToMemory d c) i e h = occurs_lacks (Unary o a) c e h
  goal_lacks o a (ToCell (RegisterHole k)) i e h =
      absurd (register_is (λ t. same_tree (Unary o (filled b a)) t ≡ true → ⊥) (Read (RegisterHole k)) (slice_get b k) i (λ n. clash) (λ n. clash) e)
  goal_lacks o a (ToCell (Hard n)) i e h = absurd (clash e)
  goal_lacks o a (ToCell (Temp n)) i e h = absurd (clash e)
  goal_lacks o a (ToCell (Flag n)) i e h = absurd (clash e)
  goal_lacks o a (ToCell Pc) i e h = absurd (clash e)
  goal_lacks o a (ToCell Input) i e h = absurd (clash e)
  goal_lacks o a (ToCell Output) i e h = absurd (clash e)
  goal_lacks o a (ToCell Halt) i e h = absurd (clash e)

  -- what stands in a hole is one of a tree that has the hole

  no_word : (o : Option Bound) → IsRegister o → IsWord w o → ⊥
  no_word (Some (Reg c)) i k = k
  no_word (Some (Num n)) i k = i
  no_word (Some (Sym n)) i k = i
  no_word (Some (Label l)) i k = i
  no_word None i k = i

  no_name : (o : Option Bound) → IsRegister o → IsName o → ⊥
  no_name (Some (Reg c)) i k = k
  no_name (Some (Num n)) i k = i
  no_name (Some (Sym n)) i k = i
  no_name (Some (Label l)) i k = i
  no_name None i k = i

  hole_lacks : (h : ℕ) (t : Tree) → IsRegister (slice_get b h) → has_hole h t ≡ true → IsHeld w b t → Lacks t → Lacks (Read (RegisterHole h))
  hole_lacks h (Read (RegisterHole k)) i e held l = subst (λ (n : ℕ). Lacks (Read (RegisterHole n))) (sym (equal_by h k e)) l
  hole_lacks h (AnyNumber k) i e held l = absurd (no_word (slice_get b h) i (subst (λ (n : ℕ). IsWord w (slice_get b n)) (sym (equal_by h k e)) held))
  hole_lacks h (AnyName k) i e held l = absurd (no_name (slice_get b h) i (subst (λ (n : ℕ). IsName (slice_get b n)) (sym (equal_by h k e)) held))
  hole_lacks h (Load d a) i e held l = hole_lacks h a i e held l
  hole_lacks h (Unary o a) i e held l = hole_lacks h a i e held l
  hole_lacks h (Binary o a c) i e held l =
      let k = neither (some_cell p (filled b a)) (some_cell p (filled b c)) l in
      elim (either_of (has_hole h a) (has_hole h c) e) [
        | inl x ↦ hole_lacks h a i x held.0 k.0
        | inr x ↦ hole_lacks h c i x held.1 k.1
      ]
  hole_lacks h (Read (Hard n)) i e held l = absurd (clash e)
  hole_lacks h (Read (Temp n)) i e held l = absurd (clash e)
  hole_lacks h (Read (Flag n)) i e held l = absurd (clash e)
  hole_lacks h (Read Pc) i e held l = absurd (clash e)
  hole_lacks h (Read Input) i e held l = absurd (clash e)
  hole_lacks h (Read Output) i e held l = absurd (clash e)
  hole_lacks h (Read Halt) i e held l = absurd (clash e)
  hole_lacks h (Number n) i e held l = absurd (clash e)
  hole_lacks h (Symbol n) i e held l = absurd (clash e)
  hole_lacks h (CodeLabel n) i e held l = absurd (clash e)
  hole_lacks h NoPair i e held l = absurd (clash e)

abbrev read_by : (Cell → Bool) → Move → Bool
read_by p x = some_goal_cell p x.to || some_cell p x.value

-- what a property of cells says of those that no shape names
record IsApart (g : ℕ) (p : Cell → Bool) : Type 0 where
  hard : (k : ℕ) → is_in g k ≡ false → p (Hard k) ≡ false
  counter : p Pc ≡ false
  input : p Input ≡ false
  output : p Output ≡ false
  halt : p Halt ≡ false

module _ (w g : ℕ) (es ms : List Move) (m : Makes w g es ms) (p : Cell → Bool) (apart : IsApart g p)
    (lacks : (y : Move) → Among es y → read_by p y ≡ false)
    (holes : (h : ℕ) → h < length m.row.holes → IsRegister (slice_get m.binding h) → some_cell p (filled m.binding (Read (RegisterHole h))) ≡ false) where
  abbrev Gone : Tree → Type 0
  Gone t = some_cell p (filled m.binding t) ≡ false

  -- the place and the value of an assignment that takes one of the shape's

  goal_reads : (to goal : Goal) → IsHeld w m.binding (goal_tree to) → IsAlike (filled m.binding (goal_tree (norm_goal w to))) (goal_tree goal)
      → some_goal_cell p (filled_goal m.binding to) ≡ some_goal_cell p goal
  goal_reads (ToCell c) goal i a =
      sym (ap (some_goal_cell p) (to_cell (ToCell (filled_cell m.binding c)) goal (filled_cell m.binding c) (place_same w m.binding (ToCell c) goal i a) refl))
  goal_reads (ToMemory d s) goal i a =
      let l = alike_load d (filled m.binding (norm w s)) (goal_tree goal) a in
      norm_filled_cells p w m.binding s i (norm_held w m.binding s i)
      ∙ (alike_cells p (filled m.binding (norm w s)) l.at l.alike ∙ sym (ap (some_goal_cell p) (memory_is d (filled m.binding (norm w s)) goal l)))

  normal_goal_reads : (to goal : Goal) → IsHeld w m.binding (goal_tree to) → IsAlike (filled m.binding (goal_tree (norm_goal w to))) (goal_tree goal)
      → some_goal_cell p (filled_goal m.binding (norm_goal w to)) ≡ some_goal_cell p goal
  normal_goal_reads (ToCell c) goal i a = goal_reads (ToCell c) goal i a
  normal_goal_reads (ToMemory d s) goal i a =
      let l = alike_load d (filled m.binding (norm w s)) (goal_tree goal) a in
      alike_cells p (filled m.binding (norm w s)) l.at l.alike ∙ sym (ap (some_goal_cell p) (memory_is d (filled m.binding (norm w s)) goal l))

  taking_reads : (e : Move) → Among m.row.effects e → Taking w g es ms m e → read_by p (filled_move m.binding e) ≡ false
  taking_reads e a t =
      let held = held_at w g es ms m a.place e a.is in
      let k = neither (some_goal_cell p t.move.to) (some_cell p t.move.value) (lacks t.move t.among) in
      both_false _ _ (goal_reads e.to t.move.to held.place t.alike.place ∙ k.0)
      (taken_cells p w m.binding e.to e.value t.move.value held.value (norm_move_held w m.binding e held).value t.alike.value ∙ k.1)

  -- a test occurs in what takes an assignment of the shape
  test_gone : (o : UnOp) (a : Tree) → IsPartOfMarked (normal w g es ms m) m.marks m.binding (Unary o a) → Gone (Unary o a)
  test_gone o a k =
      let x = marked_takes w g es ms m k.move k.marked in
      let e = x.0 in
      let t = x.3 in
      let held = held_at w g es ms m x.1.place e x.1.is in
      let l = neither (some_goal_cell p t.move.to) (some_cell p t.move.value) (lacks t.move t.among) in
      let part : occurs_in_move (filled m.binding) (Unary o a) (norm_move w e) ≡ true =
      subst (λ (r : Move). occurs_in_move (filled m.binding) (Unary o a) r ≡ true) (sym x.2) k.part in
      elim (either_of (occurs_by (filled m.binding) (Unary o a) (goal_tree (norm_move w e).to)) (occurs_by (filled m.binding) (Unary o a) (norm_move w e).value) part) [
        | inl s ↦ goal_lacks w m.binding p o a (norm_move w e).to (norm_move_held w m.binding e held).place s
            (normal_goal_reads e.to t.move.to held.place t.alike.place ∙ l.0)
        | inr s ↦ occurs_lacks w m.binding p (Unary o a) (norm_move w e).value s
            (alike_cells p (filled m.binding (norm_move w e).value) t.move.value t.alike.value ∙ l.1)
      ]

  -- so no such cell is read for a flag
  idle_gone : (t : Tree) → IsHeld w m.binding t → IsRowTree m.row.holes t → names_none g t ≡ true → flags_tested t ≡ true
      → AllTraps (IsPartOfMarked (normal w g es ms m) m.marks m.binding) t → Gone t
  idle_gone (Number k) i r n f a = refl
  idle_gone (Symbol k) i r n f a = refl
  idle_gone (CodeLabel l) i r n f a = refl
  idle_gone NoPair i r n f a = refl
  idle_gone (AnyNumber h) i r n f a = word_is w (λ t. some_cell p t ≡ false) (AnyNumber h) (slice_get m.binding h) i (λ k l. refl)
  idle_gone (AnyName h) i r n f a = name_is (λ t. some_cell p t ≡ false) (AnyName h) (slice_get m.binding h) i (λ k. refl) (λ l. refl)
  idle_gone (Read (RegisterHole h)) i r n f a = holes h (row_below m.row.holes (Read (RegisterHole h)) r) i
  idle_gone (Read (Hard k)) i r n f a = apart.hard k (not_true (is_in g k) n)
  idle_gone (Read (Temp k)) i r n f a = absurd r
  idle_gone (Read (Flag k)) i r n f a = absurd (clash f)
  idle_gone (Read Pc) i r n f a = apart.counter
  idle_gone (Read Input) i r n f a = apart.input
  idle_gone (Read Output) i r n f a = apart.output
  idle_gone (Read Halt) i r n f a = apart.halt
  idle_gone (Load d s) i r n f a = idle_gone s i r n f a.1
  idle_gone (Unary Neg s) i r n f a = idle_gone s i r n f a.1
  idle_gone (Unary Not s) i r n f a = idle_gone s i r n f a.1
  idle_gone (Unary Sxb s) i r n f a = idle_gone s i r n f a.1
  idle_gone (Unary (Test q) s) i r n f a = test_gone (Test q) s (a.0 refl)
  idle_gone (Binary o s u) i r n f a =
      let ns = and_true (names_none g s) (names_none g u) n in
      let fs = and_true (flags_tested s) (flags_tested u) f in
      both_false _ _ (idle_gone s i.0 r.0 ns.0 fs.0 a.1) (idle_gone u i.1 r.1 ns.1 fs.1 a.2)

  abbrev Idle : Goal → Tree → Type 0
  Idle to t =
      names_none g (norm_value w to t) ≡ true → AllTraps (IsPartOfMarked (normal w g es ms m) m.marks m.binding) (norm_value w to t) → tests_flags to t ≡ true
      → (some_goal_cell p (filled_goal m.binding to) || some_cell p (filled m.binding t)) ≡ false

  idle_reads : (t : Tree) (n : ℕ) → IsHeld w m.binding t → IsRowTree m.row.holes t → Idle (ToCell (Flag n)) t
  idle_reads t n i r names traps tests =
      norm_filled_cells p w m.binding t i (norm_held w m.binding t i)
      ∙ idle_gone (norm w t) (norm_held w m.binding t i) (norm_row m.row.holes w t r) names (norm_tested w t tests) traps

  idling_reads : (e : Move) → Among m.row.effects e → Idling w g es ms m e → read_by p (filled_move m.binding e) ≡ false
  idling_reads e a i =
      let held = held_at w g es ms m a.place e a.is in
      let row = all_at (IsRowMove m.row.holes) m.row.effects a.place e m.good.moves a.is in
      let placed = all_at IsPlaced m.row.effects a.place e m.good.formed.placed a.is in
      subst (λ (to : Goal). Idle to e.value) (sym i.flag.is) (idle_reads e.value i.flag.flag held.value row.value) i.names i.traps placed.tests

  reads_gone : some_read p ms ≡ false
  reads_gone = none_by (read_by p) ms (λ x a.
      let from = comes_from w g es ms m x a in
      subst (λ (y : Move). read_by p y ≡ false) from.2 (elim (kind w g es ms m from.0 from.1) [
        | inl t ↦ taking_reads from.0 from.1 t
        | inr i ↦ idling_reads from.0 from.1 i
      ]))

-- a shape that doesn't name a cell

goal_named : (p : Cell → Bool) (to : Goal) → some_goal_cell p to ≡ false → sets_by p to ≡ false → some_cell p (goal_tree to) ≡ false
goal_named p (ToCell c) h k = k
goal_named p (ToMemory d a) h k = h

module _ (w g : ℕ) (es ms : List Move) (m : Makes w g es ms) (p : Cell → Bool) (lacks : (y : Move) → Among es y → read_by p y ≡ false)
    (unset : (y : Move) → Among es y → sets_by p y.to ≡ false) where
  hole_named : (h : ℕ) → h < length m.row.holes → IsRegister (slice_get m.binding h) → some_cell p (filled m.binding (Read (RegisterHole h))) ≡ false
  hole_named h l i =
      let k = m.does.bound h l in
      let x = marked_takes w g es ms m k.move k.marked in
      let e = x.0 in
      let t = x.3 in
      let held = norm_move_held w m.binding e (held_at w g es ms m x.1.place e x.1.is) in
      let n = neither (some_goal_cell p t.move.to) (some_cell p t.move.value) (lacks t.move t.among) in
      let has : (has_hole h (goal_tree (norm_move w e).to) || has_hole h (norm_move w e).value) ≡ true =
      subst (λ (r : Move). (has_hole h (goal_tree r.to) || has_hole h r.value) ≡ true) (sym x.2) k.has in
      elim (either_of (has_hole h (goal_tree (norm_move w e).to)) (has_hole h (norm_move w e).value) has) [
        | inl s ↦ hole_lacks w m.binding p h (goal_tree (norm_move w e).to) i s held.place
            (alike_cells p (filled m.binding (goal_tree (norm_move w e).to)) (goal_tree t.move.to) t.alike.place
            ∙ goal_named p t.move.to n.0 (unset t.move t.among))
        | inr s ↦ hole_lacks w m.binding p h (norm_move w e).value i s held.value
            (alike_cells p (filled m.binding (norm_move w e).value) t.move.value t.alike.value ∙ n.1)
      ]

false_by : (b : Bool) → (b ≡ true → ⊥) → b ≡ false
false_by true h = absurd (h refl)
false_by false h = refl

unlike : (b : Bool) → b ≡ true → b ≡ false → ⊥
unlike b h k = let q : true ≡ false = sym h ∙ k in cc

operands_apart : (g : ℕ) (p : Cell → Bool) → IsOfOperands g p → IsApart g p
operands_apart g p o = record {
  hard = λ k e. false_by (p (Hard k)) (λ h. unlike (is_in g k) (o.hard k h) e);
  counter = o.counter;
  input = o.input;
  output = o.output;
  halt = o.halt;
}

flag_apart : (g n : ℕ) → IsApart g (same_cell (Flag n))
flag_apart g n = record { hard = λ k e. refl; counter = refl; input = refl; output = refl; halt = refl }

made_names : (w g : ℕ) (es ms : List Move) → Makes w g es ms → (p : Cell → Bool) → IsOfOperands g p → mentions p es ≡ false → mentions p ms ≡ false
made_names w g es ms m p o e =
    let k = neither (some_read p es) (some_set p es) e in
    let lacks : (y : Move) → Among es y → read_by p y ≡ false = λ y a. each_false (read_by p) es y a k.0 in
    let unset : (y : Move) → Among es y → sets_by p y.to ≡ false = λ y a. each_false (λ z. sets_by p z.to) es y a k.1 in
    both_false (some_read p ms) (some_set p ms)
    (reads_gone w g es ms m p (operands_apart g p o) lacks (hole_named w g es ms m p lacks unset))
    (sets_equal w g es ms m p o.flags ∙ k.1)

made_flags : (w g : ℕ) (es ms : List Move) → Makes w g es ms → (n : ℕ) → reads (Flag n) es ≡ false → reads (Flag n) ms ≡ false
made_flags w g es ms m n e =
    let p = same_cell (Flag n) in
    reads_gone w g es ms m p (flag_apart g n) (λ y a. each_false (read_by p) es y a e)
    (λ h l i. register_is (λ t. some_cell p t ≡ false) (Read (RegisterHole h)) (slice_get m.binding h) i (λ k. refl) (λ k. refl))

module _ (sound : SaidIsSound) (bounded : SaidIsBounded) where
  pub sets_are_shapes : SetsAreShapes
  sets_are_shapes w d frame pattern at t c h p f =
      sets_equal d.word _ (shape_moves frame pattern at) t.what (made_of w d frame pattern at t sound bounded c h) p f

  pub sets_are_kept : SetsAreKept
  sets_are_kept w d frame pattern at t c h p e =
      sets_kept d.word _ (shape_moves frame pattern at) t.what (made_of w d frame pattern at t sound bounded c h) p e

  pub names_are_shapes : NamesAreShapes
  names_are_shapes w d frame pattern at t c h p o e =
      made_names d.word (general_set d.registers) (shape_moves frame pattern at) t.what (made_of w d frame pattern at t sound bounded c h) p o e

  pub flags_are_shapes : FlagsAreShapes
  flags_are_shapes w d frame pattern at t c h n e =
      made_flags d.word (general_set d.registers) (shape_moves frame pattern at) t.what (made_of w d frame pattern at t sound bounded c h) n e
