-- What the conditions of code ask of a transfer of a shape on temporaries.
use Rattle.std.proofs.Common.{◌≡◌, ◌⊎◌, inl, inr, ℕ, Bool, true, false, ◌||◌, List, [], ◌∷◌, Option, Some, None, refl, sym, ap, arith, ◌∙◌}
use Rattle.std.specs.Prelude.{◌≢◌, ◌==◌, AllPairs}
use Rattle.std.proofs.lemmas.List.Elements.{All-nil}
use Rattle.std.proofs.lemmas.Bool.Decides.{nat_tests}
use Rattle.rtl_tree.specs.declared.cells.Cell.{Cell}
use Rattle.rtl_tree.specs.declared.cells.Cell.TheVariants.{Hard, Temp, Flag, Pc, Input, Output, Halt}
use Rattle.rtl_tree.specs.declared.cells.Lab.{Lab}
use Rattle.rtl_tree.specs.Trees.{Tree}
use Rattle.rtl_tree.specs.declared.expressions.Width.{Width}
use Rattle.rtl_tree.specs.Moves.{ToCell, ToMemory, Move}
use Rattle.rtl_tree.specs.Same.{same_cell}
use Rattle.md_rows.specs.declared.description.RawDescription.{RawDescription}
use Rattle.md_rows.specs.Fits.{is_in}
use Rattle.md_rows.specs.Instances.{general_set}
use Rattle.md_shapes.specs.declared.patterns.Pattern.{Pattern}
use Rattle.md_shapes.specs.declared.patterns.Pattern.TheVariants as shape
use Rattle.md_shapes.specs.Shapes.{Frame, shape_moves, call_moves, return_moves, saved, restored, stack_plus, minus_word, word_bytes}
use Rattle.md_said.specs.Sound.{SaidIsSound}
use Rattle.md_said.specs.Limits.{SaidIsLimited}
use Rattle.md_bounds.specs.Bounds.{SaidIsBounded}
use Rattle.temp_machine.specs.Cells.{some_cell, some_read, some_set, mentions, is_hard_among, is_temporary}
use Rattle.temp_machine.specs.Units.{IsTarget}
use Rattle.temp_laws.specs.Doing.{ends_block}
use Rattle.temp_laws.specs.Keeping.{IsOfOperands}
use Rattle.temp_laws.specs.Targets.{target_of}
use Rattle.temp_laws.specs.Conditions.{on_temporaries, moves_stack, reads_flag, ConditionsAreKept}
use Rattle.temp_laws.proofs.Doing.{body_sets}
use Rattle.temp_laws.proofs.Room.{least_room}
use Rattle.temp_laws.proofs.Targets.{BitsAreSum, targets_sound}
use Rattle.temp_laws.proofs.Names.{sets_are_shapes, names_are_shapes, flags_are_shapes}

unlike : true ≡ false → ⊥
unlike e = cc

differs : (m n : ℕ) → m ≢ n → m == n ≡ false
differs m n h = by (m == n) refl
  where
    same : m == n ≡ true → m ≡ n
    same e = grind (arith, nat_tests, e)

    by : (b : Bool) → m == n ≡ b → b ≡ false
    by true e = absurd (h (same e))
    by false e = refl

module _ (m : Frame) (a b number symbol : ℕ) (label : Lab) where
  abbrev moves : Pattern → List Move
  moves q = shape_moves m q (on_temporaries a b number symbol label)

  -- ends of blocks set no temporary

  call_ends : (z : Option ℕ) → some_set is_temporary (call_moves m z label) ≡ false
  call_ends (Some z) = refl
  call_ends None = refl

  return_ends : (z : Option ℕ) → some_set is_temporary (return_moves m z) ≡ false
  return_ends (Some z) = refl
  return_ends None = refl

  shape_ends : (q : Pattern) → ends_block q ≡ true → some_set is_temporary (moves q) ≡ false
  shape_ends shape.Jump e = refl
  shape_ends (shape.Branch r) e = refl
  shape_ends (shape.BranchByFlag r j) e = refl
  shape_ends shape.Call e = call_ends m.link
  shape_ends shape.Return e = return_ends m.link
  shape_ends _ e = absurd (unlike (sym e))

  -- flags

  call_reads : (n : ℕ) (z : Option ℕ) → some_read (same_cell (Flag n)) (call_moves m z label) ≡ false
  call_reads n (Some z) = refl
  call_reads n None = refl

  return_reads : (n : ℕ) (z : Option ℕ) → some_read (same_cell (Flag n)) (return_moves m z) ≡ false
  return_reads n (Some z) = refl
  return_reads n None = refl

  save_reads : (n : ℕ) (z : Option ℕ) → some_read (same_cell (Flag n)) (saved z (stack_plus m number)) ≡ false
  save_reads n (Some z) = refl
  save_reads n None = refl

  restore_reads : (n : ℕ) (z : Option ℕ) → some_read (same_cell (Flag n)) (restored z (stack_plus m number)) ≡ false
  restore_reads n (Some z) = refl
  restore_reads n None = refl

  shape_flags : (n : ℕ) (q : Pattern) → reads_flag n q ≡ false → some_read (same_cell (Flag n)) (moves q) ≡ false
  shape_flags n (shape.BranchByFlag r j) e = ap (λ (x : Bool). (x || false) || false) e
  shape_flags n shape.Call e = call_reads n m.link
  shape_flags n shape.Return e = return_reads n m.link
  shape_flags n shape.SaveLink e = save_reads n m.link
  shape_flags n shape.RestoreLink e = restore_reads n m.link
  shape_flags n _ e = refl

  -- the stack

  save_stack : (z : Option ℕ) → some_set (same_cell (Hard m.stack)) (saved z (stack_plus m number)) ≡ false
  save_stack (Some z) = refl
  save_stack None = refl

  restore_stack : (z : Option ℕ) → ((k : ℕ) → z ≡ Some k → m.stack ≢ k) → some_set (same_cell (Hard m.stack)) (restored z (stack_plus m number)) ≡ false
  restore_stack (Some z) h = ap (λ (x : Bool). x || false) (differs m.stack z (h z refl))
  restore_stack None h = refl

  shape_stack : (q : Pattern) → m.stack ≢ m.result → ((k : ℕ) → m.link ≡ Some k → m.stack ≢ k) → moves_stack q ≡ false
      → some_set (same_cell (Hard m.stack)) (moves q) ≡ false
  shape_stack shape.MoveStack h k e = absurd (unlike e)
  shape_stack shape.SetStack h k e = absurd (unlike e)
  shape_stack shape.Call h k e = absurd (unlike e)
  shape_stack shape.Return h k e = absurd (unlike e)
  shape_stack shape.SaveLink h k e = save_stack m.link
  shape_stack shape.RestoreLink h k e = restore_stack m.link k
  shape_stack shape.TakeInput h k e = ap (λ (x : Bool). x || false) (differs m.stack m.result h)
  shape_stack shape.SetResult h k e = ap (λ (x : Bool). x || false) (differs m.stack m.result h)
  shape_stack _ h k e = refl

-- cells that no shape names but by its operands

both_false : (x y : Bool) → x ≡ false → y ≡ false → (x || y) ≡ false
both_false x y e f = ap (λ (z : Bool). z || y) e ∙ f

record IsGone (m : Frame) (a b : ℕ) (p : Cell → Bool) : Type 0 where
  first : p (Temp a) ≡ false
  second : p (Temp b) ≡ false
  stack : p (Hard m.stack) ≡ false
  result : p (Hard m.result) ≡ false
  link : (k : ℕ) → m.link ≡ Some k → p (Hard k) ≡ false
  flags : (n : ℕ) → p (Flag n) ≡ false
  counter : p Pc ≡ false
  input : p Input ≡ false
  output : p Output ≡ false
  halt : p Halt ≡ false

record Gone (p : Cell → Bool) (ms : List Move) : Type 0 where
  reads : some_read p ms ≡ false
  sets : some_set p ms ≡ false

module _ (p : Cell → Bool) where
  nil : Gone p []
  nil = record { reads = refl; sets = refl }

  sets_gone : (c : Cell) (t : Tree) (ms : List Move) → p c ≡ false → some_cell p t ≡ false → Gone p ms → Gone p (record { to = ToCell c; value = t } ∷ ms)
  sets_gone c t ms e f g = record {
    reads = both_false (some_cell p t) (some_read p ms) f g.reads;
    sets = both_false (p c) (some_set p ms) e g.sets;
  }

  stores_gone : (d : Width) (at t : Tree) (ms : List Move) → some_cell p at ≡ false → some_cell p t ≡ false → Gone p ms
      → Gone p (record { to = ToMemory d at; value = t } ∷ ms)
  stores_gone d at t ms e f g = record {
    reads = both_false (some_cell p at || some_cell p t) (some_read p ms) (both_false (some_cell p at) (some_cell p t) e f) g.reads;
    sets = g.sets;
  }

module _ (m : Frame) (a b number symbol : ℕ) (label : Lab) (p : Cell → Bool) (h : IsGone m a b p) where
  above : (n : ℕ) → some_cell p (stack_plus m n) ≡ false
  above n = both_false (p (Hard m.stack)) false h.stack refl

  two : (p (Temp a) || p (Temp b)) ≡ false
  two = both_false (p (Temp a)) (p (Temp b)) h.first h.second

  call_gone : (z : Option ℕ) → ((k : ℕ) → z ≡ Some k → p (Hard k) ≡ false) → Gone p (call_moves m z label)
  call_gone (Some z) l = sets_gone p _ _ _ (l z refl) h.counter (sets_gone p _ _ _ h.counter refl (nil p))
  call_gone None l =
      stores_gone p _ _ _ _ (above (minus_word m)) h.counter (sets_gone p _ _ _ h.stack (above (minus_word m)) (sets_gone p _ _ _ h.counter refl (nil p)))

  return_gone : (z : Option ℕ) → ((k : ℕ) → z ≡ Some k → p (Hard k) ≡ false) → Gone p (return_moves m z)
  return_gone (Some z) l = sets_gone p _ _ _ h.counter (l z refl) (nil p)
  return_gone None l = sets_gone p _ _ _ h.counter h.stack (sets_gone p _ _ _ h.stack (above (word_bytes m)) (nil p))

  save_gone : (z : Option ℕ) → ((k : ℕ) → z ≡ Some k → p (Hard k) ≡ false) → Gone p (saved z (stack_plus m number))
  save_gone (Some z) l = stores_gone p _ _ _ _ (above number) (l z refl) (nil p)
  save_gone None l = nil p

  restore_gone : (z : Option ℕ) → ((k : ℕ) → z ≡ Some k → p (Hard k) ≡ false) → Gone p (restored z (stack_plus m number))
  restore_gone (Some z) l = sets_gone p _ _ _ (l z refl) (above number) (nil p)
  restore_gone None l = nil p

  shape_gone : (q : Pattern) → Gone p (shape_moves m q (on_temporaries a b number symbol label))
  shape_gone shape.Copy = sets_gone p _ _ _ h.first h.second (nil p)
  shape_gone shape.SetNumber = sets_gone p _ _ _ h.first refl (nil p)
  shape_gone shape.SetSymbol = sets_gone p _ _ _ h.first refl (nil p)
  shape_gone shape.Load = sets_gone p _ _ _ h.first h.second (nil p)
  shape_gone shape.Store = stores_gone p _ _ _ _ h.first h.second (nil p)
  shape_gone shape.LoadByte = sets_gone p _ _ _ h.first h.second (nil p)
  shape_gone shape.StoreByte = stores_gone p _ _ _ _ h.first h.second (nil p)
  shape_gone shape.LoadHome = sets_gone p _ _ _ h.first (above number) (nil p)
  shape_gone shape.StoreHome = stores_gone p _ _ _ _ (above number) h.first (nil p)
  shape_gone shape.StoreTop = stores_gone p _ _ _ _ h.stack h.first (nil p)
  shape_gone shape.ReadStack = sets_gone p _ _ _ h.first h.stack (nil p)
  shape_gone shape.MoveStack = sets_gone p _ _ _ h.stack (above number) (nil p)
  shape_gone shape.SetStack = sets_gone p _ _ _ h.stack refl (nil p)
  shape_gone (shape.Operate o) = sets_gone p _ _ _ h.first two (nil p)
  shape_gone shape.Complement = sets_gone p _ _ _ h.first h.first (nil p)
  shape_gone shape.Clear = sets_gone p _ _ _ h.first two (nil p)
  shape_gone shape.Jump = sets_gone p _ _ _ h.counter refl (nil p)
  shape_gone (shape.Branch r) = sets_gone p _ _ _ h.counter (both_false (p (Temp a) || p (Temp b)) false two refl) (nil p)
  shape_gone (shape.Compare j) = sets_gone p _ _ _ (h.flags j) two (nil p)
  shape_gone (shape.BranchByFlag r j) = sets_gone p _ _ _ h.counter (both_false (p (Flag j)) false (h.flags j) refl) (nil p)
  shape_gone shape.Call = call_gone m.link h.link
  shape_gone shape.Return = return_gone m.link h.link
  shape_gone shape.SaveLink = save_gone m.link h.link
  shape_gone shape.RestoreLink = restore_gone m.link h.link
  shape_gone shape.TakeInput = sets_gone p _ _ _ h.result h.input (nil p)
  shape_gone shape.PutOutput = sets_gone p _ _ _ h.output h.result (nil p)
  shape_gone shape.Halt = sets_gone p _ _ _ h.halt h.result (nil p)
  shape_gone shape.ReadResult = sets_gone p _ _ _ h.first h.result (nil p)
  shape_gone shape.SetResult = sets_gone p _ _ _ h.result h.first (nil p)
  shape_gone shape.ExtendByte = sets_gone p _ _ _ h.first h.first (nil p)

  shape_names : (q : Pattern) → mentions p (shape_moves m q (on_temporaries a b number symbol label)) ≡ false
  shape_names q = let g = shape_gone q in both_false _ _ g.reads g.sets

-- all in all

none_apart : AllPairs {X = ℕ} (λ j k. j ≢ k) []
none_apart i j d l k = absurd (omega (arith, k))

one_of : (n a b : ℕ) → (n ≢ a → n ≢ b → ⊥) → (n ≡ a) ⊎ (n ≡ b)
one_of n a b h = by (n == a) (n == b) refl refl
  where
    same : (x y : ℕ) → x == y ≡ true → x ≡ y
    same x y e = grind (arith, nat_tests, e)

    other : (x y : ℕ) → x == y ≡ false → x ≢ y
    other x y e f = grind (arith, nat_tests, e, f)

    by : (x y : Bool) → n == a ≡ x → n == b ≡ y → (n ≡ a) ⊎ (n ≡ b)
    by true y e f = inl (same n a e)
    by false true e f = inr (same n b f)
    by false false e f = absurd (h (other n a e) (other n b f))

temporary_operands : (g n : ℕ) → IsOfOperands g (same_cell (Temp n))
temporary_operands g n = record {
  hard = λ k e. absurd (unlike (sym e));
  flags = λ k. refl;
  counter = refl;
  input = refl;
  output = refl;
  halt = refl;
}

general_operands : (g : ℕ) → IsOfOperands g (is_hard_among (λ k. is_in g k))
general_operands g = record { hard = λ k e. e; flags = λ k. refl; counter = refl; input = refl; output = refl; halt = refl }

general_gone : (d : RawDescription) (frame : Frame) (a b : ℕ) → IsTarget (target_of d frame [])
    → IsGone frame a b (is_hard_among (λ k. is_in (general_set d.registers) k))
general_gone d frame a b t = record {
  first = refl;
  second = refl;
  stack = t.stack;
  result = t.result;
  link = t.link;
  flags = λ k. refl;
  counter = refl;
  input = refl;
  output = refl;
  halt = refl;
}

temporary_gone : (m : Frame) (a b n : ℕ) → n ≢ a → n ≢ b → IsGone m a b (same_cell (Temp n))
temporary_gone m a b n e f = record {
  first = differs n a e;
  second = differs n b f;
  stack = refl;
  result = refl;
  link = λ k q. refl;
  flags = λ k. refl;
  counter = refl;
  input = refl;
  output = refl;
  halt = refl;
}

module _ (sound : SaidIsSound) (limited : SaidIsLimited) (bounded : SaidIsBounded) (sums : BitsAreSum) where
  pub conditions_kept : ConditionsAreKept
  conditions_kept w d frame q a b number symbol label t c is h =
      let at = on_temporaries a b number symbol label in
      let target = targets_sound sound limited bounded sums w d frame [] c is (All-nil (λ k. is_in (general_set d.registers) k ≡ true)) none_apart in
      let sets = sets_are_shapes sound bounded w d frame q at t c h in
      let names = names_are_shapes sound bounded w d frame q at t c h in
      let operands : (n : ℕ) → mentions (same_cell (Temp n)) t.what ≡ true → (n ≡ a) ⊎ (n ≡ b) = λ n e. one_of n a b (λ f g. unlike (sym e ∙ names (same_cell (Temp n)) (temporary_operands (general_set d.registers) n)
      (shape_names frame a b number symbol label (same_cell (Temp n)) (temporary_gone frame a b n f g) q))) in
      record {
        counter = λ e. sets (same_cell Pc) (λ n. refl) ∙ body_sets frame 0 at tt q e;
        ends = λ e. sets is_temporary (λ n. refl) ∙ shape_ends frame a b number symbol label q e;
        stack = λ e. sets (same_cell (Hard frame.stack)) (λ n. refl)
            ∙ shape_stack frame a b number symbol label q target.stack_is_no_result target.stack_is_no_link e;
        general = names (is_hard_among (λ k. is_in (general_set d.registers) k)) (general_operands (general_set d.registers))
            (shape_names frame a b number symbol label (is_hard_among (λ k. is_in (general_set d.registers) k)) (general_gone d frame a b target) q);
        temporaries = operands;
        flags = λ n e. flags_are_shapes sound bounded w d frame q at t c h n (shape_flags frame a b number symbol label n q e);
        room = least_room a b t.what operands;
      }
