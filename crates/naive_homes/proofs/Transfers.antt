-- What the transfers of naive code read and set, of what is live at most.
use Rattle.std.proofs.Common.{◌≡◌, ◌⊎◌, inl, inr, ℕ, ◌<◌, Bool, true, false, not, ◌||◌, ◌&&◌, ◌==◌, List, Option, Some, None, refl, sym, ap, ◌∙◌, subst}
use Rattle.std.specs.List.{list_any}
use Rattle.rtl_word.specs.declared.Rel.{Rel}
use Rattle.rtl_tree.specs.declared.cells.Cell.{Cell}
use Rattle.rtl_tree.specs.declared.cells.Cell.TheVariants.{Hard, Temp, Flag, Pc, Input, Output, Halt, Hole}
use Rattle.rtl_tree.specs.declared.cells.Lab.{Lab}
use Rattle.rtl_tree.specs.Moves.{Move}
use Rattle.rtl_tree.specs.Same.{same_cell}
use Rattle.rtl_tree.proofs.Equality.{same_cell-is, same_cell-own}
use Rattle.md_rows.specs.declared.description.RawDescription.{RawDescription}
use Rattle.md_rows.specs.Instances.{general_set}
use Rattle.md_shapes.specs.declared.patterns.Pattern.{Pattern}
use Rattle.md_shapes.specs.declared.patterns.Pattern.TheVariants as shape
use Rattle.md_shapes.specs.Shapes.{Frame, Open, shape_moves, call_moves}
use Rattle.md_check.specs.Checking.{IsChecked}
use Rattle.temp_machine.specs.Cells.{some_set, some_read, sets, reads, mentions, move_reads, reads_beside_flags, reads_for_flag, sets_by as goal_sets, is_flag}
use Rattle.temp_machine.specs.Flow.{label_of, label_by}
use Rattle.temp_code.specs.declared.code.Transfer.{Transfer}
use Rattle.temp_shapes.specs.Elementary.{IsTransferOf}
use Rattle.temp_laws.specs.Keeping.{IsOfOperands, SetsAreShapes, SetsAreKept, NamesAreShapes, FlagsAreShapes}
use Rattle.temp_laws.specs.Going.{JumpsGo, BranchesGo, FlagBranchesGo}
use Rattle.temp_laws.proofs.Places.{any_true, any_from}
use Rattle.naive_run.specs.Standing.{with_label, on_two_to}
use Rattle.naive_builder.specs.Appending.{with_function}
use Rattle.naive_live.specs.Live.{Has, Within, AreApart, Access, Neither, Reads, ReadsBoth, Sets, SetsBySecond, Changes, ChangesBySecond, Unused, access, Holds, Comes, Accesses}
use Rattle.naive_live.proofs.Lists.{within_same}
use Rattle.naive_homes.specs.Reading.{ReadsAreShapes}
use Rattle.naive_homes.proofs.Tables.{clash, alone, either, ReadBy, SetBy, Setting, Flagless, reads_by, sets_by, set_there, no_flags}

-- the laws of transfers of shapes
pub record AreLaws : Type 0 where
  pub reads : ReadsAreShapes
  pub sets : SetsAreShapes
  pub kept : SetsAreKept
  pub names : NamesAreShapes
  pub flags : FlagsAreShapes
  pub jumps : JumpsGo
  pub branches : BranchesGo
  pub flag_branches : FlagBranchesGo

-- what isn't so of the shape isn't so of the transfer
back : (a b : Bool) → (a ≡ false → b ≡ false) → b ≡ true → a ≡ true
back true b h e = refl
back false b h e = absurd (clash (sym (h refl) ∙ e))

any_more : (f g : Move → Bool) (ms : List Move) → ((m : Move) → f m ≡ true → g m ≡ true) → list_any f ms ≡ true → list_any g ms ≡ true
any_more f g ms h e = let k = any_from f ms e in any_true g ms k.move k.among (h k.move k.passes)

right_of : (a b : Bool) → (a && b) ≡ true → b ≡ true
right_of true b e = e
right_of false b e = absurd (clash e)

-- what is read beside flags, or for a flag, is read
pub beside_reads : (c : Cell) (ms : List Move) → reads_beside_flags c ms ≡ true → reads c ms ≡ true
beside_reads c ms e = any_more (λ m. not (goal_sets is_flag m.to) && move_reads c m) (move_reads c) ms (λ m h. right_of (not (goal_sets is_flag m.to)) (move_reads c m) h) e

pub for_reads : (n : ℕ) (c : Cell) (ms : List Move) → reads_for_flag n c ms ≡ true → reads c ms ≡ true
for_reads n c ms e =
    any_more (λ m. goal_sets (same_cell (Flag n)) m.to && move_reads c m) (move_reads c) ms (λ m h. right_of (goal_sets (same_cell (Flag n)) m.to) (move_reads c m) h) e

own_operand : (g i : ℕ) → IsOfOperands g (same_cell (Temp i))
own_operand g i = record { hard = λ k e. absurd (clash e); flags = λ n. refl; counter = refl; input = refl; output = refl; halt = refl }

-- a transfer that names no temporary
pub record IsQuiet (ms : List Move) : Type 0 where
  pub unread : (i : ℕ) → reads_beside_flags (Temp i) ms ≡ false
  pub unset : (i : ℕ) → sets (Temp i) ms ≡ false
  pub no_flag : (n : ℕ) → reads (Flag n) ms ≡ false

module _ (depth : ℕ → Option ℕ) (scalars : ℕ) (env : ℕ → List ℕ) where
  abbrev pub IsHeld : List ℕ → ℕ → Type 0
  IsHeld live i = (i < scalars) ⊎ Has live i

  -- a transfer in the body of a block; of what is set and what is live behind it no two have one depth
  pub record TransferLives (live behind : List ℕ) (ms : List Move) : Type 0 where
    pub read : (i : ℕ) → reads_beside_flags (Temp i) ms ≡ true → IsHeld live i
    pub all : List ℕ
    pub apart : AreApart depth all
    pub set : (i : ℕ) → sets (Temp i) ms ≡ true → IsHeld all i
    pub within : Within behind all
    pub others : (i : ℕ) → Has behind i → (sets (Temp i) ms ≡ true) ⊎ Has live i
    pub no_flag : (n : ℕ) → reads (Flag n) ms ≡ false

  -- a branch on two operands, or by a flag
  pub record BranchLives (bits : ℕ) (flag : Option ℕ) (live : List ℕ) (l : ℕ) (ms : List Move) : Type 0 where
    pub read : (i : ℕ) → reads_beside_flags (Temp i) ms ≡ true → IsHeld live i
    pub unset : (i : ℕ) → sets (Temp i) ms ≡ false
    pub flag_read : (n : ℕ) → reads (Flag n) ms ≡ true → flag ≡ Some n
    pub goes : label_of bits ms ≡ Some l

  -- a comparison reads its operands for its flag alone
  pub record CompareLives (j : ℕ) (live : List ℕ) (ms : List Move) : Type 0 where
    pub unread : (i : ℕ) → reads_beside_flags (Temp i) ms ≡ false
    pub for_flags : (n i : ℕ) → reads_for_flag n (Temp i) ms ≡ true → IsHeld live i
    pub unset : (i : ℕ) → sets (Temp i) ms ≡ false
    pub no_flag : (n : ℕ) → reads (Flag n) ms ≡ false
    pub set_flag : sets (Flag j) ms ≡ true

  -- ---- by an access

  held_is : (live : List ℕ) (i : ℕ) (c : Cell) → same_cell (Temp i) c ≡ true → Holds depth scalars env live c → IsHeld live i
  held_is live i c e h = subst (Holds depth scalars env live) (sym (same_cell-is (Temp i) c e)) h

  no_flag : (live : List ℕ) (n : ℕ) (c : Cell) → Holds depth scalars env live c → same_cell (Flag n) c ≡ false
  no_flag live n (Temp i) h = refl
  no_flag live n (Hard k) h = refl
  no_flag live n (Flag k) h = absurd h
  no_flag live n Pc h = refl
  no_flag live n Input h = refl
  no_flag live n Output h = refl
  no_flag live n Halt h = refl
  no_flag live n (Hole k) h = refl

  comes_is : (live behind : List ℕ) (i : ℕ) (c : Cell) → same_cell (Temp i) c ≡ true → Comes depth scalars env live c behind → Comes depth scalars env live (Temp i) behind
  comes_is live behind i c e h = subst (λ (x : Cell). Comes depth scalars env live x behind) (sym (same_cell-is (Temp i) c e)) h

  came : (live behind : List ℕ) (i : ℕ) → Comes depth scalars env live (Temp i) behind → IsHeld behind i
  came live behind i (inl k) = inl k.0
  came live behind i (inr k) = inr k.has

  -- what has come to be live
  came_from : (live behind : List ℕ) (c : Cell) → Comes depth scalars env live c behind → (i : ℕ) → Has behind i → (same_cell (Temp i) c ≡ true) ⊎ Has live i
  came_from live behind (Temp k) (inl h) i m = inr (h.1 i m)
  came_from live behind (Temp k) (inr h) i m = by (h.others i m)
    where
      by : (i ≡ k) ⊎ Has live i → (same_cell (Temp i) (Temp k) ≡ true) ⊎ Has live i
      by (inl e) = inl (ap (λ (j : ℕ). same_cell (Temp i) (Temp j)) (sym e) ∙ same_cell-own (Temp i))
      by (inr n) = inr n
  came_from live behind (Hard n) h i m = absurd h
  came_from live behind (Flag n) h i m = absurd h
  came_from live behind Pc h i m = absurd h
  came_from live behind Input h i m = absurd h
  came_from live behind Output h i m = absurd h
  came_from live behind Halt h i m = absurd h
  came_from live behind (Hole n) h i m = absurd h

  module _ (at : Open) (live behind : List ℕ) (m : Frame) where
    abbrev Does : Access → Type 0
    Does how = Accesses depth scalars env how live at.a at.b behind

    either_held : (i : ℕ) → (same_cell (Temp i) at.a ≡ true) ⊎ (same_cell (Temp i) at.b ≡ true) → Holds depth scalars env live at.a → Holds depth scalars env live at.b → IsHeld live i
    either_held i (inl e) h k = held_is live i at.a e h
    either_held i (inr e) h k = held_is live i at.b e k

    read_held : (how : Access) (i : ℕ) → Does how → ReadBy m at i how → IsHeld live i
    read_held Neither i h r = absurd r
    read_held Reads i h r = held_is live i at.a r h.1
    read_held ReadsBoth i h r = either_held i r h.0 h.1
    read_held Sets i h r = absurd r
    read_held SetsBySecond i h r = held_is live i at.b r h.0
    read_held Changes i h r = held_is live i at.a r h.1
    read_held ChangesBySecond i h r = either_held i r h.0 h.1
    read_held Unused i h r = absurd h

    flagless : (how : Access) (n : ℕ) → Does how → Flagless m at n how
    flagless Neither n h = tt
    flagless Reads n h = no_flag live n at.a h.1
    flagless ReadsBoth n h = (no_flag live n at.a h.0, no_flag live n at.b h.1)
    flagless Sets n h = tt
    flagless SetsBySecond n h = no_flag live n at.b h.0
    flagless Changes n h = no_flag live n at.a h.1
    flagless ChangesBySecond n h = (no_flag live n at.a h.0, no_flag live n at.b h.1)
    flagless Unused n h = absurd h

    -- all that is live or set
    abbrev whole : Access → List ℕ
    whole Sets = behind
    whole SetsBySecond = behind
    whole _ = live

    set_held : (how : Access) (i : ℕ) → Does how → SetBy m at i how → IsHeld (whole how) i
    set_held Neither i h r = absurd r
    set_held Reads i h r = absurd r
    set_held ReadsBoth i h r = absurd r
    set_held Sets i h r = came live behind i (comes_is live behind i at.a r h.1)
    set_held SetsBySecond i h r = came live behind i (comes_is live behind i at.a r h.1)
    set_held Changes i h r = held_is live i at.a r h.1
    set_held ChangesBySecond i h r = held_is live i at.a r h.0
    set_held Unused i h r = absurd h

    whole_within : (how : Access) → Does how → Within behind (whole how)
    whole_within Neither h = h.2
    whole_within Reads h = h.2
    whole_within ReadsBoth h = h.2
    whole_within Sets h = within_same behind
    whole_within SetsBySecond h = within_same behind
    whole_within Changes h = h.2
    whole_within ChangesBySecond h = h.2
    whole_within Unused h = absurd h

    whole_apart : (how : Access) → AreApart depth live → AreApart depth behind → AreApart depth (whole how)
    whole_apart Neither a b = a
    whole_apart Reads a b = a
    whole_apart ReadsBoth a b = a
    whole_apart Sets a b = b
    whole_apart SetsBySecond a b = b
    whole_apart Changes a b = a
    whole_apart ChangesBySecond a b = a
    whole_apart Unused a b = a

    new : (how : Access) → Does how → (i : ℕ) → Has behind i → (Setting m at i how × (same_cell (Temp i) at.a ≡ true)) ⊎ Has live i
    new Neither h i k = inr (h.2 i k)
    new Reads h i k = inr (h.2 i k)
    new ReadsBoth h i k = inr (h.2 i k)
    new Sets h i k = by (came_from live behind at.a h.1 i k)
      where
        by : (same_cell (Temp i) at.a ≡ true) ⊎ Has live i → (Unit {0} × (same_cell (Temp i) at.a ≡ true)) ⊎ Has live i
        by (inl e) = inl (tt, e)
        by (inr n) = inr n
    new SetsBySecond h i k = by (came_from live behind at.a h.1 i k)
      where
        by : (same_cell (Temp i) at.a ≡ true) ⊎ Has live i → (Unit {0} × (same_cell (Temp i) at.a ≡ true)) ⊎ Has live i
        by (inl e) = inl (tt, e)
        by (inr n) = inr n
    new Changes h i k = inr (h.2 i k)
    new ChangesBySecond h i k = inr (h.2 i k)
    new Unused h i k = absurd h

  -- ---- transfers of shapes

  module _ (laws : AreLaws) (w : ℕ) (d : RawDescription) (m : Frame) (checked : IsChecked w d) where
    pub made_lives : (p : Pattern) (at : Open) (t : Transfer) (live behind : List ℕ) → IsTransferOf d m p at t → AreApart depth live → AreApart depth behind
        → Accesses depth scalars env (access p) live at.a at.b behind → TransferLives live behind t.what
    made_lives p at t live behind is before after does = record {
      read = λ i e.
          read_held at live behind m (access p) i does
          (reads_by m at i p (back (reads_beside_flags (Temp i) (shape_moves m p at)) (reads_beside_flags (Temp i) t.what) (laws.reads w d m p at t checked is i) e));
      all = whole at live behind m (access p);
      apart = whole_apart at live behind m (access p) before after;
      set = λ i e.
          set_held at live behind m (access p) i does (sets_by m at i p (sym (laws.sets w d m p at t checked is (same_cell (Temp i)) (λ n. refl)) ∙ e));
      within = whole_within at live behind m (access p) does;
      others = λ i k.
          elim (new at live behind m (access p) does i k) [
            | inl h ↦ inl (laws.kept w d m p at t checked is (same_cell (Temp i)) (set_there m at i p h.0 h.1))
            | inr h ↦ inr h
          ];
      no_flag = λ n. laws.flags w d m p at t checked is n (no_flags m at n p (flagless at live behind m (access p) n does));
    }

    quiet_by : (p : Pattern) (at : Open) (t : Transfer) → IsTransferOf d m p at t → ((i : ℕ) → reads_beside_flags (Temp i) (shape_moves m p at) ≡ false)
        → ((i : ℕ) → some_set (same_cell (Temp i)) (shape_moves m p at) ≡ false) → ((n : ℕ) → reads (Flag n) (shape_moves m p at) ≡ false) → IsQuiet t.what
    quiet_by p at t is h k l = record {
      unread = λ i. laws.reads w d m p at t checked is i (h i);
      unset = λ i. laws.sets w d m p at t checked is (same_cell (Temp i)) (λ n. refl) ∙ k i;
      no_flag = λ n. laws.flags w d m p at t checked is n (l n);
    }

    pub jump_quiet : (l : ℕ) (t : Transfer) → IsTransferOf d m shape.Jump (with_label l) t → IsQuiet t.what
    jump_quiet l t is = quiet_by shape.Jump (with_label l) t is (λ i. refl) (λ i. refl) (λ n. refl)

    call_reads : (i : ℕ) (z : Option ℕ) (l : Lab) → reads_beside_flags (Temp i) (call_moves m z l) ≡ false
    call_reads i (Some z) l = refl
    call_reads i None l = refl

    call_sets : (i : ℕ) (z : Option ℕ) (l : Lab) → some_set (same_cell (Temp i)) (call_moves m z l) ≡ false
    call_sets i (Some z) l = refl
    call_sets i None l = refl

    call_flags : (n : ℕ) (z : Option ℕ) (l : Lab) → reads (Flag n) (call_moves m z l) ≡ false
    call_flags n (Some z) l = refl
    call_flags n None l = refl

    pub call_quiet : (f : ℕ) (t : Transfer) → IsTransferOf d m shape.Call (with_function f) t → IsQuiet t.what
    call_quiet f t is =
        quiet_by shape.Call (with_function f) t is (λ i. call_reads i m.link (with_function f).label) (λ i. call_sets i m.link (with_function f).label)
        (λ n. call_flags n m.link (with_function f).label)

    pub jump_goes : (l : ℕ) (t : Transfer) → IsTransferOf d m shape.Jump (with_label l) t → label_of d.word t.what ≡ Some l
    jump_goes l t is = ap label_by (laws.jumps w d m (with_label l) t checked is)

    number_is : (i a : ℕ) → i == a ≡ true → a ≡ i
    number_is i a e = temporary (same_cell-is (Temp i) (Temp a) e)
      where
        temporary : (let c : Cell = Temp i in c ≡ Temp a) → a ≡ i
        temporary q = cc

    held_by : (live : List ℕ) (i a : ℕ) → i == a ≡ true → IsHeld live a → IsHeld live i
    held_by live i a e h = subst (IsHeld live) (number_is i a e) h

    two_held : (live : List ℕ) (i a b : ℕ) → ((i == a) || (i == b)) ≡ true → IsHeld live a → IsHeld live b → IsHeld live i
    two_held live i a b e h k =
        elim (either (i == a) (i == b) e) [
          | inl q ↦ held_by live i a q h
          | inr q ↦ held_by live i b q k
        ]

    pub branch_lives : (r : Rel) (a b l : ℕ) (t : Transfer) (live : List ℕ) → IsTransferOf d m (shape.Branch r) (on_two_to a b l) t → IsHeld live a → IsHeld live b
        → BranchLives d.word None live l t.what
    branch_lives r a b l t live is h k =
        let at = on_two_to a b l in let es = shape_moves m (shape.Branch r) at in
        record {
          read = λ i e.
              (let q = back (reads_beside_flags (Temp i) es) (reads_beside_flags (Temp i) t.what) (laws.reads w d m (shape.Branch r) at t checked is i) e in
              two_held live i a b (alone ((i == a) || (i == b)) (alone (((i == a) || (i == b)) || false) q)) h k);
          unset = λ i. laws.sets w d m (shape.Branch r) at t checked is (same_cell (Temp i)) (λ n. refl);
          flag_read = λ n e. absurd (clash (sym (laws.flags w d m (shape.Branch r) at t checked is n refl) ∙ e));
          goes = laws.branches w d m r at t l checked is refl;
        }

    pub flag_branch_lives : (r : Rel) (a b l j : ℕ) (t : Transfer) (live : List ℕ) → IsTransferOf d m (shape.BranchByFlag r j) (on_two_to a b l) t
        → BranchLives d.word (Some j) live l t.what
    flag_branch_lives r a b l j t live is =
        let at = on_two_to a b l in let p = shape.BranchByFlag r j in let es = shape_moves m p at in
        record {
          read = λ i e. absurd (clash (sym (laws.reads w d m p at t checked is i refl) ∙ e));
          unset = λ i. laws.sets w d m p at t checked is (same_cell (Temp i)) (λ n. refl);
          flag_read = λ n e.
              (let q = back (reads (Flag n) es) (reads (Flag n) t.what) (laws.flags w d m p at t checked is n) e in
              flag_is n j (same_cell-is (Flag n) (Flag j) (alone (n == j) (alone ((n == j) || false) q))));
          goes = laws.flag_branches w d m r j at t l checked is refl;
        }
      where
        flag_is : (n j : ℕ) → (let c : Cell = Flag n in c ≡ Flag j) → Some j ≡ Some n
        flag_is n j e = cc

    mentioned : (i a b : ℕ) → ((((i == a) || (i == b)) || false) || (false || false)) ≡ true → ((i == a) || (i == b)) ≡ true
    mentioned i a b e = elim (either (((i == a) || (i == b)) || false) false e) [
      | inl q ↦ alone ((i == a) || (i == b)) q
      | inr q ↦ absurd (clash q)
    ]

    pub compare_lives : (a b l j : ℕ) (t : Transfer) (live : List ℕ) → IsTransferOf d m (shape.Compare j) (on_two_to a b l) t → IsHeld live a → IsHeld live b
        → CompareLives j live t.what
    compare_lives a b l j t live is h k =
        let at = on_two_to a b l in let p = shape.Compare j in let es = shape_moves m p at in
        record {
          unread = λ i. laws.reads w d m p at t checked is i refl;
          for_flags = λ n i e.
              (let c : Cell = Temp i in
              let named = names_by (same_cell c) t.what (for_reads n c t.what e) in
              let q = back (mentions (same_cell c) es) (mentions (same_cell c) t.what) (laws.names w d m p at t checked is (same_cell c) (own_operand (general_set d.registers) i)) named in
              two_held live i a b (mentioned i a b q) h k);
          unset = λ i. laws.sets w d m p at t checked is (same_cell (Temp i)) (λ n. refl);
          no_flag = λ n. laws.flags w d m p at t checked is n refl;
          set_flag = laws.kept w d m p at t checked is (same_cell (Flag j)) (ap (λ (b : Bool). b || false) (same_cell-own (Flag j)));
        }
      where
        names_by : (q : Cell → Bool) (ms : List Move) → some_read q ms ≡ true → mentions q ms ≡ true
        names_by q ms e = ap (λ (b : Bool). b || some_set q ms) e
