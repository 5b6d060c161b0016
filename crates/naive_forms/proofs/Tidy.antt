-- Naive code is straight and tidy: a flag is read by a branch alone, right behind the comparison that sets it.
use Rattle.std.proofs.Common.{◌≡◌, ◌⊎◌, inl, inr, ℕ, suc, ◌+◌, ◌<◌, List, [], ◌∷◌, ◌++◌, Option, Some, refl, sym, ap, subst, ◌∙◌, arith, true, false}
use Rattle.std.specs.Prelude.{Bool, not, ◌==◌, ◌&&◌, length}
use Rattle.std.specs.List.{AllByRecursion, list_any}
use Rattle.std.proofs.lemmas.List.{length-append}
use Rattle.std.proofs.lemmas.Option.{same_Some}
use Rattle.rtl_tree.specs.declared.cells.Cell.{Cell}
use Rattle.rtl_tree.specs.declared.cells.Cell.TheVariants.{Temp, Flag}
use Rattle.rtl_tree.specs.Moves.{Move}
use Rattle.rtl_tree.specs.Same.{same_cell}
use Rattle.md_rows.specs.declared.description.RawDescription.{RawDescription}
use Rattle.md_shapes.specs.Shapes.{Frame as Fixed}
use Rattle.temp_machine.specs.Routines.{Exit, Falls, Jumps, Branches, Calls, Returns, BasicBlock, Routine, Target, exit_transfers, block_transfers}
use Rattle.temp_machine.specs.Cells.{reads, sets, mentions, uses, sets_by, is_flag, move_reads, reads_beside_flags, reads_for_flag}
use Rattle.temp_machine.specs.Live.{Place, Item, Transfer, End, item_of, item_in, item_at, item_reads, item_reads_for, item_sets, IsNext, inside, across, IsRead, here, for_flag, later, IsLive, always, read, IsLiveAfter}
use Rattle.temp_machine.specs.Tidy.{transfer_in, HasTransfer, IsTidy, sets_temporary, reads_temporary}
use Rattle.temp_machine.specs.Whole.{IsStraight}
use Rattle.temp_laws.specs.Targets.{target_of}
use Rattle.c_tree.specs.declared.typed.Typed.{Typed}
use Rattle.naive_forms.proofs.Tests.{unlike, clash, and_right, same_number, any_weaker, any_has, none_any, each_weaker, each_append}
use Rattle.naive_forms.proofs.Transfers.{is_general, IsKept, IsBody, IsByFlag, Ends, IsFormed}
use Rattle.naive_forms.proofs.Places.{last_in, body_at, IsEndAt, end_at}

-- what is read beside flags, or for one, is read
beside_read : (c : Cell) (ms : List Move) → reads_beside_flags c ms ≡ true → reads c ms ≡ true
beside_read c ms e = any_weaker (λ m. not (sets_by is_flag m.to) && move_reads c m) (move_reads c) (λ m h. and_right (not (sets_by is_flag m.to)) (move_reads c m) h) ms e

for_read : (k : ℕ) (c : Cell) (ms : List Move) → reads_for_flag k c ms ≡ true → reads c ms ≡ true
for_read k c ms e =
    any_weaker (λ m. sets_by (same_cell (Flag k)) m.to && move_reads c m) (move_reads c) (λ m h. and_right (sets_by (same_cell (Flag k)) m.to) (move_reads c m) h) ms e

-- the transfer of a place, or none
abbrev item_moves : Item → List Move
item_moves (Transfer ms) = ms
item_moves (End (Jumps ms)) = ms
item_moves (End (Branches ms)) = ms
item_moves (End (Calls ms)) = ms
item_moves (End Falls) = []
item_moves (End Returns) = []

item_read : (t : Target) (j : ℕ) (x : Item) → item_reads t (Flag j) x ≡ true → reads (Flag j) (item_moves x) ≡ true
item_read t j (Transfer ms) e = beside_read (Flag j) ms e
item_read t j (End (Jumps ms)) e = beside_read (Flag j) ms e
item_read t j (End (Branches ms)) e = beside_read (Flag j) ms e
item_read t j (End (Calls ms)) e = beside_read (Flag j) ms e
item_read t j (End Falls) e = e
item_read t j (End Returns) e = e

item_read_for : (k j : ℕ) (x : Item) → item_reads_for k (Flag j) x ≡ true → reads (Flag j) (item_moves x) ≡ true
item_read_for k j (Transfer ms) e = for_read k (Flag j) ms e
item_read_for k j (End (Jumps ms)) e = for_read k (Flag j) ms e
item_read_for k j (End (Branches ms)) e = for_read k (Flag j) ms e
item_read_for k j (End (Calls ms)) e = absurd (unlike (sym e))
item_read_for k j (End Falls) e = e
item_read_for k j (End Returns) e = e

module _ (d : RawDescription) (m : Fixed) (source : Typed) (labels : ℕ → Type 0) (most n : ℕ) where
  exit_kept : (b : List (List Move)) (x : Exit) → Ends d m source labels most n b x → AllByRecursion (IsKept d m source labels most n) (exit_transfers x)
  exit_kept b Falls h = tt
  exit_kept b (Jumps ms) h = (h.kept, tt)
  exit_kept b (Branches ms) h = (h.kept, tt)
  exit_kept b (Calls ms) h = (h.kept, tt)
  exit_kept b Returns h = tt

  pub block_kept : (b : BasicBlock) → IsFormed d m source labels most n b → AllByRecursion (IsKept d m source labels most n) (block_transfers b)
  block_kept b h =
      each_append (IsKept d m source labels most n) b.body (exit_transfers b.exit)
      (each_weaker (IsBody d m source labels most n) (IsKept d m source labels most n) (λ ms x. x.kept) b.body h.body) (exit_kept b.body b.exit h.ends)

module _ (d : RawDescription) (m : Fixed) (kept : List ℕ) (source : Typed) (labels : ℕ → Type 0) (most n : ℕ) (r : Routine)
    (formed : AllByRecursion (IsFormed d m source labels most n) r.blocks) where
  abbrev t : Target
  t = target_of d m kept

  body : (p : Place) (ms : List Move) → item_at r p ≡ Some (Transfer ms) → IsBody d m source labels most n ms
  body = body_at d m source labels most n r formed

  abbrev EndAt : Place → Exit → Type 0
  EndAt = IsEndAt d m source labels most n r formed

  end : (p : Place) (x : Exit) → item_at r p ≡ Some (End x) → EndAt p x
  end = end_at d m source labels most n r formed

  -- ---- which cells are named

  no_general : uses (is_general d m source labels most n) r ≡ false
  no_general =
      none_any (λ b. list_any (mentions (is_general d m source labels most n)) (block_transfers b)) r.blocks
      (each_weaker (IsFormed d m source labels most n) (λ b. list_any (mentions (is_general d m source labels most n)) (block_transfers b) ≡ false)
      (λ b h. none_any (mentions (is_general d m source labels most n)) (block_transfers b)
      (each_weaker (IsKept d m source labels most n) (λ ms. mentions (is_general d m source labels most n) ms ≡ false) (λ ms x. x.general) (block_transfers b) (block_kept d m source labels most n b h)))
      r.blocks formed)

  -- each temporary of the code is below the number
  pub names_below : (i : ℕ) → uses (same_cell (Temp i)) r ≡ true → i < n
  names_below i e =
      any_has (λ b. list_any (mentions (same_cell (Temp i))) (block_transfers b)) (i < n) r.blocks
      (each_weaker (IsFormed d m source labels most n) (λ b. list_any (mentions (same_cell (Temp i))) (block_transfers b) ≡ true → i < n)
      (λ b h. any_has (mentions (same_cell (Temp i))) (i < n) (block_transfers b)
      (each_weaker (IsKept d m source labels most n) (λ ms. mentions (same_cell (Temp i)) ms ≡ true → i < n) (λ ms x. x.names i) (block_transfers b) (block_kept d m source labels most n b h)))
      r.blocks formed) e

  -- ---- where flags are read

  -- at a branch by the flag, right behind its comparison
  record AtBranch (j : ℕ) (p : Place) : Type 0 where
    before : ℕ
    at : p.at ≡ suc before
    compare : List Move
    stands : item_at r (record { block = p.block; at = before }) ≡ Some (Transfer compare)
    sets_flag : sets (Flag j) compare ≡ true
    sets_none : sets_temporary compare ≡ false
    jump : List Move
    branch : item_at r p ≡ Some (End (Branches jump))
    reads_none : reads_temporary jump ≡ false

  branch_at : (j : ℕ) (p : Place) (ms : List Move) → item_at r p ≡ Some (End (Branches ms)) → reads (Flag j) ms ≡ true → (e : EndAt p (Branches ms))
      → ((k : ℕ) → reads (Flag k) ms ≡ false) ⊎ IsByFlag d m source labels most n e.block.body ms → AtBranch j p
  branch_at j p ms is reads_it e (inl none) = absurd (clash (reads (Flag j) ms) reads_it (none j))
  branch_at j p ms is reads_it e (inr h) = by (j == h.flag) refl
    where
      by : (b : Bool) → (j == h.flag) ≡ b → AtBranch j p
      by false f = absurd (clash (reads (Flag j) ms) reads_it (h.others j f))
      by true f =
          let flag : j ≡ h.flag = same_number j h.flag f in
          let long : length e.block.body ≡ length (h.front ++ h.compare ∷ []) = ap (λ (xs : List (List Move)). length xs) h.body_is in
          let sum : length (h.front ++ h.compare ∷ []) ≡ length h.front + 1 = length-append h.front (h.compare ∷ []) in
          let behind : p.at ≡ length e.block.body = e.behind in
          record {
            before = length h.front;
            at = omega (arith, long, sum, behind);
            compare = h.compare;
            stands = ap (λ (o : Option BasicBlock). item_of o (length h.front)) e.has
                ∙ (ap (λ (xs : List (List Move)). item_in xs e.block.exit (length h.front)) h.body_is ∙ last_in h.front h.compare e.block.exit);
            sets_flag = subst (λ (k : ℕ). sets (Flag k) h.compare ≡ true) (sym flag) h.sets_flag;
            sets_none = h.sets_none;
            jump = ms;
            branch = is;
            reads_none = h.reads_none;
          }

  at_flag : (j : ℕ) (p : Place) (x : Item) → item_at r p ≡ Some x → reads (Flag j) (item_moves x) ≡ true → AtBranch j p
  at_flag j p (Transfer ms) is e = absurd (clash (reads (Flag j) ms) e ((body p ms is).flags j))
  at_flag j p (End Falls) is e = absurd (unlike (sym e))
  at_flag j p (End (Jumps ms)) is e = absurd (clash (reads (Flag j) ms) e ((end p (Jumps ms) is).ends.flags j))
  at_flag j p (End (Branches ms)) is e = let x = end p (Branches ms) is in branch_at j p ms is e x x.ends.flags
  at_flag j p (End (Calls ms)) is e = absurd (clash (reads (Flag j) ms) e ((end p (Calls ms) is).ends.flags j))
  at_flag j p (End Returns) is e = absurd (unlike (sym e))

  -- before it stands the comparison alone
  before_it : (j : ℕ) (p next : Place) → IsNext t.word r p next → (h : AtBranch j next) → item_at r p ≡ Some (Transfer h.compare)
  before_it j _ _ (inside block at ms item) h =
      let e : suc at ≡ suc h.before = h.at in
      let same : h.before ≡ at = omega (arith, e) in
      subst (λ (k : ℕ). item_at r (record { block = block; at = k }) ≡ Some (Transfer h.compare)) same h.stands
  before_it j _ _ (across block at next e item has) h =
      let z : 0 ≡ suc h.before = h.at in absurd (omega (arith, z))

  not_kept : (j : ℕ) (p next : Place) (x : Item) → item_at r p ≡ Some x → item_sets t (Flag j) x ≡ false → IsNext t.word r p next → AtBranch j next → ⊥
  not_kept j p next x is unset goes h =
      let same : x ≡ Transfer h.compare = same_Some x (Transfer h.compare) (sym is ∙ before_it j p next goes h) in
      clash (sets (Flag j) h.compare) h.sets_flag (subst (λ (y : Item). item_sets t (Flag j) y ≡ false) same unset)

  read_at : (c : Cell) (j : ℕ) (p : Place) → c ≡ Flag j → IsRead t r c p → AtBranch j p
  read_at _ j _ e (here c p x is h) = at_flag j p x is (item_read t j x (subst (λ (q : Cell). item_reads t q x ≡ true) e h))
  read_at _ j _ e (for_flag c k p next x is h goes more) = at_flag j p x is (item_read_for k j x (subst (λ (q : Cell). item_reads_for k q x ≡ true) e h))
  read_at _ j _ e (later c p next x is unset goes more) =
      absurd (not_kept j p next x is (subst (λ (q : Cell). item_sets t q x ≡ false) e unset) goes (read_at c j next e more))

  live_at : (j : ℕ) (p : Place) → IsLive t r (Flag j) p → AtBranch j p
  live_at j p (always e) = absurd (unlike (sym e))
  live_at j p (read h) = read_at (Flag j) j p refl h

  same_moves : (x : Item) (a b : List Move) → x ≡ Transfer a → transfer_in x ≡ Some b → a ≡ b
  same_moves x a b e f = same_Some a b (sym (ap (λ (y : Item). transfer_in y) e) ∙ f)

  same_jump : (x : Item) (a b : List Move) → x ≡ End (Branches a) → transfer_in x ≡ Some b → a ≡ b
  same_jump x a b e f = same_Some a b (sym (ap (λ (y : Item). transfer_in y) e) ∙ f)

  after : (p : Place) (ms : List Move) (j : ℕ) → HasTransfer r p ms → sets_temporary ms ≡ true → IsLiveAfter t r (Flag j) p → ⊥
  after p ms j has e live =
      let h = live_at j live.next live.live in
      let item : has.item ≡ Transfer h.compare = same_Some has.item (Transfer h.compare) (sym has.at ∙ before_it j p live.next live.goes h) in
      let same : h.compare ≡ ms = same_moves has.item h.compare ms item has.is in
      clash (sets_temporary ms) e (subst (λ (xs : List Move). sets_temporary xs ≡ false) same h.sets_none)

  before : (p : Place) (ms : List Move) (j : ℕ) → HasTransfer r p ms → reads_temporary ms ≡ true → IsLive t r (Flag j) p → ⊥
  before p ms j has e live =
      let h = live_at j p live in
      let item : has.item ≡ End (Branches h.jump) = same_Some has.item (End (Branches h.jump)) (sym has.at ∙ h.branch) in
      let same : h.jump ≡ ms = same_jump has.item h.jump ms item has.is in
      clash (reads_temporary ms) e (subst (λ (xs : List Move). reads_temporary xs ≡ false) same h.reads_none)

  pub is_tidy : IsTidy t r
  is_tidy = record {
    after_set = λ p ms j. after p ms j;
    before_read = λ p ms j. before p ms j;
    jumps = λ p ms e. (end p (Jumps ms) e).ends.ends;
    branches = λ p ms e. (end p (Branches ms) e).ends.ends;
    registers = λ e. no_general;
  }

  pub is_straight : IsStraight t r
  is_straight = record {
    stack_in_bodies = λ p ms e. (body p ms e).stack;
    stack_in_jumps = λ p ms e. (end p (Jumps ms) e).ends.stack;
    stack_in_branches = λ p ms e. (end p (Branches ms) e).ends.stack;
    counter = λ p ms e. (body p ms e).counter;
  }
