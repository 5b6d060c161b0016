-- Temporaries are live at once just where they meet in a block; and what is live has a home.
use Rattle.std.proofs.Common.{◌≡◌, ◌⊎◌, inl, inr, ℕ, zero, suc, ◌+◌, ◌/◌, ◌<◌, Bool, true, false, not, List, [], ◌∷◌, ◌++◌, length, Option, Some, None, refl, sym, ap, subst, ◌∙◌, arith}
use Rattle.std.specs.Prelude.{◌&&◌, ◌||◌, nat_lt, slice_get}
use Rattle.std.specs.List.{list_any}
use Rattle.std.specs.Global.{Vec}
use Rattle.std.proofs.Math.Nat.{mod-lt, div-add-mod}
use Rattle.std.proofs.lemmas.Bool.{true≢false, false≢true, or_left, or_right, or_cases, and_from, and_cases, and_left, and_right, lt-ltb, ltb-true, cases_Bool}
use Rattle.std.proofs.lemmas.Option.{slice_get_within}
use Rattle.rtl_tree.specs.declared.cells.Cell.{Cell}
use Rattle.rtl_tree.specs.declared.cells.Cell.TheVariants.{Temp, Flag}
use Rattle.rtl_tree.specs.Moves.{Move}
use Rattle.rtl_tree.specs.Same.{same_cell}
use Rattle.temp_machine.specs.Routines.{Exit, Falls as FallsExit, Jumps, Branches, Calls, Returns, BasicBlock, Routine, Target, exit_transfers, block_transfers}
use Rattle.temp_machine.specs.Cells.{some_goal_cell, some_cell, some_read, sets_by, is_flag, some_set, sets, mentions, uses, move_reads, reads_beside_flags, reads_for_flag}
use Rattle.temp_machine.specs.Live.{Place, Item, Transfer as TransferItem, End as EndItem, item_in, item_of, item_at, item_reads, item_reads_for, item_sets, inside, IsRead, here, for_flag, later, IsLive, always, read, IsLiveAfter, AreLiveAtOnce, both_live, both_set, left_set, right_set, LivesOverCall}
use Rattle.color_code.specs.Greedy.{AreConflicts}
use Rattle.flow_live.specs.Rows.{has_temporary}
use Rattle.flow_live.proofs.Bits.{or_false}
use Rattle.color_graph.specs.declared.graph.Graph.{Graph}
use Rattle.color_graph.specs.Sharing.{may_share, are_apart, Parts, Drops, conflicts_in}
use Rattle.color_graph.specs.Meeting.{place, MeetsAt, MeetsIn, at_begin, at_place, MeetsWithin, IsLiveBehindCalls, HaveHomes}

abbrev item_by : Item → Option Item → Item
item_by d (Some x) = x
item_by d None = d

abbrev block_by : BasicBlock → Option BasicBlock → BasicBlock
block_by d (Some b) = b
block_by d None = d

module _ (t : Target) (r : Routine) where
  -- what is live at a place is read from there on, and something stands there
  live_reads : (i : ℕ) (p : Place) → IsLive t r (Temp i) p → IsRead t r (Temp i) p
  live_reads i p (always e) = absurd (false≢true e)
  live_reads i p (read h) = h

  read_stands : (c : Cell) (p : Place) → IsRead t r c p → (x : Item) × (item_at r p ≡ Some x)
  read_stands c p (here d q x stands e) = (x, stands)
  read_stands c p (for_flag d n q next x stands e goes h) = (x, stands)
  read_stands c p (later d q next x stands e goes h) = (x, stands)

  in_block : (p : Place) (x : Item) → item_at r p ≡ Some x → p.block < length r.blocks
  in_block p x stands = by (slice_get r.blocks p.block) refl
    where
      by : (o : Option BasicBlock) → slice_get r.blocks p.block ≡ o → p.block < length r.blocks
      by (Some b) e = slice_get_within r.blocks p.block b e
      by None e = absurd (let k : None ≡ Some x = sym (ap (λ (o : Option BasicBlock). item_of o p.at) e) ∙ stands in cc)

  -- before a place behind the begin of a block stands a transfer
  before_in : (xs : List (List Move)) (e : Exit) (at : ℕ) (x : Item) → item_in xs e (suc at) ≡ Some x → (ms : List Move) × (item_in xs e at ≡ Some (TransferItem ms))
  before_in [] e at x h = absurd (let k : None ≡ Some x = h in cc)
  before_in (ms ∷ rest) e zero x h = (ms, refl)
  before_in (ms ∷ rest) e (suc at) x h = before_in rest e at x h

  before_of : (o : Option BasicBlock) (at : ℕ) (x : Item) → item_of o (suc at) ≡ Some x → (ms : List Move) × (item_of o at ≡ Some (TransferItem ms))
  before_of (Some b) at x h = before_in b.body b.exit at x h
  before_of None at x h = absurd (let k : None ≡ Some x = h in cc)

  -- two temporaries that are live inside a block meet there
  inside_step : (k at i j : ℕ) (ms : List Move) → item_at r (place k at) ≡ Some (TransferItem ms)
      → (IsLive t r (Temp i) (place k at) → IsLive t r (Temp j) (place k at) → MeetsIn t r k i j ⊎ MeetsIn t r k j i)
      → IsLive t r (Temp i) (place k (suc at)) → IsLive t r (Temp j) (place k (suc at)) → MeetsIn t r k i j ⊎ MeetsIn t r k j i
  inside_step k at i j ms stands earlier l m = by (cases_Bool (item_sets t (Temp i) (TransferItem ms))) (cases_Bool (item_sets t (Temp j) (TransferItem ms)))
    where
      after : (n : ℕ) → IsLive t r (Temp n) (place k (suc at)) → IsLiveAfter t r (Temp n) (place k at)
      after n h = record { next = place k (suc at); goes = inside k at ms stands; live = h }

      before : (n : ℕ) → item_sets t (Temp n) (TransferItem ms) ≡ false → IsLive t r (Temp n) (place k (suc at)) → IsLive t r (Temp n) (place k at)
      before n e h =
          read (later (Temp n) (place k at) (place k (suc at)) (TransferItem ms) stands e (inside k at ms stands) (live_reads n (place k (suc at)) h))

      by : (item_sets t (Temp i) (TransferItem ms) ≡ true) ⊎ (item_sets t (Temp i) (TransferItem ms) ≡ false)
          → (item_sets t (Temp j) (TransferItem ms) ≡ true) ⊎ (item_sets t (Temp j) (TransferItem ms) ≡ false) → MeetsIn t r k i j ⊎ MeetsIn t r k j i
      by (inl e) f = inl (at_place at (record { item = TransferItem ms; stands = stands; set = e; other = inr (after j m) }))
      by (inr e) (inl f) = inr (at_place at (record { item = TransferItem ms; stands = stands; set = f; other = inr (after i l) }))
      by (inr e) (inr f) = earlier (before i e l) (before j f m)

  inside_meets : (k at i j : ℕ) → IsLive t r (Temp i) (place k at) → IsLive t r (Temp j) (place k at) → MeetsIn t r k i j ⊎ MeetsIn t r k j i
  inside_meets k zero i j l m = inl (at_begin l m)
  inside_meets k (suc at) i j l m =
      let standing = read_stands (Temp i) (place k (suc at)) (live_reads i (place k (suc at)) l) in
      let earlier = before_of (slice_get r.blocks k) at standing.0 standing.1 in
      inside_step k at i j earlier.0 earlier.1 (inside_meets k at i j) l m

  both_ways : (k i j : ℕ) → k < length r.blocks → MeetsIn t r k i j ⊎ MeetsIn t r k j i
      → MeetsWithin (length r.blocks) t r i j ⊎ MeetsWithin (length r.blocks) t r j i
  both_ways k i j l (inl m) = inl (k, l, m)
  both_ways k i j l (inr m) = inr (k, l, m)

  at_once_meets : (i j : ℕ) → AreLiveAtOnce t r i j → MeetsWithin (length r.blocks) t r i j ⊎ MeetsWithin (length r.blocks) t r j i
  at_once_meets i j (both_live p l m) =
      let x = read_stands (Temp i) p (live_reads i p l) in
      both_ways p.block i j (in_block p x.0 x.1) (inside_meets p.block p.at i j l m)
  at_once_meets i j (both_set p x stands e f) =
      inl (p.block, in_block p x stands, at_place p.at (record { item = x; stands = stands; set = e; other = inl f }))
  at_once_meets i j (left_set p x stands e l) =
      inl (p.block, in_block p x stands, at_place p.at (record { item = x; stands = stands; set = e; other = inr l }))
  at_once_meets i j (right_set p x stands e l) =
      inr (p.block, in_block p x stands, at_place p.at (record { item = x; stands = stands; set = e; other = inr l }))

  place_at_once : (p : Place) (i j : ℕ) → MeetsAt t r p i j → AreLiveAtOnce t r i j
  place_at_once p i j m = by m.other
    where
      by : (item_sets t (Temp j) m.item ≡ true) ⊎ IsLiveAfter t r (Temp j) p → AreLiveAtOnce t r i j
      by (inl e) = both_set p m.item m.stands m.set e
      by (inr l) = left_set p m.item m.stands m.set l

  meets_at_once : (i j : ℕ) → MeetsWithin (length r.blocks) t r i j → AreLiveAtOnce t r i j
  meets_at_once i j (k, l, at_begin a b) = both_live (place k 0) a b
  meets_at_once i j (k, l, at_place at m) = place_at_once (place k at) i j m

  turned : (i j : ℕ) → AreLiveAtOnce t r i j → AreLiveAtOnce t r j i
  turned i j (both_live p l m) = both_live p m l
  turned i j (both_set p x stands e f) = both_set p x stands f e
  turned i j (left_set p x stands e l) = right_set p x stands e l
  turned i j (right_set p x stands e l) = left_set p x stands e l

  -- what is read or set stands in the routine

  any_or : {A : Type 0} (p q : A → Bool) (xs : List A) → ((x : A) → p x ≡ true → q x ≡ true) → list_any p xs ≡ true → list_any q xs ≡ true
  any_or p q [] h e = e
  any_or p q (x ∷ xs) h e = either (h x) (any_or p q xs h) (or_cases (p x) (list_any p xs) e)
    where
      either : (p x ≡ true → q x ≡ true) → (list_any p xs ≡ true → list_any q xs ≡ true) → (p x ≡ true) ⊎ (list_any p xs ≡ true) → list_any q (x ∷ xs) ≡ true
      either f g (inl k) = or_left (q x) (list_any q xs) (f k)
      either f g (inr k) = or_right (q x) (list_any q xs) (g k)

  and_last : (a b : Bool) → (a && b) ≡ true → b ≡ true
  and_last true b e = e
  and_last false b e = absurd (false≢true e)

  reads_mentions : (c : Cell) (ms : List Move) → reads_beside_flags c ms ≡ true → mentions (same_cell c) ms ≡ true
  reads_mentions c ms e =
      or_left (some_read (same_cell c) ms) (some_set (same_cell c) ms)
      (any_or (λ m. not (sets_by is_flag m.to) && move_reads c m) (λ m. some_goal_cell (same_cell c) m.to || some_cell (same_cell c) m.value) ms
      (λ m f. and_last (not (sets_by is_flag m.to)) (move_reads c m) f) e)

  reads_for_mentions : (c : Cell) (n : ℕ) (ms : List Move) → reads_for_flag n c ms ≡ true → mentions (same_cell c) ms ≡ true
  reads_for_mentions c n ms e =
      or_left (some_read (same_cell c) ms) (some_set (same_cell c) ms)
      (any_or (λ m. sets_by (same_cell (Flag n)) m.to && move_reads c m) (λ m. some_goal_cell (same_cell c) m.to || some_cell (same_cell c) m.value) ms
      (λ m f. and_last (sets_by (same_cell (Flag n)) m.to) (move_reads c m) f) e)

  sets_mentions : (i : ℕ) (ms : List Move) → sets (Temp i) ms ≡ true → mentions (same_cell (Temp i)) ms ≡ true
  sets_mentions i ms e = or_right (some_read (same_cell (Temp i)) ms) (some_set (same_cell (Temp i)) ms) e

  -- of the transfer of an item, if it has one
  abbrev item_mentions : (Cell → Bool) → Item → Bool
  item_mentions p (TransferItem ms) = mentions p ms
  item_mentions p (EndItem e) = list_any (mentions p) (exit_transfers e)

  one_more : (b : Bool) → b ≡ true → (b || false) ≡ true
  one_more b e = or_left b false e

  read_item : (i : ℕ) (x : Item) → item_reads t (Temp i) x ≡ true → item_mentions (same_cell (Temp i)) x ≡ true
  read_item i (TransferItem ms) e = reads_mentions (Temp i) ms e
  read_item i (EndItem FallsExit) e = absurd (false≢true e)
  read_item i (EndItem (Jumps ms)) e = one_more (mentions (same_cell (Temp i)) ms) (reads_mentions (Temp i) ms e)
  read_item i (EndItem (Branches ms)) e = one_more (mentions (same_cell (Temp i)) ms) (reads_mentions (Temp i) ms e)
  read_item i (EndItem (Calls ms)) e = one_more (mentions (same_cell (Temp i)) ms) (reads_mentions (Temp i) ms e)
  read_item i (EndItem Returns) e = absurd (false≢true e)

  read_for_item : (i n : ℕ) (x : Item) → item_reads_for n (Temp i) x ≡ true → item_mentions (same_cell (Temp i)) x ≡ true
  read_for_item i n (TransferItem ms) e = reads_for_mentions (Temp i) n ms e
  read_for_item i n (EndItem FallsExit) e = absurd (false≢true e)
  read_for_item i n (EndItem (Jumps ms)) e = one_more (mentions (same_cell (Temp i)) ms) (reads_for_mentions (Temp i) n ms e)
  read_for_item i n (EndItem (Branches ms)) e = one_more (mentions (same_cell (Temp i)) ms) (reads_for_mentions (Temp i) n ms e)
  read_for_item i n (EndItem (Calls ms)) e = absurd (false≢true e)
  read_for_item i n (EndItem Returns) e = absurd (false≢true e)

  set_item : (i : ℕ) (x : Item) → item_sets t (Temp i) x ≡ true → item_mentions (same_cell (Temp i)) x ≡ true
  set_item i (TransferItem ms) e = sets_mentions i ms e
  set_item i (EndItem FallsExit) e = absurd (false≢true e)
  set_item i (EndItem (Jumps ms)) e = one_more (mentions (same_cell (Temp i)) ms) (sets_mentions i ms e)
  set_item i (EndItem (Branches ms)) e = one_more (mentions (same_cell (Temp i)) ms) (sets_mentions i ms e)
  set_item i (EndItem (Calls ms)) e =
      one_more (mentions (same_cell (Temp i)) ms) (sets_mentions i ms (sym (or_false (sets (Temp i) ms)) ∙ e))
  set_item i (EndItem Returns) e = absurd (false≢true e)

  mentions_body : (p : Cell → Bool) (xs : List (List Move)) (e : Exit) (at : ℕ) (x : Item) → item_in xs e at ≡ Some x → item_mentions p x ≡ true
      → list_any (mentions p) (xs ++ exit_transfers e) ≡ true
  mentions_body p [] e zero x h m = subst (λ (y : Item). item_mentions p y ≡ true) (sym (ap (item_by x) h)) m
  mentions_body p [] e (suc at) x h m = absurd (let k : None ≡ Some x = h in cc)
  mentions_body p (ms ∷ rest) e zero x h m =
      or_left (mentions p ms) (list_any (mentions p) (rest ++ exit_transfers e)) (subst (λ (y : Item). item_mentions p y ≡ true) (sym (ap (item_by x) h)) m)
  mentions_body p (ms ∷ rest) e (suc at) x h m =
      or_right (mentions p ms) (list_any (mentions p) (rest ++ exit_transfers e)) (mentions_body p rest e at x h m)

  block_any : (q : BasicBlock → Bool) (bs : List BasicBlock) (k : ℕ) (b : BasicBlock) → slice_get bs k ≡ Some b → q b ≡ true → list_any q bs ≡ true
  block_any q [] k b get e = absurd (let h : None ≡ Some b = get in cc)
  block_any q (c ∷ cs) zero b get e = or_left (q c) (list_any q cs) (subst (λ (y : BasicBlock). q y ≡ true) (sym (ap (block_by b) get)) e)
  block_any q (c ∷ cs) (suc k) b get e = or_right (q c) (list_any q cs) (block_any q cs k b get e)

  mentions_used : (p : Cell → Bool) (q : Place) (x : Item) → item_at r q ≡ Some x → item_mentions p x ≡ true → uses p r ≡ true
  mentions_used p q x stands m = by (slice_get r.blocks q.block) refl
    where
      by : (o : Option BasicBlock) → slice_get r.blocks q.block ≡ o → uses p r ≡ true
      by (Some b) e =
          block_any (λ b. list_any (mentions p) (block_transfers b)) r.blocks q.block b e
          (mentions_body p b.body b.exit q.at x (sym (ap (λ (o : Option BasicBlock). item_of o q.at) e) ∙ stands) m)
      by None e = absurd (let k : None ≡ Some x = sym (ap (λ (o : Option BasicBlock). item_of o q.at) e) ∙ stands in cc)

  module _ (homes : HaveHomes r) where
    -- a path to a read of a temporary ends at one; a flag's read isn't one of a temporary
    read_used : (i : ℕ) (c : Cell) (p : Place) → c ≡ Temp i → IsRead t r c p → i < length r.homes
    read_used i c p is (here d q x stands e) =
        homes i (mentions_used (same_cell (Temp i)) p x stands (read_item i x (subst (λ (y : Cell). item_reads t y x ≡ true) is e)))
    read_used i c p is (for_flag d n q next x stands e goes h) =
        homes i (mentions_used (same_cell (Temp i)) p x stands (read_for_item i n x (subst (λ (y : Cell). item_reads_for n y x ≡ true) is e)))
    read_used i c p is (later d q next x stands e goes h) = read_used i c next is h

    live_used : (i : ℕ) (p : Place) → IsLive t r (Temp i) p → i < length r.homes
    live_used i p l = read_used i (Temp i) p refl (live_reads i p l)

    set_used : (i : ℕ) (p : Place) (x : Item) → item_at r p ≡ Some x → item_sets t (Temp i) x ≡ true → i < length r.homes
    set_used i p x stands e = homes i (mentions_used (same_cell (Temp i)) p x stands (set_item i x e))

    first_used : (i j : ℕ) → AreLiveAtOnce t r i j → i < length r.homes
    first_used i j (both_live p l m) = live_used i p l
    first_used i j (both_set p x stands e f) = set_used i p x stands e
    first_used i j (left_set p x stands e l) = set_used i p x stands e
    first_used i j (right_set p x stands e l) = live_used i l.next l.live

    -- the rows tell the conflicts
    pub are_conflicts : (g : Graph) (full : List (Vec ℕ)) (all : List ℕ) → length g.rows.items ≡ length r.homes
        → ((i j : ℕ) → i < length r.homes → j < length r.homes → may_share full i j ≡ true) → Parts (length r.homes) (MeetsWithin (length r.blocks) t r) full g.rows.items
        → ((i : ℕ) → i < length r.homes → has_temporary all i ≡ true) → Drops (length r.homes) (IsLiveBehindCalls (length r.blocks) t r) all g.over_calls.items
        → AreConflicts t r (conflicts_in g)
    are_conflicts g full all count shares parts begins drops = record { between = λ i j ne. (to i j, from i j); over_call = λ i. (over i, lives i) }
      where
        parted : (i j : ℕ) → i < length r.homes → j < length r.homes → may_share g.rows.items i j ≡ false → MeetsWithin (length r.blocks) t r i j
        parted i j l m e = by ((parts i j l m).0 e)
          where
            by : (may_share full i j ≡ false) ⊎ MeetsWithin (length r.blocks) t r i j → MeetsWithin (length r.blocks) t r i j
            by (inl f) = absurd (true≢false (sym (shares i j l m) ∙ f))
            by (inr h) = h

        not_shared : (i j : ℕ) → not (may_share g.rows.items i j && may_share g.rows.items j i) ≡ true → (may_share g.rows.items i j && may_share g.rows.items j i) ≡ false
        not_shared i j e = flip (may_share g.rows.items i j && may_share g.rows.items j i) e
          where
            flip : (b : Bool) → not b ≡ true → b ≡ false
            flip true f = absurd (false≢true f)
            flip false f = refl

        first : (a b : Bool) → (a && b) ≡ true → a ≡ true
        first true b e = refl
        first false b e = absurd (false≢true e)

        within : (i : ℕ) → nat_lt i (length g.rows.items) ≡ true → i < length r.homes
        within i e = let l = ltb-true i (length g.rows.items) e in omega (arith, l, count)

        inside_rows : (i : ℕ) → i < length r.homes → nat_lt i (length g.rows.items) ≡ true
        inside_rows i l = lt-ltb i (length g.rows.items) (omega (arith, l, count))

        meets : (i j : ℕ) → i < length r.homes → j < length r.homes → (may_share g.rows.items i j ≡ false) ⊎ (may_share g.rows.items j i ≡ false) → AreLiveAtOnce t r i j
        meets i j l m (inl e) = meets_at_once i j (parted i j l m e)
        meets i j l m (inr e) = turned j i (meets_at_once j i (parted j i m l e))

        to : (i j : ℕ) → (nat_lt i (length g.rows.items) && (nat_lt j (length g.rows.items) && are_apart g.rows.items i j)) ≡ true → AreLiveAtOnce t r i j
        to i j e =
            let f = and_last (nat_lt i (length g.rows.items)) (nat_lt j (length g.rows.items) && are_apart g.rows.items i j) e in
            meets i j (within i (first (nat_lt i (length g.rows.items)) (nat_lt j (length g.rows.items) && are_apart g.rows.items i j) e))
            (within j (first (nat_lt j (length g.rows.items)) (are_apart g.rows.items i j) f))
            (and_cases (may_share g.rows.items i j) (may_share g.rows.items j i)
            (not_shared i j (and_last (nat_lt j (length g.rows.items)) (are_apart g.rows.items i j) f)))

        apart : (i j : ℕ) → i < length r.homes → j < length r.homes → MeetsWithin (length r.blocks) t r i j ⊎ MeetsWithin (length r.blocks) t r j i
            → are_apart g.rows.items i j ≡ true
        apart i j l m (inl h) = ap not (and_left (may_share g.rows.items i j) (may_share g.rows.items j i) ((parts i j l m).1 (inr h)))
        apart i j l m (inr h) = ap not (and_right (may_share g.rows.items i j) (may_share g.rows.items j i) ((parts j i m l).1 (inr h)))

        from : (i j : ℕ) → AreLiveAtOnce t r i j → (nat_lt i (length g.rows.items) && (nat_lt j (length g.rows.items) && are_apart g.rows.items i j)) ≡ true
        from i j h =
            let l = first_used i j h in
            let m = first_used j i (turned i j h) in
            and_from (nat_lt i (length g.rows.items)) (nat_lt j (length g.rows.items) && are_apart g.rows.items i j) (inside_rows i l)
            (and_from (nat_lt j (length g.rows.items)) (are_apart g.rows.items i j) (inside_rows j m) (apart i j l m (at_once_meets i j h)))

        dropped : (i : ℕ) → i < length r.homes → has_temporary g.over_calls.items i ≡ false → IsLiveBehindCalls (length r.blocks) t r i
        dropped i l e = by ((drops i l).0 e)
          where
            by : (has_temporary all i ≡ false) ⊎ IsLiveBehindCalls (length r.blocks) t r i → IsLiveBehindCalls (length r.blocks) t r i
            by (inl f) = absurd (true≢false (sym (begins i l) ∙ f))
            by (inr h) = h

        over : (i : ℕ) → (nat_lt i (length g.rows.items) && not (has_temporary g.over_calls.items i)) ≡ true → LivesOverCall t r i
        over i e = call (dropped i (within i (first (nat_lt i (length g.rows.items)) (not (has_temporary g.over_calls.items i)) e)) fallen)
          where
            flip : (b : Bool) → not b ≡ true → b ≡ false
            flip true f = absurd (false≢true f)
            flip false f = refl

            fallen : has_temporary g.over_calls.items i ≡ false
            fallen = flip (has_temporary g.over_calls.items i) (and_last (nat_lt i (length g.rows.items)) (not (has_temporary g.over_calls.items i)) e)

            call : IsLiveBehindCalls (length r.blocks) t r i → LivesOverCall t r i
            call (k, l, b) = record { block = k; basic_block = b.basic_block; has = b.has; transfer = b.transfer; calls = b.calls; live = b.live }

        lives : (i : ℕ) → LivesOverCall t r i → (nat_lt i (length g.rows.items) && not (has_temporary g.over_calls.items i)) ≡ true
        lives i c =
            let l = live_used i (place (suc c.block) 0) c.live in
            let stands = read_stands (Temp i) (place (suc c.block) 0) (live_reads i (place (suc c.block) 0) c.live) in
            and_from (nat_lt i (length g.rows.items)) (not (has_temporary g.over_calls.items i)) (inside_rows i l)
            (ap not ((drops i l).1 (inr (
              c.block,
              slice_get_within r.blocks c.block c.basic_block c.has,
              record {
                basic_block = c.basic_block;
                has = c.has;
                transfer = c.transfer;
                calls = c.calls;
                next = in_block (place (suc c.block) 0) stands.0 stands.1;
                live = c.live;
              },
            ))))

-- a word for each 64
pub word_within : (n j : ℕ) → j < n → j / 64 < n / 64 + 1
word_within n j l =
    let a = div-add-mod n 64 in
    let b = div-add-mod j 64 in
    let c = mod-lt n {m = 64} (omega arith) in
    omega (arith, l, a, b, c)
