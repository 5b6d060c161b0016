-- What is built from the operations of a loop has the loop.
use Rattle.std.proofs.Common.{◌≡◌, ◌⊎◌, inl, inr, ℕ, zero, suc, ◌+◌, ◌-◌, ◌≤◌, ◌<◌, List, [], ◌∷◌, ◌++◌, map, length, slice_get, Option, Some, None, refl, sym, ap, ◌∙◌, subst, arith}
use Rattle.std.specs.Prelude.{Contains}
use Rattle.std.proofs.lemmas.Bool.{cases_lt}
use Rattle.std.proofs.lemmas.List.{append_assoc, append-nil, map-append}
use Rattle.std.proofs.lemmas.Option.{same_Some, slice_get_within}
use Rattle.rtl_tree.specs.Moves.{Move}
use Rattle.md_rows.specs.declared.description.RawDescription.{RawDescription}
use Rattle.md_shapes.specs.Shapes.{Frame as Fixed}
use Rattle.md_check.specs.Checking.{IsChecked}
use Rattle.temp_machine.specs.Routines.{Exit, Falls, Jumps, Branches, Calls, Returns, BasicBlock, Routine}
use Rattle.temp_machine.specs.Machine.{position}
use Rattle.temp_machine.specs.Flow.{label_by, label_of, positions_by, successors_by, successors_at, successors, IsInRun, IsLoop}
use Rattle.temp_code.specs.declared.code.Transfer.{Transfer}
use Rattle.temp_code.specs.declared.code.End.{End}
use Rattle.temp_code.specs.declared.code.End.TheVariants.{Return}
use Rattle.temp_code.specs.declared.code.Block.{Block}
use Rattle.temp_code.specs.declared.code.Code.{Code}
use Rattle.temp_code.specs.Routines.{exit_of, block_of, routine_of}
use Rattle.temp_laws.specs.Going.{JumpsGo, BranchesGo, FlagBranchesGo}
use Rattle.naive_code.specs.Operations as code
use Rattle.naive_code.specs.Operations.{Stop, Op, Make, Meet, Scale, Extend, Close}
use Rattle.naive_run.specs.Standing.{Shaped, ways, with_label, on_two_to}
use Rattle.naive_builder.specs.Appending.{Emitted, begun, IsEnd, falls, jumps, branches, branches_by_flag, calls, leaves, AppendsOne, puts, closes, Appends, nothing, one_more, opened}
use Rattle.naive_builder.specs.Finished.{times, AreOnce}
use Rattle.naive_forms.specs.Codes.{IsBuilt}
use Rattle.naive_loops.specs.Loops.{LeadsTo, Spares, HasLoop, ended}
use Rattle.naive_loops.proofs.Places.{nowhere, contains_at, one_of, two_of, get_left, get_right, put_right, labels_in, placed, found}

-- ---- the ends of blocks among operations

abbrev pub closed : List Op → List Stop
closed [] = []
closed (Make p o ∷ os) = closed os
closed (Meet a b ∷ os) = closed os
closed (Scale a b ∷ os) = closed os
closed (Extend a b ∷ os) = closed os
closed (Close stop l ∷ os) = stop ∷ closed os

closed_append : (os ps : List Op) → closed (os ++ ps) ≡ closed os ++ closed ps
closed_append [] ps = refl
closed_append (Make p o ∷ os) ps = closed_append os ps
closed_append (Meet a b ∷ os) ps = closed_append os ps
closed_append (Scale a b ∷ os) ps = closed_append os ps
closed_append (Extend a b ∷ os) ps = closed_append os ps
closed_append (Close stop l ∷ os) ps = ap (λ (ss : List Stop). stop ∷ ss) (closed_append os ps)

opened_append : (os ps : List Op) → opened (os ++ ps) ≡ opened os ++ opened ps
opened_append [] ps = refl
opened_append (Make p o ∷ os) ps = opened_append os ps
opened_append (Meet a b ∷ os) ps = opened_append os ps
opened_append (Scale a b ∷ os) ps = opened_append os ps
opened_append (Extend a b ∷ os) ps = opened_append os ps
opened_append (Close stop l ∷ os) ps = ap (λ (ls : List ℕ). l ∷ ls) (opened_append os ps)

closed_long : (os : List Op) → length (closed os) ≡ length (opened os)
closed_long [] = refl
closed_long (Make p o ∷ os) = closed_long os
closed_long (Meet a b ∷ os) = closed_long os
closed_long (Scale a b ∷ os) = closed_long os
closed_long (Extend a b ∷ os) = closed_long os
closed_long (Close stop l ∷ os) = ap suc (closed_long os)

-- what is spared by operations is by all but the first
spares_rest : (m : ℕ) (o : Op) (os : List Op) → Spares m (o ∷ os) → Spares m os
spares_rest m o os h stop l has = let lt = has.1 in h stop l (suc has.0, omega (arith, lt), has.2)

spared_at : (os : List Op) (rest : List Stop) (m k : ℕ) (s : Stop) → Spares m os → k < length (closed os) → slice_get (closed os ++ rest) k ≡ Some s → LeadsTo m s → ⊥
spared_at [] rest m k s h lt e to = absurd (omega (arith, lt))
spared_at (Make p o ∷ os) rest m k s h lt e to = spared_at os rest m k s (spares_rest m (Make p o) os h) lt e to
spared_at (Meet a b ∷ os) rest m k s h lt e to = spared_at os rest m k s (spares_rest m (Meet a b) os h) lt e to
spared_at (Scale a b ∷ os) rest m k s h lt e to = spared_at os rest m k s (spares_rest m (Scale a b) os h) lt e to
spared_at (Extend a b ∷ os) rest m k s h lt e to = spared_at os rest m k s (spares_rest m (Extend a b) os h) lt e to
spared_at (Close stop l ∷ os) rest m zero s h lt e to = h s l (zero, omega arith, ap (λ (x : Stop). Close x l) (same_Some _ _ e)) to
spared_at (Close stop l ∷ os) rest m (suc k) s h lt e to = spared_at os rest m k s (spares_rest m (Close stop l) os h) (omega (arith, lt)) e to

-- the last block returns
spared_last : (m k : ℕ) (s : Stop) → slice_get (code.Returns ∷ []) k ≡ Some s → LeadsTo m s → ⊥
spared_last m zero s e to = subst (LeadsTo m) (sym (same_Some _ _ e)) to
spared_last m (suc k) s e to = nowhere k s e

spared_behind : (os : List Op) (m k : ℕ) (s : Stop) → Spares m os → slice_get (closed os ++ (code.Returns ∷ [])) k ≡ Some s → LeadsTo m s → ⊥
spared_behind os m k s h e to = by (cases_lt k (length (closed os)))
  where
    by : (k < length (closed os)) ⊎ (length (closed os) ≤ k) → ⊥
    by (inl lt) = spared_at os (code.Returns ∷ []) m k s h lt e to
    by (inr le) = spared_last m (k - length (closed os)) s (get_right (closed os) (code.Returns ∷ []) k (k - length (closed os)) s (omega (arith, le)) e) to

module _ (w : ℕ) (d : RawDescription) (m : Fixed) (checked : IsChecked w d) (jumps_go : JumpsGo) (branches_go : BranchesGo) (flags_go : FlagBranchesGo) where
  -- ---- what closes a block is its exit

  abbrev Exits : Stop → Exit → Type 0
  Exits code.Falls e = e ≡ Falls
  Exits (code.Jumps l) e = (ms : List Move) × (e ≡ Jumps ms) × (label_of d.word ms ≡ Some l)
  Exits (code.Branches r a b l) e = (ms : List Move) × (e ≡ Branches ms) × (label_of d.word ms ≡ Some l)
  Exits (code.Calls g) e = (ms : List Move) × (e ≡ Calls ms)
  Exits code.Returns e = e ≡ Returns

  end_exits : (stop : Stop) (ts : List Transfer) (e : End) → IsEnd d m stop ts e → Exits stop (exit_of e)
  end_exits _ _ _ falls = refl
  end_exits _ _ _ leaves = refl
  end_exits _ _ _ (jumps l t h) = (t.what, refl, ap label_by (jumps_go w d m (with_label l) t checked h.transfer))
  end_exits _ _ _ (branches r a b l t h) = (t.what, refl, branches_go w d m r (on_two_to a b l) t l checked h.transfer refl)
  end_exits _ _ _ (branches_by_flag r a b l j compare t g h) = (t.what, refl, flags_go w d m r j (on_two_to a b l) t l checked h.transfer refl)
  end_exits _ _ _ (calls f t h) = (t.what, refl)

  abbrev Ended : List Stop → List BasicBlock → Type 0
  Ended [] [] = Unit {0}
  Ended (s ∷ ss) (b ∷ bs) = Exits s b.exit × Ended ss bs
  Ended [] (b ∷ bs) = ⊥
  Ended (s ∷ ss) [] = ⊥

  -- what operations add to emitted code
  record Added (s : Emitted) (os : List Op) (u : Emitted) : Type 0 where
    new : List Block
    blocks : u.blocks ≡ s.blocks ++ new
    ends : Ended (closed os) (map block_of new)
    labels : labels_in (map block_of new) ++ (u.label ∷ []) ≡ s.label ∷ opened os

  closes_none : (o : Op) (os : List Op) (way : List Shaped) → Contains (ways d.word o) way → (closed (o ∷ os) ≡ closed os) × (opened (o ∷ os) ≡ opened os)
  closes_none (Make p a) os way h = (refl, refl)
  closes_none (Meet a b) os way h = (refl, refl)
  closes_none (Scale a b) os way h = (refl, refl)
  closes_none (Extend a b) os way h = (refl, refl)
  closes_none (Close stop l) os way h = let lt = h.1 in absurd (omega (arith, lt))

  one_added : (s t u : Emitted) (o : Op) (os : List Op) → AppendsOne d m s o t → Added t os u → Added s (o ∷ os) u
  one_added _ _ u _ os (puts s o way ts has made) k =
      let none = closes_none o os way has in record {
        new = k.new;
        blocks = k.blocks;
        ends = subst (λ (ss : List Stop). Ended ss (map block_of k.new)) (sym none.0) k.ends;
        labels = k.labels ∙ ap (λ (ls : List ℕ). s.label ∷ ls) (sym none.1);
      }
  one_added _ _ u _ os (closes s stop l ts e h) k = record {
    new = record { label = s.label; body = s.body ++ ts; end = e } ∷ k.new;
    blocks = k.blocks ∙ append_assoc s.blocks (record { label = s.label; body = s.body ++ ts; end = e } ∷ []) k.new;
    ends = (end_exits stop ts e h, k.ends);
    labels = ap (λ (ls : List ℕ). s.label ∷ ls) k.labels;
  }

  added : (s u : Emitted) (os : List Op) → Appends d m s os u → Added s os u
  added _ _ _ (nothing s) = record { new = []; blocks = sym (append-nil s.blocks); ends = tt; labels = refl }
  added _ _ _ (one_more s t u o os one rest) = one_added s t u o os one (added t u os rest)

  -- the blocks of a code, and how they end
  record AreMade (os : List Op) (label : ℕ) (bs : List BasicBlock) : Type 0 where
    ends : Ended (closed os ++ (code.Returns ∷ [])) bs
    labels : labels_in bs ≡ label ∷ opened os

  ended_last : (ss : List Stop) (bs : List BasicBlock) (b : BasicBlock) → Ended ss bs → b.exit ≡ Returns → Ended (ss ++ (code.Returns ∷ [])) (bs ++ (b ∷ []))
  ended_last [] [] b h e = (e, tt)
  ended_last (s ∷ ss) (x ∷ bs) b h e = (h.0, ended_last ss bs b h.1 e)
  ended_last [] (x ∷ bs) b h e = absurd h
  ended_last (s ∷ ss) [] b h e = absurd h

  are_made : (label : ℕ) (os : List Op) (c : Code) → IsBuilt d m label os c → AreMade os label (routine_of c).blocks
  are_made label os c h =
      let s = h.emitted in
      let x = added (begun label) s os h.appends in
      let last : Block = record { label = s.label; body = s.body; end = Return } in
      let is : map block_of c.blocks ≡ map block_of x.new ++ (block_of last ∷ []) =
      ap (λ (bs : List Block). map block_of bs) (h.blocks ∙ ap (λ (bs : List Block). bs ++ (last ∷ [])) x.blocks) ∙ map-append block_of x.new (last ∷ []) in
      subst (AreMade os label) (sym is) (record {
        ends = ended_last (closed os) (map block_of x.new) (block_of last) x.ends refl;
        labels = map-append (λ (b : BasicBlock). b.label) (map block_of x.new) (block_of last ∷ []) ∙ x.labels;
      })

  -- ---- the block at a position

  stop_at : (ss : List Stop) (bs : List BasicBlock) → Ended ss bs → (k : ℕ) (b : BasicBlock) → slice_get bs k ≡ Some b → (s : Stop) × (slice_get ss k ≡ Some s) × Exits s b.exit
  stop_at [] [] h k b e = absurd (nowhere k b e)
  stop_at (s ∷ ss) (x ∷ bs) h zero b e = (s, refl, subst (λ (y : BasicBlock). Exits s y.exit) (same_Some _ _ e) h.0)
  stop_at (s ∷ ss) (x ∷ bs) h (suc k) b e = stop_at ss bs h.1 k b e
  stop_at [] (x ∷ bs) h k b e = absurd h
  stop_at (s ∷ ss) [] h k b e = absurd h

  block_there : (ss : List Stop) (bs : List BasicBlock) → Ended ss bs → (k : ℕ) (s : Stop) → slice_get ss k ≡ Some s → (b : BasicBlock) × (slice_get bs k ≡ Some b) × Exits s b.exit
  block_there [] [] h k s e = absurd (nowhere k s e)
  block_there (x ∷ ss) (b ∷ bs) h zero s e = (b, refl, subst (λ (y : Stop). Exits y b.exit) (same_Some _ _ e) h.0)
  block_there (x ∷ ss) (b ∷ bs) h (suc k) s e = block_there ss bs h.1 k s e
  block_there [] (b ∷ bs) h k s e = absurd h
  block_there (x ∷ ss) [] h k s e = absurd h

  module _ (bs : List BasicBlock) where
    block_of_way : (k next : ℕ) (o : Option BasicBlock) → slice_get bs k ≡ o → Contains (successors_at d.word bs k o) next
        → (b : BasicBlock) × (slice_get bs k ≡ Some b) × Contains (successors_by d.word bs k b.exit) next
    block_of_way k next None is has = let lt = has.1 in absurd (omega (arith, lt))
    block_of_way k next (Some b) is has = (b, is, has)

    -- a block that leads to no label of a run, from which the next block isn't in it, leads nowhere in it
    no_entry : (k next : ℕ) (s : Stop) (e : Exit) (ls : List ℕ) → Exits s e → ((l : ℕ) → Contains ls l → LeadsTo l s → ⊥) → (suc k ≡ next → ⊥)
        → ((l : ℕ) → position bs l 0 ≡ next → Contains ls l) → Contains (successors_by d.word bs k e) next → ⊥
    no_entry k next code.Falls e ls h spares behind inside has =
        behind (one_of (suc k) next (subst (λ (x : Exit). Contains (successors_by d.word bs k x) next) h has))
    no_entry k next (code.Jumps l) e ls h spares behind inside has =
        let to = subst (λ (o : Option ℕ). Contains (positions_by bs o) next) h.2 (subst (λ (x : Exit). Contains (successors_by d.word bs k x) next) h.1 has) in
        spares l (inside l (one_of (position bs l 0) next to)) refl
    no_entry k next (code.Branches r a b l) e ls h spares behind inside has =
        let to = subst (λ (o : Option ℕ). Contains (suc k ∷ positions_by bs o) next) h.2 (subst (λ (x : Exit). Contains (successors_by d.word bs k x) next) h.1 has) in
        by (two_of (suc k) (position bs l 0) next to)
      where
        by : (suc k ≡ next) ⊎ (position bs l 0 ≡ next) → ⊥
        by (inl e) = behind e
        by (inr e) = spares l (inside l e) refl
    no_entry k next (code.Calls g) e ls h spares behind inside has =
        behind (one_of (suc k) next (subst (λ (x : Exit). Contains (successors_by d.word bs k x) next) h.1 has))
    no_entry k next code.Returns e ls h spares behind inside has =
        let none = subst (λ (x : Exit). Contains (successors_by d.word bs k x) next) h has in let lt = none.1 in omega (arith, lt)

    leads_back : (k first : ℕ) (s : Stop) (e : Exit) (p : ℕ) → Exits s e → LeadsTo first s → position bs first 0 ≡ p → Contains (successors_by d.word bs k e) p
    leads_back k first (code.Jumps l) e p h to is =
        let same : position bs l 0 ≡ p = ap (λ (x : ℕ). position bs x 0) to ∙ is in
        subst (λ (x : Exit). Contains (successors_by d.word bs k x) p) (sym h.1)
        (subst (λ (o : Option ℕ). Contains (positions_by bs o) p) (sym h.2) (0, omega arith, same))
    leads_back k first (code.Branches r a b l) e p h to is =
        let same : position bs l 0 ≡ p = ap (λ (x : ℕ). position bs x 0) to ∙ is in
        subst (λ (x : Exit). Contains (successors_by d.word bs k x) p) (sym h.1)
        (subst (λ (o : Option ℕ). Contains (suc k ∷ positions_by bs o) p) (sym h.2) (1, omega arith, same))
    leads_back k first code.Falls e p h to is = absurd to
    leads_back k first (code.Calls g) e p h to is = absurd to
    leads_back k first code.Returns e p h to is = absurd to

  -- ---- the loop

  module _ (label : ℕ) (before inside behind : List Op) (first : ℕ) (back : Stop) (next : ℕ) (r : Routine) where
    abbrev all : List Op
    all = before ++ (Close code.Falls first ∷ (inside ++ (Close back next ∷ behind)))

    abbrev tail : List Stop
    tail = back ∷ (closed behind ++ (code.Returns ∷ []))

    stops_are : closed all ++ (code.Returns ∷ []) ≡ closed before ++ (code.Falls ∷ (closed inside ++ tail))
    stops_are =
        let cut : closed all ≡ closed before ++ (code.Falls ∷ (closed inside ++ (back ∷ closed behind))) =
        closed_append before (Close code.Falls first ∷ (inside ++ (Close back next ∷ behind)))
        ∙ ap (λ (ss : List Stop). closed before ++ (code.Falls ∷ ss)) (closed_append inside (Close back next ∷ behind)) in
        ap (λ (ss : List Stop). ss ++ (code.Returns ∷ [])) cut
        ∙ (append_assoc (closed before) (code.Falls ∷ (closed inside ++ (back ∷ closed behind))) (code.Returns ∷ [])
        ∙ ap (λ (ss : List Stop). closed before ++ (code.Falls ∷ ss)) (append_assoc (closed inside) (back ∷ closed behind) (code.Returns ∷ [])))

    labels_are : label ∷ opened all ≡ (label ∷ opened before) ++ ((first ∷ opened inside) ++ (next ∷ opened behind))
    labels_are =
        ap (λ (ls : List ℕ). label ∷ ls) (opened_append before (Close code.Falls first ∷ (inside ++ (Close back next ∷ behind)))
        ∙ ap (λ (ls : List ℕ). opened before ++ (first ∷ ls)) (opened_append inside (Close back next ∷ behind)))

    module _ (made : AreMade all label r.blocks) (once : AreOnce (label ∷ opened all)) (to_first : LeadsTo first back)
        (before_spares : (l : ℕ) → Contains (first ∷ opened inside) l → Spares l before) (behind_spares : (l : ℕ) → Contains (first ∷ opened inside) l → Spares l behind) where
      abbrev n : ℕ
      n = ended before

      abbrev last : ℕ
      last = suc (ended before) + ended inside

      ends : Ended (closed before ++ (code.Falls ∷ (closed inside ++ tail))) r.blocks
      ends = subst (λ (ss : List Stop). Ended ss r.blocks) stops_are made.ends

      labels : labels_in r.blocks ≡ (label ∷ opened before) ++ ((first ∷ opened inside) ++ (next ∷ opened behind))
      labels = made.labels ∙ labels_are

      blocks_long : last < length r.blocks
      blocks_long =
          let k = closed_long before in let j = closed_long inside in
          let e : last ≡ length (closed before) + (1 + length (closed inside)) = omega (arith, k, j) in
          let here : slice_get (closed before ++ (code.Falls ∷ (closed inside ++ tail))) last ≡ Some back =
          put_right (closed before) (code.Falls ∷ (closed inside ++ tail)) last (suc (length (closed inside))) back (omega (arith, e))
          (put_right (closed inside) tail (length (closed inside)) 0 back (omega arith) refl) in
          let there = block_there (closed before ++ (code.Falls ∷ (closed inside ++ tail))) r.blocks ends last back here in
          slice_get_within r.blocks last there.0 there.1

      -- where a label of the run stands
      inside_run : (l p : ℕ) → suc n ≤ p → p ≤ last → position r.blocks l 0 ≡ p → Contains (first ∷ opened inside) l
      inside_run l p from to is =
          let long = blocks_long in
          let f = found r.blocks l 0 (omega (arith, is, to, long)) in
          let at : position r.blocks l 0 ≡ 0 + f.0 = f.1 in
          let e : f.0 ≡ suc (length (opened before)) + (p - suc n) = omega (arith, at, is, from) in
          let here : slice_get ((label ∷ opened before) ++ ((first ∷ opened inside) ++ (next ∷ opened behind))) f.0 ≡ Some l =
          subst (λ (ls : List ℕ). slice_get ls f.0 ≡ Some l) labels f.2 in
          let right = get_right (label ∷ opened before) ((first ∷ opened inside) ++ (next ∷ opened behind)) f.0 (p - suc n) l e here in
          let within : p - suc n < length (first ∷ opened inside) = omega (arith, from, to) in
          contains_at (first ∷ opened inside) (p - suc n) l (get_left (first ∷ opened inside) (next ∷ opened behind) (p - suc n) l within right)

      -- a block outside the run that isn't the one before leads nowhere in it
      outside : (k p : ℕ) (s : Stop) (b : BasicBlock) → Exits s b.exit → ((l : ℕ) → Contains (first ∷ opened inside) l → LeadsTo l s → ⊥) → IsInRun (suc n) last p
          → (suc k ≡ p → ⊥) → Contains (successors_by d.word r.blocks k b.exit) p → ⊥
      outside k p s b x spares run behind_it has =
          no_entry r.blocks k p s b.exit (first ∷ opened inside) x spares behind_it (λ l e. inside_run l p run.from run.to e) has

      enters : (k p : ℕ) → Contains (successors d.word r k) p → IsInRun (suc n) last p → IsInRun (suc n) last k ⊎ (k ≡ n)
      enters k p has run =
          let here = block_of_way r.blocks k p (slice_get r.blocks k) refl has in
          let stop = stop_at (closed before ++ (code.Falls ∷ (closed inside ++ tail))) r.blocks ends k here.0 here.1 in
          by here.0 stop.0 here.2 stop.1 stop.2 (cases_lt k n) (cases_lt last k)
        where
          by : (b : BasicBlock) (s : Stop) → Contains (successors_by d.word r.blocks k b.exit) p
              → slice_get (closed before ++ (code.Falls ∷ (closed inside ++ tail))) k ≡ Some s → Exits s b.exit → (k < n) ⊎ (n ≤ k) → (last < k) ⊎ (k ≤ last)
              → IsInRun (suc n) last k ⊎ (k ≡ n)
          by b s way at x (inl lt) q =
              let long = closed_long before in let from = run.from in
              absurd (outside k p s b x (λ l c to. spared_at before (code.Falls ∷ (closed inside ++ tail)) l k s (before_spares l c) (omega (arith, lt, long)) at to) run
              (λ e. omega (arith, e, lt, from)) way)
          by b s way at x (inr le) (inl gt) =
              let long = closed_long before in let wide = closed_long inside in let to_last = run.to in
              let j = k - suc last in
              let e : k ≡ length (closed before) + suc (length (closed inside) + suc j) = omega (arith, gt, long, wide) in
              let right = get_right (closed before) (code.Falls ∷ (closed inside ++ tail)) k (suc (length (closed inside) + suc j)) s e at in
              let further = get_right (closed inside) tail (length (closed inside) + suc j) (suc j) s refl right in
              absurd (outside k p s b x (λ l c to. spared_behind behind l j s (behind_spares l c) further to) run (λ e. omega (arith, e, gt, to_last)) way)
          by b s way at x (inr le) (inr within) = near (cases_lt n k)
            where
              near : (n < k) ⊎ (k ≤ n) → IsInRun (suc n) last k ⊎ (k ≡ n)
              near (inl gt) = inl (record { from = omega (arith, gt); to = within })
              near (inr ge) = inr (omega (arith, le, ge))

      is_loop : IsLoop d.word r n (suc n) last
      is_loop =
          let k = closed_long before in let j = closed_long inside in
          let falls_in = block_there (closed before ++ (code.Falls ∷ (closed inside ++ tail))) r.blocks ends n code.Falls
          (put_right (closed before) (code.Falls ∷ (closed inside ++ tail)) n 0 code.Falls (omega (arith, k)) refl) in
          let goes_back = block_there (closed before ++ (code.Falls ∷ (closed inside ++ tail))) r.blocks ends last back
          (put_right (closed before) (code.Falls ∷ (closed inside ++ tail)) last (suc (length (closed inside))) back (omega (arith, k, j))
          (put_right (closed inside) tail (length (closed inside)) 0 back (omega arith) refl)) in
          let first_there : slice_get (labels_in r.blocks) (suc n) ≡ Some first =
          subst (λ (ls : List ℕ). slice_get ls (suc n) ≡ Some first) (sym labels)
          (put_right (label ∷ opened before) ((first ∷ opened inside) ++ (next ∷ opened behind)) (suc n) 0 first (omega arith) refl) in
          let most : times first (labels_in r.blocks) ≤ 1 = subst (λ (ls : List ℕ). times first ls ≤ 1) (sym made.labels) (once first) in
          let counted : 0 + suc n ≡ suc n = omega arith in
          let at : position r.blocks first 0 ≡ suc n = placed r.blocks first 0 (suc n) first_there most ∙ counted in
          record {
            order = omega arith;
            last_is_block = blocks_long;
            back = subst (λ (o : Option BasicBlock). Contains (successors_at d.word r.blocks last o) (suc n)) (sym goes_back.1)
                (leads_back r.blocks last first back goes_back.0.exit (suc n) goes_back.2 to_first at);
            just_before = refl;
            falls = falls_in;
            only_entry = enters;
          }

  pub built_has : (label : ℕ) (before inside behind : List Op) (first : ℕ) (back : Stop) (next : ℕ) (os : List Op) (c : Code) → AreOnce (label ∷ opened os)
      → HasLoop os before inside behind first back next → IsBuilt d m label os c → IsLoop d.word (routine_of c) (ended before) (suc (ended before)) (suc (ended before) + ended inside)
  built_has label before inside behind first back next os c once h built =
      is_loop label before inside behind first back next (routine_of c)
      (are_made label (all label before inside behind first back next (routine_of c)) c (subst (λ (xs : List Op). IsBuilt d m label xs c) h.stands built))
      (subst (λ (xs : List Op). AreOnce (label ∷ opened xs)) h.stands once) h.leads_back h.before_spares h.behind_spares
