-- Code that operations come to: what is live at most at each of its places.
use Rattle.std.proofs.Common.{◌≡◌, ◌⊎◌, inl, inr, ℕ, List, [], ◌∷◌, ◌++◌, map, Option, Some, None, sym, ap, ◌∙◌, subst}
use Rattle.std.proofs.lemmas.List.{append_assoc, append-nil}
use Rattle.rtl_tree.specs.Moves.{Move}
use Rattle.md_rows.specs.declared.description.RawDescription.{RawDescription}
use Rattle.md_shapes.specs.Shapes.{Frame}
use Rattle.md_check.specs.Checking.{IsChecked}
use Rattle.temp_machine.specs.Routines.{Exit, Falls, Jumps, Branches, Calls, Returns, BasicBlock}
use Rattle.temp_machine.specs.Flow.{label_of}
use Rattle.temp_code.specs.declared.code.Transfer.{Transfer}
use Rattle.temp_code.specs.declared.code.End.{End}
use Rattle.temp_code.specs.declared.code.End.TheVariants.{Return}
use Rattle.temp_code.specs.declared.code.Block.{Block}
use Rattle.temp_code.specs.Routines.{exit_of, block_of}
use Rattle.naive_code.specs.Operations.{Stop, Op}
use Rattle.naive_run.specs.Standing.{Shaped}
use Rattle.naive_builder.specs.Appending.{Emitted, with_transfers, with_end, AllMade, IsEnd, falls, jumps, branches, branches_by_flag, calls, leaves, AppendsOne, puts, closes, Appends, nothing, one_more}
use Rattle.naive_builder.specs.Finished.{finished}
use Rattle.naive_live.specs.Live.{Within, AreApart, Stops, Passes, Lives}
use Rattle.naive_live.proofs.Lists.{within_then, apart_within}
use Rattle.naive_live.proofs.Naming.{passes_apart}
use Rattle.naive_homes.proofs.Transfers.{AreLaws, IsQuiet, IsHeld, TransferLives, BranchLives, CompareLives, made_lives, jump_quiet, call_quiet, jump_goes, branch_lives, flag_branch_lives, compare_lives}
use Rattle.naive_homes.proofs.Ways.{made, ways_live}

module _ (depth : ℕ → Option ℕ) (scalars : ℕ) (env : ℕ → List ℕ) (bits : ℕ) where
  -- the end of a block, where a flag may have been set for it, and what is live where the next block begins
  abbrev pub ExitLives : Option ℕ → List ℕ → Exit → List ℕ → Type 0
  ExitLives flag live Falls next = Within next live
  ExitLives flag live (Jumps ms) next = IsQuiet ms × (l : ℕ) × (label_of bits ms ≡ Some l) × Within (env l) live
  ExitLives flag live (Branches ms) next = (l : ℕ) × BranchLives depth scalars env bits flag live l ms × Within (env l) live × Within next live
  ExitLives flag live (Calls ms) next = IsQuiet ms × Within next live
  ExitLives flag live Returns next = Unit {0}

  pub record BodyLives (kept behind : List ℕ) (ms : List Move) : Type 0 where
    pub apart : AreApart depth behind
    pub transfer : TransferLives depth scalars env kept behind ms

  -- what is left of a block: transfers and its end; the last one may be a comparison for the end
  abbrev pub RestLives : Option ℕ → List ℕ → List (List Move) → Exit → List ℕ → Type 0
  RestLives flag live [] e next = ExitLives flag live e next
  RestLives None live (ms ∷ rest) e next =
      (kept : List ℕ) × Within kept live
      × (((behind : List ℕ) × BodyLives kept behind ms × RestLives None behind rest e next)
      ⊎ ((j : ℕ) × CompareLives depth scalars env j kept ms × RestLives (Some j) kept rest e next))
  RestLives (Some j) live (ms ∷ rest) e next = ⊥

  abbrev pub start_of : List BasicBlock → List ℕ
  start_of [] = []
  start_of (b ∷ bs) = env b.label

  abbrev pub Chain : List BasicBlock → Type 0
  Chain [] = Unit {0}
  Chain (b ∷ bs) = AreApart depth (env b.label) × RestLives None (env b.label) b.body b.exit (start_of bs) × Chain bs

  -- where more is live

  exit_wider : (xs ys : List ℕ) (e : Exit) (next : List ℕ) → Within xs ys → ExitLives None xs e next → ExitLives None ys e next
  exit_wider xs ys Falls next w h = within_then next xs ys h w
  exit_wider xs ys (Jumps ms) next w h = (h.0, h.1, h.2, within_then (env h.1) xs ys h.3 w)
  exit_wider xs ys (Branches ms) next w h =
      (h.0, record { read = λ i e. more i (h.1.read i e); unset = h.1.unset; flag_read = h.1.flag_read; goes = h.1.goes }, within_then (env h.0) xs ys h.2 w, within_then next xs ys h.3 w)
    where
      more : (i : ℕ) → IsHeld depth scalars env xs i → IsHeld depth scalars env ys i
      more i (inl lt) = inl lt
      more i (inr k) = inr (w i k)
  exit_wider xs ys (Calls ms) next w h = (h.0, within_then next xs ys h.1 w)
  exit_wider xs ys Returns next w h = tt

  pub rest_wider : (rest : List (List Move)) (xs ys : List ℕ) (e : Exit) (next : List ℕ) → Within xs ys → RestLives None xs rest e next → RestLives None ys rest e next
  rest_wider [] xs ys e next w h = exit_wider xs ys e next w h
  rest_wider (ms ∷ rest) xs ys e next w h = (h.0, within_then h.0 xs ys h.1 w, h.2)

-- ---- blocks that begin with those that are emitted, and go on with one that begins as the open one

abbrev block_with : ℕ → End → List Transfer → Block
block_with l e ts = record { label = l; body = ts; end = e }

pub record GoesOn (bs : List Block) (s : Emitted) : Type 0 where
  pub more : List Transfer
  pub end : End
  pub rest : List Block
  pub is : bs ≡ s.blocks ++ (record { label = s.label; body = s.body ++ more; end = end } ∷ rest)

abbrev at_finish : (s : Emitted) → GoesOn (finished s) s
at_finish s = record {
  more = [];
  end = Return;
  rest = [];
  is = ap (λ (ts : List Transfer). s.blocks ++ (block_with s.label Return ts ∷ [])) (sym (append-nil s.body));
}

abbrev before_puts : (bs : List Block) (s : Emitted) (ts : List Transfer) → GoesOn bs (with_transfers s ts) → GoesOn bs s
before_puts bs s ts h = record {
  more = ts ++ h.more;
  end = h.end;
  rest = h.rest;
  is = h.is ∙ ap (λ (xs : List Transfer). s.blocks ++ (block_with s.label h.end xs ∷ h.rest)) (append_assoc s.body ts h.more);
}

abbrev before_closes : (bs : List Block) (s : Emitted) (ts : List Transfer) (e : End) (l : ℕ) → GoesOn bs (with_end (with_transfers s ts) e l) → GoesOn bs s
before_closes bs s ts e l h = record {
  more = ts;
  end = e;
  rest = block_with l h.end h.more ∷ h.rest;
  is = h.is ∙ append_assoc s.blocks (block_with s.label e (s.body ++ ts) ∷ []) (block_with l h.end h.more ∷ h.rest);
}

module _ (laws : AreLaws) (w : ℕ) (d : RawDescription) (m : Frame) (checked : IsChecked w d) (depth : ℕ → Option ℕ) (scalars : ℕ) (env : ℕ → List ℕ) where
  abbrev Rest : List ℕ → List (List Move) → Exit → List ℕ → Type 0
  Rest = RestLives depth scalars env d.word None

  abbrev moves_of : List Transfer → List (List Move)
  moves_of ts = map (λ t. t.what) ts

  -- transfers that were put into a block
  put_live : (way : List Shaped) (ts : List Transfer) (live behind : List ℕ) (rest : List Transfer) (e : Exit) (next : List ℕ) → AllMade d m way ts → AreApart depth live
      → Lives depth scalars env live (map made way) behind → Rest behind (moves_of rest) e next → Rest live (moves_of (ts ++ rest)) e next
  put_live [] [] live behind rest e next h a k r = rest_wider depth scalars env d.word (moves_of rest) behind live e next k r
  put_live (s ∷ way) (t ∷ ts) live behind rest e next h a k r =
      let before = apart_within depth k.0 live k.1 a in
      let after = passes_apart depth scalars env (made s) k.0 k.2 before k.3 in (
        k.0,
        k.1,
        inl (
          k.2,
          record {
            apart = after;
            transfer = made_lives depth scalars env laws w d m checked s.pattern s.at t k.0 k.2 h.1.transfer before after k.3;
          },
          put_live way ts k.2 behind rest e next h.2 after k.4 r,
        ),
      )
  put_live [] (t ∷ ts) live behind rest e next h a k r = absurd h
  put_live (s ∷ way) [] live behind rest e next h a k r = absurd h

  -- the end of a block
  end_lives : (stop : Stop) (ts : List Transfer) (e : End) (kept live next : List ℕ) → IsEnd d m stop ts e → Within kept live → Stops depth scalars env kept stop next
      → Rest live (moves_of ts) (exit_of e) next
  end_lives _ _ _ kept live next falls within h = within_then next kept live h within
  end_lives _ _ _ kept live next (jumps l t is) within h =
      (jump_quiet depth scalars env laws w d m checked l t is.transfer, l, jump_goes depth scalars env laws w d m checked l t is.transfer, within_then (env l) kept live h within)
  end_lives _ _ _ kept live next (branches r a b l t is) within h =
      exit_wider depth scalars env d.word kept live (Branches t.what) next within
      (l, branch_lives depth scalars env laws w d m checked r a b l t kept is.transfer h.0 h.1, h.2, h.3)
  end_lives _ _ _ kept live next (branches_by_flag r a b l j compare jump is by) within h = (
    kept,
    within,
    inr (
      j,
      compare_lives depth scalars env laws w d m checked a b l j compare kept is.transfer h.0 h.1,
      (l, flag_branch_lives depth scalars env laws w d m checked r a b l j jump kept by.transfer, h.2, h.3),
    ),
  )
  end_lives _ _ _ kept live next (calls f t is) within h = (call_quiet depth scalars env laws w d m checked f t is.transfer, within_then next kept live h within)
  end_lives _ _ _ kept live next leaves within h = tt

  -- from what is emitted so far on, the finished code lives
  pub record Remains (u s : Emitted) (live : List ℕ) : Type 0 where
    pub within : GoesOn (finished u) s
    pub opens : Rest live (moves_of within.more) (exit_of within.end) (start_of depth scalars env d.word (map block_of within.rest))
    pub chain : Chain depth scalars env d.word (map block_of within.rest)

  -- before one more operation
  one_remains : (u s t : Emitted) (o : Op) (kept live next : List ℕ) → AppendsOne d m s o t → Within kept live → AreApart depth kept → Passes depth scalars env kept o next
      → Remains u t next → Remains u s live
  one_remains u _ _ _ kept live next (puts s o way ts among all) w a p r = record {
    within = before_puts (finished u) s ts r.within;
    opens =
        rest_wider depth scalars env d.word (moves_of (ts ++ r.within.more)) kept live (exit_of r.within.end) (start_of depth scalars env d.word (map block_of r.within.rest)) w
        (put_live way ts kept next r.within.more (exit_of r.within.end) (start_of depth scalars env d.word (map block_of r.within.rest)) all a
        (ways_live depth scalars env d.word o kept next p way among) r.opens);
    chain = r.chain;
  }
  one_remains u _ _ _ kept live next (closes s stop l ts e end) w a p r = record {
    within = before_closes (finished u) s ts e l r.within;
    opens = subst (λ (xs : List ℕ). Rest live (moves_of ts) (exit_of e) xs) p.0 (end_lives stop ts e kept live next end w p.2);
    chain = (
      subst (AreApart depth) p.0 p.1,
      subst (λ (xs : List ℕ). Rest xs (moves_of r.within.more) (exit_of r.within.end) (start_of depth scalars env d.word (map block_of r.within.rest))) p.0 r.opens,
      r.chain,
    );
  }

  pub remains : (s u : Emitted) (os : List Op) (live behind : List ℕ) → Appends d m s os u → AreApart depth live → Lives depth scalars env live os behind → Remains u s live
  remains _ _ _ live behind (nothing s) a h = record { within = at_finish s; opens = tt; chain = tt }
  remains _ _ _ live behind (one_more s t u o os one rest) a h =
      let before = apart_within depth h.0 live h.1 a in
      one_remains u s t o h.0 live h.2 one h.1 before h.3 (remains t u os h.2 behind rest (passes_apart depth scalars env o h.0 h.2 before h.3) h.4)
