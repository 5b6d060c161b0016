-- Rows of the begins of blocks, on the way to liveness.
use Rattle.std.proofs.Common.{◌≡◌, ◌≢◌, ◌⊎◌, inl, inr, ℕ, zero, suc, ◌<◌, Bool, true, false, not, List, [], ◌∷◌, length, Option, Some, refl, sym, ap, subst, ◌∙◌, arith}
use Rattle.std.specs.Prelude.{◌&&◌, slice_get, slice_set, Contains}
use Rattle.std.proofs.lemmas.Bool.{true≢false, and_parts, and_cases, not-false, cases_eq}
use Rattle.std.proofs.lemmas.Option.{slice_get_within}
use Rattle.rtl_tree.specs.declared.cells.Cell.{Cell}
use Rattle.rtl_tree.specs.Moves.{Move}
use Rattle.rtl_tree.specs.Sets.{has_cell}
use Rattle.temp_machine.specs.Routines.{Exit, BasicBlock, Routine, Target}
use Rattle.temp_machine.specs.Flow.{successors}
use Rattle.temp_machine.specs.Live.{End, item_in, item_at, is_always_live, IsNext, across, IsLive, always, IsLiveAfter}
use Rattle.flow_live.specs.declared.rows.Row.{Row}
use Rattle.flow_live.specs.Rows.{bits_in, is_held}
use Rattle.flow_live.specs.Walks.{block_dead, dead_in, dead_at, dead_at_all, dead_behind}
use Rattle.flow_live.specs.Settled.{AreSound, IsClosedAt, AreBegins, LooksAt}
use Rattle.flow_live.proofs.Walking.{AreLow, place, live_in_block, dead_at_begin, item_at_block}
use Rattle.flow_live.proofs.Same.{body_same}

-- a row put in a list

pub get_set_same : {A : Type 0} (xs : List A) (i : ℕ) (y : A) → i < length xs → slice_get (slice_set xs i y) i ≡ Some y
get_set_same [] i y l = absurd (omega (arith, l))
get_set_same (x ∷ xs) zero y l = refl
get_set_same (x ∷ xs) (suc i) y l = get_set_same xs i y (omega (arith, l))

pub get_set_other : {A : Type 0} (xs : List A) (i k : ℕ) (y : A) → k ≢ i → slice_get (slice_set xs i y) k ≡ slice_get xs k
get_set_other [] i k y ne = refl
get_set_other (x ∷ xs) zero zero y ne = absurd (ne refl)
get_set_other (x ∷ xs) zero (suc k) y ne = refl
get_set_other (x ∷ xs) (suc i) zero y ne = refl
get_set_other (x ∷ xs) (suc i) (suc k) y ne = get_set_other xs i k y (λ e. ne (ap suc e))

pub some_at : {A : Type 0} (xs : List A) (i : ℕ) → i < length xs → (x : A) × (slice_get xs i ≡ Some x)
some_at [] i l = absurd (omega (arith, l))
some_at (x ∷ xs) zero l = (x, refl)
some_at (x ∷ xs) (suc i) l = some_at xs i (omega (arith, l))

pub end_of_body : (ms : List (List Move)) (e : Exit) → item_in ms e (length ms) ≡ Some (End e)
end_of_body [] e = refl
end_of_body (m ∷ ms) e = end_of_body ms e

module _ (t : Target) (r : Routine) (words : ℕ) where
  -- what isn't dead behind a block, by rows in which all that isn't dead is live, is live there

  abbrev OneNotDead : List Row → List ℕ → Cell → Type 0
  OneNotDead rows ks c = (k : ℕ) × Contains ks k × (dead_at rows k c ≡ false)

  one_by : (rows : List Row) (k : ℕ) (ks : List ℕ) (c : Cell) → (dead_at_all rows ks c ≡ false → OneNotDead rows ks c)
      → (dead_at_all rows ks c ≡ false) ⊎ (dead_at rows k c ≡ false) → OneNotDead rows (k ∷ ks) c
  one_by rows k ks c rest (inl h) =
      let found = rest h in
      (found.0, (suc found.1.0, (let l = found.1.1 in omega (arith, l)), found.1.2), found.2)
  one_by rows k ks c rest (inr h) = (k, (0, omega arith, refl), h)

  one_not_dead : (rows : List Row) (ks : List ℕ) (c : Cell) → dead_at_all rows ks c ≡ false → OneNotDead rows ks c
  one_not_dead rows [] c e = absurd (true≢false e)
  one_not_dead rows (k ∷ ks) c e = one_by rows k ks c (λ h. one_not_dead rows ks c h) (and_cases (dead_at_all rows ks c) (dead_at rows k c) e)

  pub live_behind : (rows : List Row) → AreSound t r words rows → (k : ℕ) (b : BasicBlock) → slice_get r.blocks k ≡ Some b
      → (c : Cell) → is_held words c ≡ true → dead_behind t r rows (successors t.word r k) c ≡ false → IsLiveAfter t r c (place k (length b.body))
  live_behind rows sound k b has c h e = by (successors t.word r k) refl e
    where
      item : item_at r (place k (length b.body)) ≡ Some (End b.exit)
      item = item_at_block t r k b has (length b.body) ∙ end_of_body b.body b.exit

      goes : (to : ℕ) → Contains (successors t.word r k) to → IsNext t.word r (place k (length b.body)) (place to 0)
      goes to c = across k (length b.body) to b.exit item c

      by : (ks : List ℕ) → successors t.word r k ≡ ks → dead_behind t r rows ks c ≡ false → IsLiveAfter t r c (place k (length b.body))
      by [] f g = absurd (true≢false g)
      by (j ∷ ks) f g = at (and_cases (dead_at_all rows (j ∷ ks) c) (not (is_always_live t r c)) g)
        where
          to_next : (n : ℕ) → Contains (j ∷ ks) n → IsLive t r c (place n 0) → IsLiveAfter t r c (place k (length b.body))
          to_next n has live = record { next = place n 0; goes = goes n (subst (λ (xs : List ℕ). Contains xs n) (sym f) has); live = live }

          at : (dead_at_all rows (j ∷ ks) c ≡ false) ⊎ (not (is_always_live t r c) ≡ false) → IsLiveAfter t r c (place k (length b.body))
          at (inl v) = let found = one_not_dead rows (j ∷ ks) c v in to_next found.0 found.1 (sound found.0 c h found.2)
          at (inr v) = to_next j (0, omega arith, refl) (always (not-false (is_always_live t r c) v))

  -- a look at a block keeps what is sound

  pub sound_look : (old new : List Row) (at : ℕ) (b : BasicBlock) → slice_get r.blocks at ≡ Some b → AreLow b.body b.exit
      → LooksAt t r words at old new → AreSound t r words old → AreSound t r words new
  sound_look old new at b has low looks sound k c h e = by (cases_eq k at)
    where
      here : (dead_at old at c ≡ false) ⊎ (block_dead t r b (dead_behind t r old (successors t.word r at)) c ≡ false) → IsLive t r c (place at 0)
      here (inl v) = sound at c h v
      here (inr v) = live_in_block t r words at b (dead_behind t r old (successors t.word r at)) has low (live_behind old sound at b has) c h v

      by : (k ≡ at) ⊎ (k ≡ at → ⊥) → IsLive t r c (place k 0)
      by (inl f) = subst (λ (j : ℕ). IsLive t r c (place j 0)) (sym f)
          (here (and_cases (dead_at old at c) (block_dead t r b (dead_behind t r old (successors t.word r at)) c)
          (sym (looks.here b c has h) ∙ subst (λ (j : ℕ). dead_at new j c ≡ false) f e)))
      by (inr f) = sound k c h (sym (ap (λ (o : Option Row). dead_in o c) (looks.others k f)) ∙ e)

  -- and closes its row, while the others stay closed whose successors keep their rows

  all_same : (old new : List Row) (ks : List ℕ) (c : Cell) → ((k : ℕ) → Contains ks k → dead_at new k c ≡ dead_at old k c) → dead_at_all new ks c ≡ dead_at_all old ks c
  all_same old new [] c same = refl
  all_same old new (k ∷ ks) c same =
      ap (λ (b : Bool). b && dead_at new k c) (all_same old new ks c (λ j has. same j (suc has.0, (let l = has.1 in omega (arith, l)), has.2)))
      ∙ ap (λ (b : Bool). dead_at_all old ks c && b) (same k (0, omega arith, refl))

  behind_same : (old new : List Row) (ks : List ℕ) (c : Cell) → ((k : ℕ) → Contains ks k → dead_at new k c ≡ dead_at old k c) → dead_behind t r new ks c ≡ dead_behind t r old ks c
  behind_same old new [] c same = refl
  behind_same old new (k ∷ ks) c same = ap (λ (b : Bool). b && not (is_always_live t r c)) (all_same old new (k ∷ ks) c same)

  -- the rows of a block's successors are the same
  abbrev pub KeepsNext : List Row → List Row → ℕ → Type 0
  KeepsNext old new j = (k : ℕ) (c : Cell) → is_held words c ≡ true → Contains (successors t.word r j) k → dead_at new k c ≡ dead_at old k c

  block_same : (old new : List Row) (j : ℕ) (b : BasicBlock) (c : Cell) → is_held words c ≡ true → KeepsNext old new j
      → block_dead t r b (dead_behind t r new (successors t.word r j)) c ≡ block_dead t r b (dead_behind t r old (successors t.word r j)) c
  block_same old new j b c h same =
      body_same t r words b.body b.exit (dead_behind t r new (successors t.word r j)) (dead_behind t r old (successors t.word r j))
      (λ x g. behind_same old new (successors t.word r j) x (λ k has. same k x g has)) c h

  pub closed_here : (old new : List Row) (at : ℕ) → LooksAt t r words at old new → KeepsNext old new at → IsClosedAt t r words new at
  closed_here old new at looks same b c has h e =
      block_same old new at b c h same
      ∙ (and_parts (dead_at old at c) (block_dead t r b (dead_behind t r old (successors t.word r at)) c) (sym (looks.here b c has h) ∙ e)).1

  pub closed_there : (old new : List Row) (at j : ℕ) → j ≢ at → LooksAt t r words at old new → KeepsNext old new j → IsClosedAt t r words old j → IsClosedAt t r words new j
  closed_there old new at j ne looks same closed b c has h e =
      block_same old new j b c h same ∙ closed b c has h (sym (ap (λ (o : Option Row). dead_in o c) (looks.others j ne)) ∙ e)

  -- rows that are closed and sound have what is dead

  pub begins_settled : (rows : List Row) → AreSound t r words rows → ((k : ℕ) → k < length r.blocks → IsClosedAt t r words rows k) → AreBegins t r words rows
  begins_settled rows sound closed k row l has = record { dead = dead; live = live }
    where
      all_closed : (j : ℕ) → IsClosedAt t r words rows j
      all_closed j b c at = closed j (slice_get_within r.blocks j b at) b c at

      row_is : (c : Cell) → dead_at rows k c ≡ has_cell (bits_in row) c
      row_is c = ap (λ (o : Option Row). dead_in o c) has

      dead : (c : Cell) → is_held words c ≡ true → has_cell (bits_in row) c ≡ true → IsLive t r c (place k 0) → ⊥
      dead c h e = let found = some_at r.blocks k l in dead_at_begin t r words rows all_closed k found.0 found.1 c h (row_is c ∙ e)

      live : (c : Cell) → is_held words c ≡ true → has_cell (bits_in row) c ≡ false → IsLive t r c (place k 0)
      live c h e = sound k c h (row_is c ∙ e)
