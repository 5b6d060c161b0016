-- One look at a block, and the marks of those that wait.
use Rattle.std.proofs.Common.{◌≡◌, ◌⊎◌, inl, inr, ℕ, zero, suc, ◌+◌, ◌<◌, ◌≤◌, Bool, true, false, List, [], ◌∷◌, length, Option, Some, refl, sym, ap, subst, ◌∙◌, arith}
use Rattle.std.specs.Prelude.{◌&&◌, slice_get, slice_set, Contains}
use Rattle.std.specs.List.{list_any}
use Rattle.std.proofs.lemmas.Bool.{both_ways, cases_eq, or_parts}
use Rattle.std.proofs.lemmas.Option.{same_Some, none-some, slice_get_within}
use Rattle.std.proofs.lemmas.List.{get_or-set_same, get_or-set_other}
use Rattle.rtl_tree.specs.declared.cells.Cell.{Cell}
use Rattle.rtl_tree.specs.Moves.{Move}
use Rattle.rtl_tree.specs.Sets.{CellBits, has_cell}
use Rattle.temp_machine.specs.Routines.{Exit, Falls, Jumps, Branches, Calls, Returns, BasicBlock, Routine, Target, exit_transfers, block_transfers}
use Rattle.temp_machine.specs.Cells.{mentions, some_read, some_set}
use Rattle.temp_machine.specs.Flow.{successors}
use Rattle.temp_machine.specs.Live.{Transfer, End}
use Rattle.flow_blocks.specs.declared.flows.Flow.{Flow}
use Rattle.flow_blocks.specs.Flows.{IsFlow, previous_at}
use Rattle.flow_live.specs.declared.rows.Row.{Row}
use Rattle.flow_live.specs.Rows.{Becomes, bits_in, is_held, weight}
use Rattle.flow_live.specs.Walks.{HasLowFlags, is_high_flag, block_dead, dead_in, dead_at, dead_behind}
use Rattle.flow_live.specs.Settled.{HaveWords, IsClosedAt, AreClosed, LooksAt, is_waiting, total}
use Rattle.flow_live.proofs.Items.{IsLow}
use Rattle.flow_live.proofs.Walking.{AreLow}
use Rattle.flow_live.proofs.Same.{body_same}
use Rattle.flow_live.proofs.Closing.{KeepsNext, closed_here, closed_there, get_set_same, get_set_other}

-- the flags of a code are low

low_exit : (e : Exit) → list_any (mentions is_high_flag) (exit_transfers e) ≡ false → IsLow (End e)
low_exit Falls h = refl
low_exit (Jumps ms) h = (or_parts (some_read is_high_flag ms) (some_set is_high_flag ms) (or_parts (mentions is_high_flag ms) false h).0).1
low_exit (Branches ms) h = (or_parts (some_read is_high_flag ms) (some_set is_high_flag ms) (or_parts (mentions is_high_flag ms) false h).0).1
low_exit (Calls ms) h = (or_parts (some_read is_high_flag ms) (some_set is_high_flag ms) (or_parts (mentions is_high_flag ms) false h).0).1
low_exit Returns h = refl

low_items : (ms : List (List Move)) (e : Exit) → list_any (mentions is_high_flag) (block_transfers (record { label = 0; body = ms; exit = e })) ≡ false → AreLow ms e
low_items [] e h zero x at = subst IsLow (same_Some (End e) x at) (low_exit e h)
low_items [] e h (suc j) x at = absurd (none-some x at)
low_items (m ∷ ms) e h zero x at =
    subst IsLow (same_Some (Transfer m) x at)
    (or_parts (some_read is_high_flag m) (some_set is_high_flag m)
    (or_parts (mentions is_high_flag m) (list_any (mentions is_high_flag) (block_transfers (record { label = 0; body = ms; exit = e }))) h).0).1
low_items (m ∷ ms) e h (suc j) x at =
    low_items ms e (or_parts (mentions is_high_flag m) (list_any (mentions is_high_flag) (block_transfers (record { label = 0; body = ms; exit = e }))) h).1 j x at

low_at : (bs : List BasicBlock) (k : ℕ) (b : BasicBlock) → list_any (λ b. list_any (mentions is_high_flag) (block_transfers b)) bs ≡ false → slice_get bs k ≡ Some b
    → list_any (mentions is_high_flag) (block_transfers b) ≡ false
low_at [] k b h has = absurd (none-some b has)
low_at (c ∷ cs) zero b h has =
    subst (λ (x : BasicBlock). list_any (mentions is_high_flag) (block_transfers x) ≡ false) (same_Some c b has)
    (or_parts (list_any (mentions is_high_flag) (block_transfers c)) (list_any (λ b. list_any (mentions is_high_flag) (block_transfers b)) cs) h).0
low_at (c ∷ cs) (suc k) b h has =
    low_at cs k b (or_parts (list_any (mentions is_high_flag) (block_transfers c)) (list_any (λ b. list_any (mentions is_high_flag) (block_transfers b)) cs) h).1 has

pub low_block : (r : Routine) → HasLowFlags r → (k : ℕ) (b : BasicBlock) → slice_get r.blocks k ≡ Some b → AreLow b.body b.exit
low_block r low k b has = low_items b.body b.exit (low_at r.blocks k b low has)

-- the rows after a look

total_set : (rows : List Row) (i : ℕ) (old new : Row) → slice_get rows i ≡ Some old → total (slice_set rows i new) + weight (bits_in old) ≡ total rows + weight (bits_in new)
total_set [] i old new has = absurd (none-some old has)
total_set (x ∷ xs) zero old new has = let h : weight (bits_in x) ≡ weight (bits_in old) = ap (λ (z : Row). weight (bits_in z)) (same_Some x old has) in omega (arith, h)
total_set (x ∷ xs) (suc i) old new has = let h = total_set xs i old new has in omega (arith, h)

pub total_falls : (rows : List Row) (i : ℕ) (old new : Row) → slice_get rows i ≡ Some old → weight (bits_in new) < weight (bits_in old) → total (slice_set rows i new) < total rows
total_falls rows i old new has l = let h = total_set rows i old new has in omega (arith, h, l)

pub total_stays : (rows : List Row) (i : ℕ) (old new : Row) → slice_get rows i ≡ Some old → bits_in new ≡ bits_in old → total (slice_set rows i new) ≤ total rows
total_stays rows i old new has e = let h = total_set rows i old new has in let f : weight (bits_in new) ≡ weight (bits_in old) = ap weight e in omega (arith, h, f)

pub same_rows : (rows : List Row) (i : ℕ) (old new : Row) → slice_get rows i ≡ Some old → bits_in new ≡ bits_in old → (k : ℕ) (c : Cell) → dead_at (slice_set rows i new) k c ≡ dead_at rows k c
same_rows rows i old new has e k c = by (cases_eq k i)
  where
    by : (k ≡ i) ⊎ (k ≡ i → ⊥) → dead_at (slice_set rows i new) k c ≡ dead_at rows k c
    by (inl f) =
        ap (λ (j : ℕ). dead_at (slice_set rows i new) j c) f
        ∙ ap (λ (o : Option Row). dead_in o c) (get_set_same rows i new (slice_get_within rows i old has))
        ∙ ap (λ (s : CellBits). has_cell s c) e
        ∙ ap (λ (o : Option Row). dead_in o c) (sym has)
        ∙ ap (λ (j : ℕ). dead_at rows j c) (sym f)
    by (inr ne) = ap (λ (o : Option Row). dead_in o c) (get_set_other rows i k new ne)

module _ (t : Target) (r : Routine) (words : ℕ) where
  pub looked : (at : ℕ) (rows : List Row) (old new : Row) (b : BasicBlock) (s z u : CellBits) (ks : List ℕ) → slice_get rows at ≡ Some old → HaveWords words rows
      → length s.temps ≡ words → ks ≡ successors t.word r at → slice_get r.blocks at ≡ Some b
      → Becomes (dead_behind t r rows ks) s z → Becomes (block_dead t r b (has_cell z)) z u
      → Becomes (λ c. has_cell (bits_in old) c && has_cell u c) (bits_in old) (bits_in new) → LooksAt t r words at rows (slice_set rows at new)
  looked at rows old new b s z u ks has_row sized size next has behind walk keep = record { others = λ k ne. get_set_other rows at k new ne; sized = sizes; here = here }
    where
      held : (n : ℕ) → n ≡ words → (c : Cell) → is_held words c ≡ true → is_held n c ≡ true
      held n e c h = subst (λ (m : ℕ). is_held m c ≡ true) (sym e) h

      sizes : HaveWords words (slice_set rows at new)
      sizes k row e = by (cases_eq k at)
        where
          by : (k ≡ at) ⊎ (k ≡ at → ⊥) → length row.temporaries.items ≡ words
          by (inl f) =
              subst (λ (x : Row). length x.temporaries.items ≡ words)
              (same_Some new row (sym (get_set_same rows at new (slice_get_within rows at old has_row)) ∙ ap (slice_get (slice_set rows at new)) (sym f) ∙ e))
              (keep.words ∙ sized at old has_row)
          by (inr ne) = sized k row (sym (get_set_other rows at k new ne) ∙ e)

      walked : (c : Cell) → is_held words c ≡ true → has_cell u c ≡ block_dead t r b (dead_behind t r rows (successors t.word r at)) c
      walked c h =
          walk.cells c (held (length z.temps) (behind.words ∙ size) c h)
          ∙ body_same t r words b.body b.exit (has_cell z) (dead_behind t r rows ks) (λ x g. behind.cells x (held (length s.temps) size x g)) c h
          ∙ ap (λ (js : List ℕ). block_dead t r b (dead_behind t r rows js) c) next

      here : (x : BasicBlock) (c : Cell) → slice_get r.blocks at ≡ Some x → is_held words c ≡ true
          → dead_at (slice_set rows at new) at c ≡ (dead_at rows at c && block_dead t r x (dead_behind t r rows (successors t.word r at)) c)
      here x c has_x h =
          ap (λ (o : Option Row). dead_in o c) (get_set_same rows at new (slice_get_within rows at old has_row))
          ∙ keep.cells c (held (length old.temporaries.items) (sized at old has_row) c h)
          ∙ ap (λ (v : Bool). v && has_cell u c) (ap (λ (o : Option Row). dead_in o c) (sym has_row))
          ∙ ap (λ (v : Bool). dead_at rows at c && v) (walked c h)
          ∙ ap (λ (y : BasicBlock). dead_at rows at c && block_dead t r y (dead_behind t r rows (successors t.word r at)) c) (same_Some b x (sym has ∙ has_x))

  pub closed_step : (old new : List Row) (at : ℕ) (before after : List Bool) → LooksAt t r words at old new
      → ((j : ℕ) → j < length r.blocks → is_waiting after j ≡ false → KeepsNext t r words old new j × ((is_waiting before j ≡ false) ⊎ (j ≡ at)))
      → AreClosed t r words old before → AreClosed t r words new after
  closed_step old new at before after looks marks closed j l e = by (cases_eq j at)
    where
      other : (j ≡ at → ⊥) → (is_waiting before j ≡ false) ⊎ (j ≡ at) → is_waiting before j ≡ false
      other ne (inl h) = h
      other ne (inr h) = absurd (ne h)

      by : (j ≡ at) ⊎ (j ≡ at → ⊥) → IsClosedAt t r words new j
      by (inl f) = subst (IsClosedAt t r words new) (sym f) (closed_here t r words old new at looks (subst (KeepsNext t r words old new) f (marks j l e).0))
      by (inr ne) = closed_there t r words old new at j ne looks (marks j l e).0 (closed j l (other ne (marks j l e).1))

  -- where nothing fell out, all rows are the same
  pub still_keeps : (old new : List Row) → ((k : ℕ) (c : Cell) → dead_at new k c ≡ dead_at old k c) → (j : ℕ) → KeepsNext t r words old new j
  still_keeps old new same j k c h has = same k c

  -- a block that doesn't wait has no successor whose row changed
  pub fell_keeps : (old new : List Row) (at : ℕ) (f : Flow) (after : List Bool) → LooksAt t r words at old new → IsFlow t.word r f → at < length r.blocks
      → length after ≡ length r.blocks → ((k : ℕ) → k < length after → Contains (previous_at f at) k → is_waiting after k ≡ true)
      → (j : ℕ) → j < length r.blocks → is_waiting after j ≡ false → KeepsNext t r words old new j
  fell_keeps old new at f after looks flow l long set j m e k c h has = by (cases_eq k at)
    where
      by : (k ≡ at) ⊎ (k ≡ at → ⊥) → dead_at new k c ≡ dead_at old k c
      by (inl same) =
          absurd (both_ways (is_waiting after j) e
          (set j (omega (arith, m, long)) ((flow.previous at j l).1 (subst (Contains (successors t.word r j)) same has))))
      by (inr ne) = ap (λ (o : Option Row). dead_in o c) (looks.others k ne)

-- marks

pub waiting_less : (ws : List Bool) (at j : ℕ) → is_waiting (slice_set ws at false) j ≡ false → (is_waiting ws j ≡ false) ⊎ (j ≡ at)
waiting_less ws at j e = by (cases_eq j at)
  where
    by : (j ≡ at) ⊎ (j ≡ at → ⊥) → (is_waiting ws j ≡ false) ⊎ (j ≡ at)
    by (inl f) = inr f
    by (inr ne) = inl (sym (get_or-set_other ws at j false false ne) ∙ e)

pub waiting_not : (ws : List Bool) (at j : ℕ) → at < length ws → (is_waiting ws j ≡ false) ⊎ (j ≡ at) → is_waiting (slice_set ws at false) j ≡ false
waiting_not ws at j l h = by (cases_eq j at) h
  where
    by : (j ≡ at) ⊎ (j ≡ at → ⊥) → (is_waiting ws j ≡ false) ⊎ (j ≡ at) → is_waiting (slice_set ws at false) j ≡ false
    by (inl f) g = ap (is_waiting (slice_set ws at false)) f ∙ get_or-set_same ws at false false l
    by (inr ne) (inl g) = get_or-set_other ws at j false false ne ∙ g
    by (inr ne) (inr g) = absurd (ne g)
