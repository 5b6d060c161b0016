-- What is dead before a transfer or an end, where it is known what is dead behind it.
use Rattle.std.proofs.Common.{◌≡◌, ◌⊎◌, inl, inr, ℕ, ◌<◌, Bool, true, false, not, List, [], ◌∷◌, Some, refl, sym, ap, subst, ◌∙◌}
use Rattle.std.specs.Prelude.{◌&&◌, ◌||◌, ◌==◌, nat_lt}
use Rattle.std.proofs.lemmas.Bool.{true≢false, false≢true, both_ways, not-true, not-false, and_parts, and_from, and_cases, and_left, and_right, or_cases, or_parts, or_from, or_left, or_right, not_from_true, not_from_false, eqb-true, eq-eqb, leb-false, lt-ltb, ltb-true, false_from_ne_true, cases_Bool}
use Rattle.std.proofs.lemmas.Option.{same_Some}
use Rattle.rtl_tree.specs.declared.cells.Cell.{Cell}
use Rattle.rtl_tree.specs.declared.cells.Cell.TheVariants.{Hard, Temp, Flag, Pc, Input, Output, Halt, Hole}
use Rattle.rtl_tree.specs.Moves.{Goal, ToCell, ToMemory, Move}
use Rattle.rtl_tree.specs.Same.{same_cell}
use Rattle.temp_machine.specs.Routines.{Falls, Jumps, Branches, Calls, Returns, Routine, Target}
use Rattle.temp_machine.specs.Cells.{is_flag, sets_by, some_set, sets, move_reads, reads_beside_flags, reads_for_flag}
use Rattle.temp_machine.specs.Live.{Place, Item, Transfer, End, item_at, is_always_live, is_lost_by_call, exit_reads, item_reads, item_reads_for, item_sets, IsRead, here, for_flag, later, IsLive, always, read, IsLiveAfter}
use Rattle.flow_live.specs.Rows.{is_held}
use Rattle.flow_live.specs.Walks.{is_high_flag, is_wanted, moves_read, item_takes, item_puts, item_dead}

-- the assignments of a transfer

-- a read for a flag that is live behind the transfer
pub record ForFlag (reads : ℕ → Bool) (flags : ℕ → Bool) : Type 0 where
  pub number : ℕ
  pub low : number < 8
  pub live : flags number ≡ false
  pub is_read : reads number ≡ true

same_number : (n : ℕ) → (n == n) ≡ true
same_number n = eq-eqb n n refl

goal_reads : (flags : ℕ → Bool) (g : Goal) (b : Bool) → sets_by is_high_flag g ≡ false → is_wanted flags g ≡ true → b ≡ true
    → ((not (sets_by is_flag g) && b) ≡ true) ⊎ ForFlag (λ n. sets_by (same_cell (Flag n)) g && b) flags
goal_reads flags (ToMemory w a) b low wanted e = inl e
goal_reads flags (ToCell (Hard n)) b low wanted e = inl e
goal_reads flags (ToCell (Temp n)) b low wanted e = inl e
goal_reads flags (ToCell (Flag n)) b low wanted e = inr (record {
  number = n;
  low = leb-false 8 n low;
  live = by (and_cases (nat_lt n 8) (flags n) (not-true (nat_lt n 8 && flags n) wanted));
  is_read = and_from (n == n) b (same_number n) e;
})
  where
    by : (nat_lt n 8 ≡ false) ⊎ (flags n ≡ false) → flags n ≡ false
    by (inl h) = absurd (both_ways (nat_lt n 8) h (lt-ltb n 8 (leb-false 8 n low)))
    by (inr h) = h
goal_reads flags (ToCell Pc) b low wanted e = inl e
goal_reads flags (ToCell Input) b low wanted e = inl e
goal_reads flags (ToCell Output) b low wanted e = inl e
goal_reads flags (ToCell Halt) b low wanted e = inl e
goal_reads flags (ToCell (Hole n)) b low wanted e = inl e

module _ (flags : ℕ → Bool) (c : Cell) where
  abbrev IsTaken : List Move → Type 0
  IsTaken ms = (reads_beside_flags c ms ≡ true) ⊎ ForFlag (λ n. reads_for_flag n c ms) flags

  taken_first : (m : Move) (ms : List Move) → ((not (sets_by is_flag m.to) && move_reads c m) ≡ true) ⊎ ForFlag (λ n. sets_by (same_cell (Flag n)) m.to && move_reads c m) flags
      → IsTaken (m ∷ ms)
  taken_first m ms (inl h) = inl (or_left (not (sets_by is_flag m.to) && move_reads c m) (reads_beside_flags c ms) h)
  taken_first m ms (inr f) = inr (record {
    number = f.number;
    low = f.low;
    live = f.live;
    is_read = or_left (sets_by (same_cell (Flag f.number)) m.to && move_reads c m) (reads_for_flag f.number c ms) f.is_read;
  })

  taken_rest : (m : Move) (ms : List Move) → IsTaken ms → IsTaken (m ∷ ms)
  taken_rest m ms (inl h) = inl (or_right (not (sets_by is_flag m.to) && move_reads c m) (reads_beside_flags c ms) h)
  taken_rest m ms (inr f) = inr (record {
    number = f.number;
    low = f.low;
    live = f.live;
    is_read = or_right (sets_by (same_cell (Flag f.number)) m.to && move_reads c m) (reads_for_flag f.number c ms) f.is_read;
  })

  taken_by : (m : Move) (ms : List Move) → sets_by is_high_flag m.to ≡ false → (moves_read flags c ms ≡ true → IsTaken ms)
      → ((is_wanted flags m.to && move_reads c m) ≡ true) ⊎ (moves_read flags c ms ≡ true) → IsTaken (m ∷ ms)
  taken_by m ms low rest (inl h) = let p = and_parts (is_wanted flags m.to) (move_reads c m) h in taken_first m ms (goal_reads flags m.to (move_reads c m) low p.0 p.1)
  taken_by m ms low rest (inr h) = taken_rest m ms (rest h)

  taken : (ms : List Move) → some_set is_high_flag ms ≡ false → moves_read flags c ms ≡ true → IsTaken ms
  taken [] low e = absurd (false≢true e)
  taken (m ∷ ms) low e =
      let p = or_parts (sets_by is_high_flag m.to) (some_set is_high_flag ms) low in
      taken_by m ms p.0 (λ h. taken ms p.1 h) (or_cases (is_wanted flags m.to && move_reads c m) (moves_read flags c ms) e)

beside_wanted : (flags : ℕ → Bool) (g : Goal) → not (sets_by is_flag g) ≡ true → is_wanted flags g ≡ true
beside_wanted flags (ToMemory w a) e = refl
beside_wanted flags (ToCell (Hard n)) e = refl
beside_wanted flags (ToCell (Temp n)) e = refl
beside_wanted flags (ToCell (Flag n)) e = absurd (false≢true e)
beside_wanted flags (ToCell Pc) e = refl
beside_wanted flags (ToCell Input) e = refl
beside_wanted flags (ToCell Output) e = refl
beside_wanted flags (ToCell Halt) e = refl
beside_wanted flags (ToCell (Hole n)) e = refl

beside_by : (flags : ℕ → Bool) (c : Cell) (m : Move) (ms : List Move) → (reads_beside_flags c ms ≡ true → moves_read flags c ms ≡ true)
    → ((not (sets_by is_flag m.to) && move_reads c m) ≡ true) ⊎ (reads_beside_flags c ms ≡ true) → moves_read flags c (m ∷ ms) ≡ true
beside_by flags c m ms rest (inl h) =
    let p = and_parts (not (sets_by is_flag m.to)) (move_reads c m) h in
    or_left (is_wanted flags m.to && move_reads c m) (moves_read flags c ms) (and_from (is_wanted flags m.to) (move_reads c m) (beside_wanted flags m.to p.0) p.1)
beside_by flags c m ms rest (inr h) = or_right (is_wanted flags m.to && move_reads c m) (moves_read flags c ms) (rest h)

takes_beside : (flags : ℕ → Bool) (c : Cell) (ms : List Move) → reads_beside_flags c ms ≡ true → moves_read flags c ms ≡ true
takes_beside flags c [] e = absurd (false≢true e)
takes_beside flags c (m ∷ ms) e = beside_by flags c m ms (λ h. takes_beside flags c ms h) (or_cases (not (sets_by is_flag m.to) && move_reads c m) (reads_beside_flags c ms) e)

flag_wanted : (flags : ℕ → Bool) (n : ℕ) (g : Goal) → (n < 8 → flags n ≡ false) → sets_by (same_cell (Flag n)) g ≡ true → is_wanted flags g ≡ true
flag_wanted flags n (ToMemory w a) f e = absurd (false≢true e)
flag_wanted flags n (ToCell (Hard k)) f e = absurd (false≢true e)
flag_wanted flags n (ToCell (Temp k)) f e = absurd (false≢true e)
flag_wanted flags n (ToCell (Flag k)) f e = not_from_false (nat_lt k 8 && flags k) (by (cases_Bool (nat_lt k 8)))
  where
    same : n ≡ k
    same = eqb-true n k e

    by : (nat_lt k 8 ≡ true) ⊎ (nat_lt k 8 ≡ false) → (nat_lt k 8 && flags k) ≡ false
    by (inl h) = and_right (nat_lt k 8) (flags k) (subst (λ (j : ℕ). flags j ≡ false) same (f (subst (λ (j : ℕ). j < 8) (sym same) (ltb-true k 8 h))))
    by (inr h) = and_left (nat_lt k 8) (flags k) h
flag_wanted flags n (ToCell Pc) f e = absurd (false≢true e)
flag_wanted flags n (ToCell Input) f e = absurd (false≢true e)
flag_wanted flags n (ToCell Output) f e = absurd (false≢true e)
flag_wanted flags n (ToCell Halt) f e = absurd (false≢true e)
flag_wanted flags n (ToCell (Hole k)) f e = absurd (false≢true e)

for_flag_by : (flags : ℕ → Bool) (n : ℕ) (c : Cell) (m : Move) (ms : List Move) → (n < 8 → flags n ≡ false) → (reads_for_flag n c ms ≡ true → moves_read flags c ms ≡ true)
    → ((sets_by (same_cell (Flag n)) m.to && move_reads c m) ≡ true) ⊎ (reads_for_flag n c ms ≡ true) → moves_read flags c (m ∷ ms) ≡ true
for_flag_by flags n c m ms f rest (inl h) =
    let p = and_parts (sets_by (same_cell (Flag n)) m.to) (move_reads c m) h in
    or_left (is_wanted flags m.to && move_reads c m) (moves_read flags c ms) (and_from (is_wanted flags m.to) (move_reads c m) (flag_wanted flags n m.to f p.0) p.1)
for_flag_by flags n c m ms f rest (inr h) = or_right (is_wanted flags m.to && move_reads c m) (moves_read flags c ms) (rest h)

takes_for_flag : (flags : ℕ → Bool) (n : ℕ) (c : Cell) (ms : List Move) → (n < 8 → flags n ≡ false) → reads_for_flag n c ms ≡ true → moves_read flags c ms ≡ true
takes_for_flag flags n c [] f e = absurd (false≢true e)
takes_for_flag flags n c (m ∷ ms) f e =
    for_flag_by flags n c m ms f (λ h. takes_for_flag flags n c ms f h) (or_cases (sets_by (same_cell (Flag n)) m.to && move_reads c m) (reads_for_flag n c ms) e)

-- items

abbrev pub moves_in : Item → List Move
moves_in (Transfer ms) = ms
moves_in (End Falls) = []
moves_in (End (Jumps ms)) = ms
moves_in (End (Branches ms)) = ms
moves_in (End (Calls ms)) = ms
moves_in (End Returns) = []

abbrev pub IsLow : Item → Type 0
IsLow x = some_set is_high_flag (moves_in x) ≡ false

none_for_flag : {A : Type 0} (reads : ℕ → Bool) → ForFlag reads (λ n. true) → A
none_for_flag reads f = absurd (true≢false f.live)

result_read : (t : Target) (c : Cell) → same_cell c (Hard t.result) ≡ true → exit_reads t Returns c ≡ true
result_read t (Hard n) e = e
result_read t (Temp n) e = e
result_read t (Flag n) e = e
result_read t Pc e = e
result_read t Input e = e
result_read t Output e = e
result_read t Halt e = e
result_read t (Hole n) e = e

read_result : (t : Target) (c : Cell) → exit_reads t Returns c ≡ true → same_cell c (Hard t.result) ≡ true
read_result t (Hard n) e = e
read_result t (Temp n) e = e
read_result t (Flag n) e = e
read_result t Pc e = e
read_result t Input e = e
read_result t Output e = e
read_result t Halt e = e
read_result t (Hole n) e = e

item_reading : (t : Target) (flags : ℕ → Bool) (x : Item) (c : Cell) → IsLow x → item_takes t flags x c ≡ true
    → (item_reads t c x ≡ true) ⊎ ForFlag (λ n. item_reads_for n c x) flags
item_reading t flags (Transfer ms) c low e = taken flags c ms low e
item_reading t flags (End Falls) c low e = absurd (false≢true e)
item_reading t flags (End (Jumps ms)) c low e = taken flags c ms low e
item_reading t flags (End (Branches ms)) c low e = taken flags c ms low e
item_reading t flags (End (Calls ms)) c low e = by (taken (λ n. true) c ms low e)
  where
    by : (reads_beside_flags c ms ≡ true) ⊎ ForFlag (λ n. reads_for_flag n c ms) (λ n. true)
        → (reads_beside_flags c ms ≡ true) ⊎ ForFlag (λ n. item_reads_for n c (End (Calls ms))) flags
    by (inl h) = inl h
    by (inr f) = none_for_flag (λ n. reads_for_flag n c ms) f
item_reading t flags (End Returns) c low e = inl (result_read t c e)

item_takes_read : (t : Target) (flags : ℕ → Bool) (x : Item) (c : Cell) → item_reads t c x ≡ true → item_takes t flags x c ≡ true
item_takes_read t flags (Transfer ms) c e = takes_beside flags c ms e
item_takes_read t flags (End Falls) c e = absurd (false≢true e)
item_takes_read t flags (End (Jumps ms)) c e = takes_beside flags c ms e
item_takes_read t flags (End (Branches ms)) c e = takes_beside flags c ms e
item_takes_read t flags (End (Calls ms)) c e = takes_beside (λ n. true) c ms e
item_takes_read t flags (End Returns) c e = read_result t c e

item_takes_for : (t : Target) (flags : ℕ → Bool) (n : ℕ) (x : Item) (c : Cell) → (n < 8 → flags n ≡ false) → item_reads_for n c x ≡ true → item_takes t flags x c ≡ true
item_takes_for t flags n (Transfer ms) c f e = takes_for_flag flags n c ms f e
item_takes_for t flags n (End Falls) c f e = absurd (false≢true e)
item_takes_for t flags n (End (Jumps ms)) c f e = takes_for_flag flags n c ms f e
item_takes_for t flags n (End (Branches ms)) c f e = takes_for_flag flags n c ms f e
item_takes_for t flags n (End (Calls ms)) c f e = absurd (false≢true e)
item_takes_for t flags n (End Returns) c f e = absurd (false≢true e)

sets_held : (words : ℕ) (c : Cell) (ms : List Move) → is_held words c ≡ true → some_set (same_cell c) ms ≡ sets c ms
sets_held words (Hard n) ms h = refl
sets_held words (Temp n) ms h = refl
sets_held words (Flag n) ms h = refl
sets_held words Pc ms h = absurd (false≢true h)
sets_held words Input ms h = absurd (false≢true h)
sets_held words Output ms h = absurd (false≢true h)
sets_held words Halt ms h = absurd (false≢true h)
sets_held words (Hole n) ms h = absurd (false≢true h)

puts_is_sets : (t : Target) (words : ℕ) (x : Item) (c : Cell) → is_held words c ≡ true → item_puts t x c ≡ item_sets t c x
puts_is_sets t words (Transfer ms) c h = sets_held words c ms h
puts_is_sets t words (End Falls) c h = refl
puts_is_sets t words (End (Jumps ms)) c h = sets_held words c ms h
puts_is_sets t words (End (Branches ms)) c h = sets_held words c ms h
puts_is_sets t words (End (Calls ms)) c h = ap (λ (b : Bool). b || is_lost_by_call t c) (sets_held words c ms h)
puts_is_sets t words (End Returns) c h = refl

pub held_flag : (words n : ℕ) → n < 8 → is_held words (Flag n) ≡ true
held_flag words n l = lt-ltb n 8 l

-- dead before an item

module _ (t : Target) (r : Routine) where
  pub item_kept : (x : Item) (d : Cell → Bool) (c : Cell) → d c ≡ false → item_puts t x c ≡ false → item_dead t r x d c ≡ false
  item_kept x d c e f =
      and_left (d c || item_puts t x c) (not (item_takes t (λ n. d (Flag n)) x c) && not (is_always_live t r c)) (or_from (d c) (item_puts t x c) e f)

  pub item_taken : (x : Item) (d : Cell → Bool) (c : Cell) → item_takes t (λ n. d (Flag n)) x c ≡ true → item_dead t r x d c ≡ false
  item_taken x d c e =
      and_right (d c || item_puts t x c) (not (item_takes t (λ n. d (Flag n)) x c) && not (is_always_live t r c))
      (and_left (not (item_takes t (λ n. d (Flag n)) x c)) (not (is_always_live t r c)) (not_from_true (item_takes t (λ n. d (Flag n)) x c) e))

  pub item_standing : (x : Item) (d : Cell → Bool) (c : Cell) → is_always_live t r c ≡ true → item_dead t r x d c ≡ false
  item_standing x d c e =
      and_right (d c || item_puts t x c) (not (item_takes t (λ n. d (Flag n)) x c) && not (is_always_live t r c))
      (and_right (not (item_takes t (λ n. d (Flag n)) x c)) (not (is_always_live t r c)) (not_from_true (is_always_live t r c) e))

  -- what is read is not dead
  pub read_here : (x : Item) (d : Cell → Bool) (c : Cell) → item_reads t c x ≡ true → item_dead t r x d c ≡ false
  read_here x d c e = item_taken x d c (item_takes_read t (λ n. d (Flag n)) x c e)

  pub read_for : (n : ℕ) (x : Item) (d : Cell → Bool) (c : Cell) → (n < 8 → d (Flag n) ≡ false) → item_reads_for n c x ≡ true → item_dead t r x d c ≡ false
  read_for n x d c f e = item_taken x d c (item_takes_for t (λ n. d (Flag n)) n x c f e)

  pub read_later : (words : ℕ) (x : Item) (d : Cell → Bool) (c : Cell) → is_held words c ≡ true → d c ≡ false → item_sets t c x ≡ false → item_dead t r x d c ≡ false
  read_later words x d c h e f = item_kept x d c e (puts_is_sets t words x c h ∙ f)

  -- what is not dead before an item is live there, where that holds behind it
  pub live_before : (words : ℕ) (p : Place) (x : Item) (d : Cell → Bool) → item_at r p ≡ Some x → IsLow x
      → ((c : Cell) → is_held words c ≡ true → d c ≡ false → IsLiveAfter t r c p)
      → (c : Cell) → is_held words c ≡ true → item_dead t r x d c ≡ false → IsLive t r c p
  live_before words p x d at low behind c h e =
      by (and_cases (d c || item_puts t x c) (not (item_takes t (λ n. d (Flag n)) x c) && not (is_always_live t r c)) e)
    where
      kept : item_sets t c x ≡ false → (a : IsLiveAfter t r c p) → IsLive t r c a.next → IsLive t r c p
      kept s a (always v) = always v
      kept s a (read i) = read (later c p a.next x at s a.goes i)

      flagged : (f : ForFlag (λ n. item_reads_for n c x) (λ n. d (Flag n))) (a : IsLiveAfter t r (Flag f.number) p) → IsLive t r (Flag f.number) a.next → IsLive t r c p
      flagged f a (always v) = absurd (false≢true v)
      flagged f a (read i) = read (for_flag c f.number p a.next x at f.is_read a.goes i)

      reading : (item_reads t c x ≡ true) ⊎ ForFlag (λ n. item_reads_for n c x) (λ n. d (Flag n)) → IsLive t r c p
      reading (inl v) = read (here c p x at v)
      reading (inr f) = let a = behind (Flag f.number) (held_flag words f.number f.low) f.live in flagged f a a.live

      second : (not (item_takes t (λ n. d (Flag n)) x c) ≡ false) ⊎ (not (is_always_live t r c) ≡ false) → IsLive t r c p
      second (inl v) = reading (item_reading t (λ n. d (Flag n)) x c low (not-false (item_takes t (λ n. d (Flag n)) x c) v))
      second (inr v) = always (not-false (is_always_live t r c) v)

      by : ((d c || item_puts t x c) ≡ false) ⊎ ((not (item_takes t (λ n. d (Flag n)) x c) && not (is_always_live t r c)) ≡ false) → IsLive t r c p
      by (inl v) =
          let q = or_parts (d c) (item_puts t x c) v in
          let a = behind c h q.0 in
          kept (sym (puts_is_sets t words x c h) ∙ q.1) a a.live
      by (inr v) = second (and_cases (not (item_takes t (λ n. d (Flag n)) x c)) (not (is_always_live t r c)) v)

  item_same_place : (p : Place) (x y : Item) → item_at r p ≡ Some x → item_at r p ≡ Some y → x ≡ y
  item_same_place p x y e f = same_Some x y (sym e ∙ f)

  -- what is dead before an item isn't live there, where that holds behind it
  read_not_dead : (words : ℕ) (c : Cell) (p : Place) → IsRead t r c p → (x : Item) (d : Cell → Bool) → item_at r p ≡ Some x
      → ((c : Cell) → is_held words c ≡ true → d c ≡ true → IsLiveAfter t r c p → ⊥) → is_held words c ≡ true → item_dead t r x d c ≡ false
  read_not_dead words c p (here c' p' y at' rd) x d at behind h =
      read_here x d c' (subst (λ (z : Item). item_reads t c' z ≡ true) (sym (item_same_place p' x y at at')) rd)
  read_not_dead words c p (for_flag c' n p' next y at' rd goes i) x d at behind h =
      read_for n x d c' (λ l. false_from_ne_true (d (Flag n)) (λ e. behind (Flag n) (held_flag words n l) e (record { next = next; goes = goes; live = read i })))
      (subst (λ (z : Item). item_reads_for n c' z ≡ true) (sym (item_same_place p' x y at at')) rd)
  read_not_dead words c p (later c' p' next y at' s goes i) x d at behind h =
      read_later words x d c' h (false_from_ne_true (d c') (λ e. behind c' h e (record { next = next; goes = goes; live = read i })))
      (subst (λ (z : Item). item_sets t c' z ≡ false) (sym (item_same_place p' x y at at')) s)

  pub dead_before : (words : ℕ) (p : Place) (x : Item) (d : Cell → Bool) → item_at r p ≡ Some x
      → ((c : Cell) → is_held words c ≡ true → d c ≡ true → IsLiveAfter t r c p → ⊥)
      → (c : Cell) → is_held words c ≡ true → item_dead t r x d c ≡ true → IsLive t r c p → ⊥
  dead_before words p x d at behind c h e (always v) = both_ways (item_dead t r x d c) (item_standing x d c v) e
  dead_before words p x d at behind c h e (read i) = both_ways (item_dead t r x d c) (read_not_dead words c p i x d at behind h) e
