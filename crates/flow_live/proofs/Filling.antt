-- The rows of a block, from behind its end back to its begin.
use Rattle.std.proofs.Common.{◌≡◌, ◌⊎◌, inl, inr, ℕ, zero, suc, ◌+◌, ◌-◌, ◌/◌, ◌<◌, ◌≤◌, Bool, true, false, not, List, [], ◌∷◌, ◌++◌, length, drop, Option, Some, None, refl, sym, ap, subst, ◌∙◌, arith, length-append}
use Rattle.std.specs.Prelude.{slice_get, Contains, if◌then◌else◌}
use Rattle.std.proofs.lemmas.Bool.{true≢false, false≢true, both_ways, and_parts, not-true, le-leb, lt-ltb, ltb-true, cases_eq}
use Rattle.std.proofs.lemmas.Option.{same_Some, none-some, slice_get_within}
use Rattle.rtl_tree.specs.declared.cells.Cell.{Cell}
use Rattle.rtl_tree.specs.declared.cells.Cell.TheVariants.{Hard, Temp, Flag, Pc, Input, Output, Halt, Hole}
use Rattle.rtl_tree.specs.Moves.{Move}
use Rattle.rtl_tree.specs.Sets.{CellBits, has_cell}
use Rattle.temp_machine.specs.Routines.{Exit, BasicBlock, Routine, Target}
use Rattle.temp_machine.specs.Flow.{successors}
use Rattle.temp_machine.specs.Live.{Place, Item, Transfer, End, item_in, item_of, item_at, is_always_live, inside, IsRead, here, for_flag, later, IsLive, always, read, IsLiveAfter}
use Rattle.flow_live.specs.declared.rows.Row.{Row}
use Rattle.flow_live.specs.declared.tables.Live.{Live}
use Rattle.flow_live.specs.Dead.{HoldsDead, is_told}
use Rattle.flow_live.specs.Rows.{Becomes, bits_in, is_held}
use Rattle.flow_live.specs.Walks.{item_dead, body_dead, dead_in, dead_at, dead_at_all, dead_behind}
use Rattle.flow_live.specs.Settled.{AreSound, AreBegins}
use Rattle.flow_live.specs.Tables.{set_by, row_back, set_at, set_after, AreRowsFrom, AreBlockRows, AreTables, IsLiveness}
use Rattle.flow_live.proofs.Items.{IsLow, live_before, dead_before}
use Rattle.flow_live.proofs.Walking.{place, item_at_block, next_by, not_dead_behind}
use Rattle.flow_live.proofs.Same.{item_same}
use Rattle.flow_live.proofs.Closing.{live_behind, end_of_body, some_at}

-- along a body

pub drop_at : {A : Type 0} (xs : List A) (i : ℕ) (x : A) → slice_get xs i ≡ Some x → drop i xs ≡ x ∷ drop (suc i) xs
drop_at [] i x e = absurd (none-some x e)
drop_at (y ∷ ys) zero x e = ap (λ z. z ∷ ys) (same_Some y x e)
drop_at (y ∷ ys) (suc i) x e = drop_at ys i x e

block_of_item : (o : Option BasicBlock) (j : ℕ) (x : Item) → item_of o j ≡ Some x → (b : BasicBlock) × (o ≡ Some b)
block_of_item (Some b) j x e = (b, refl)
block_of_item None j x e = absurd (none-some x e)

module _ (t : Target) (r : Routine) where
  -- one transfer further back
  pub body_back : (ms : List (List Move)) (i : ℕ) (m : List Move) (e : Exit) (d : Cell → Bool) (a b c : CellBits) → slice_get ms i ≡ Some m
      → Becomes (body_dead t r (drop (suc i) ms) e d) a b → Becomes (item_dead t r (Transfer m) (has_cell b)) b c → Becomes (body_dead t r (drop i ms) e d) a c
  body_back ms i m e d a b c has g h = record {
    words = h.words ∙ g.words;
    cells = λ x held.
        h.cells x (subst (λ (n : ℕ). is_held n x ≡ true) (sym g.words) held)
        ∙ item_same t r (length a.temps) (Transfer m) (has_cell b) (body_dead t r (drop (suc i) ms) e d) g.cells x held
        ∙ ap (λ (xs : List (List Move)). body_dead t r xs e d x) (sym (drop_at ms i m has));
  }

  -- exact behind an item, exact before it
  pub hold_before : (words : ℕ) (p : Place) (x : Item) (a b : CellBits) → length a.temps ≡ words → item_at r p ≡ Some x → IsLow x
      → HoldsDead (is_held words) a (λ c. IsLiveAfter t r c p) → Becomes (item_dead t r x (has_cell a)) a b → HoldsDead (is_held words) b (λ c. IsLive t r c p)
  hold_before words p x a b same at low holds g = record { dead = dead; live = live }
    where
      is : (c : Cell) → is_held words c ≡ true → has_cell b c ≡ item_dead t r x (has_cell a) c
      is c h = g.cells c (subst (λ (n : ℕ). is_held n c ≡ true) (sym same) h)

      dead : (c : Cell) → is_held words c ≡ true → has_cell b c ≡ true → IsLive t r c p → ⊥
      dead c h e = dead_before t r words p x (has_cell a) at holds.dead c h (sym (is c h) ∙ e)

      live : (c : Cell) → is_held words c ≡ true → has_cell b c ≡ false → IsLive t r c p
      live c h e = live_before t r words p x (has_cell a) at low holds.live c h (sym (is c h) ∙ e)

  -- before the next place is behind this one
  pub hold_step : (words k at : ℕ) (m : List Move) (a : CellBits) → item_at r (place k at) ≡ Some (Transfer m)
      → HoldsDead (is_held words) a (λ c. IsLive t r c (place k (suc at))) → HoldsDead (is_held words) a (λ c. IsLiveAfter t r c (place k at))
  hold_step words k at m a item holds = record {
    dead = λ c h e alive. holds.dead c h e (subst (IsLive t r c) (next_by t r (place k at) alive.next alive.goes (Transfer m) item) alive.live);
    live = λ c h e. record { next = place k (suc at); goes = inside k at m item; live = holds.live c h e };
  }

  -- behind the end of a block

  begins_sound : (words : ℕ) (rows : List Row) → length rows ≡ length r.blocks → AreBegins t r words rows → AreSound t r words rows
  begins_sound words rows count begins k c h e = by (slice_get rows k) refl e
    where
      by : (o : Option Row) → slice_get rows k ≡ o → dead_in o c ≡ false → IsLive t r c (place k 0)
      by (Some row) f g = (begins k row (let l = slice_get_within rows k row f in omega (arith, l, count)) f).live c h g
      by None f g = absurd (true≢false g)

  no_block : (c : Cell) (p : Place) → IsRead t r c p → (b : BasicBlock) × (slice_get r.blocks p.block ≡ Some b)
  no_block c p i = by (item_there c p i)
    where
      item_there : (c : Cell) (p : Place) → IsRead t r c p → (x : Item) × (item_at r p ≡ Some x)
      item_there c p (here c' p' x at rd) = (x, at)
      item_there c p (for_flag c' n p' next x at rd goes i) = (x, at)
      item_there c p (later c' p' next x at s goes i) = (x, at)

      by : (x : Item) × (item_at r p ≡ Some x) → (b : BasicBlock) × (slice_get r.blocks p.block ≡ Some b)
      by found = block_of_item (slice_get r.blocks p.block) p.at found.0 found.1

  pub hold_behind : (words : ℕ) (rows : List Row) (k : ℕ) (b : BasicBlock) (a z : CellBits) → length a.temps ≡ words → length rows ≡ length r.blocks
      → AreBegins t r words rows → slice_get r.blocks k ≡ Some b → Becomes (dead_behind t r rows (successors t.word r k)) a z
      → HoldsDead (is_held words) z (λ c. IsLiveAfter t r c (place k (length b.body)))
  hold_behind words rows k b a z same count begins has g = record { dead = dead; live = live }
    where
      is : (c : Cell) → is_held words c ≡ true → has_cell z c ≡ dead_behind t r rows (successors t.word r k) c
      is c h = g.cells c (subst (λ (n : ℕ). is_held n c ≡ true) (sym same) h)

      item : item_at r (place k (length b.body)) ≡ Some (End b.exit)
      item = item_at_block t r k b has (length b.body) ∙ end_of_body b.body b.exit

      standing : (ks : List ℕ) (j : ℕ) (c : Cell) → Contains ks j → dead_behind t r rows ks c ≡ true → is_always_live t r c ≡ false
      standing [] j c has e = absurd (let l = has.1 in omega (arith, l))
      standing (i ∷ rest) j c has e = not-true (is_always_live t r c) (and_parts (dead_at_all rows (i ∷ rest) c) (not (is_always_live t r c)) e).1

      to_block : (j : ℕ) (c : Cell) → Contains (successors t.word r k) j → is_held words c ≡ true → dead_behind t r rows (successors t.word r k) c ≡ true → IsLive t r c (place j 0) → ⊥
      to_block j c to h e (always v) = both_ways (is_always_live t r c) (standing (successors t.word r k) j c to e) v
      to_block j c to h e (read i) =
          let found = no_block c (place j 0) i in
          let l = slice_get_within r.blocks j found.0 found.1 in
          let row = some_at rows j (omega (arith, l, count)) in
          (begins j row.0 l row.1).dead c h (sym (ap (λ (o : Option Row). dead_in o c) row.1) ∙ dead_there) (read i)
        where
          dead_there : dead_at rows j c ≡ true
          dead_there = by (dead_at rows j c) refl
            where
              by : (v : Bool) → dead_at rows j c ≡ v → v ≡ true
              by true f = refl
              by false f = absurd (both_ways (dead_behind t r rows (successors t.word r k) c) (not_dead_behind t r rows (successors t.word r k) j c to f) e)

      dead : (c : Cell) → is_held words c ≡ true → has_cell z c ≡ true → IsLiveAfter t r c (place k (length b.body)) → ⊥
      dead c h e alive =
          let next = next_by t r (place k (length b.body)) alive.next alive.goes (End b.exit) item in
          to_block next.0 c next.2 h (sym (is c h) ∙ e) (subst (IsLive t r c) next.1 alive.live)

      live : (c : Cell) → is_held words c ≡ true → has_cell z c ≡ false → IsLiveAfter t r c (place k (length b.body))
      live c h e = live_behind t r words rows (begins_sound words rows count begins) k b has c h (sym (is c h) ∙ e)

  -- rows that are put one behind the other

  get_end : {A : Type 0} (xs : List A) (x : A) → slice_get (xs ++ x ∷ []) (length xs) ≡ Some x
  get_end [] x = refl
  get_end (y ∷ ys) x = get_end ys x

  pub get_last : {A : Type 0} (xs : List A) (x : A) (n : ℕ) → length xs ≡ n → slice_get (xs ++ x ∷ []) n ≡ Some x
  get_last xs x n e = subst (λ (m : ℕ). slice_get (xs ++ x ∷ []) m ≡ Some x) e (get_end xs x)

  pub get_before : {A : Type 0} (xs : List A) (x : A) (n : ℕ) → n < length xs → slice_get (xs ++ x ∷ []) n ≡ slice_get xs n
  get_before [] x n l = absurd (omega (arith, l))
  get_before (y ∷ ys) x zero l = refl
  get_before (y ∷ ys) x (suc n) l = get_before ys x n (omega (arith, l))

  pub rows_first : (words k : ℕ) (b : BasicBlock) (row : Row) → HoldsDead (is_held words) (bits_in row) (λ c. IsLiveAfter t r c (place k (length b.body)))
      → AreRowsFrom t r words k (length b.body) b (row ∷ [])
  rows_first words k b row holds = record { count = omega arith; each = each }
    where
      each : (p : ℕ) (z : Row) → length b.body ≤ p → p ≤ length b.body → slice_get (row ∷ []) (length b.body - p) ≡ Some z
          → HoldsDead (is_held words) (bits_in z) (λ c. IsLiveAfter t r c (place k p))
      each p z l m e =
          let same : p ≡ length b.body = omega (arith, l, m) in
          let first : length b.body - p ≡ 0 = omega (arith, l) in
          subst (λ (q : ℕ). HoldsDead (is_held words) (bits_in z) (λ c. IsLiveAfter t r c (place k q))) (sym same)
          (subst (λ (y : Row). HoldsDead (is_held words) (bits_in y) (λ c. IsLiveAfter t r c (place k (length b.body))))
          (same_Some row z (sym (ap (slice_get (row ∷ [])) first) ∙ e)) holds)

  pub rows_more : (words k at : ℕ) (b : BasicBlock) (rows : List Row) (row : Row) → AreRowsFrom t r words k (suc at) b rows
      → HoldsDead (is_held words) (bits_in row) (λ c. IsLiveAfter t r c (place k at)) → AreRowsFrom t r words k at b (rows ++ row ∷ [])
  rows_more words k at b rows row old holds = record { count = let e = length-append rows (row ∷ []) in let f = old.count in omega (arith, e, f); each = each }
    where
      each : (p : ℕ) (z : Row) → at ≤ p → p ≤ length b.body → slice_get (rows ++ row ∷ []) (length b.body - p) ≡ Some z
          → HoldsDead (is_held words) (bits_in z) (λ c. IsLiveAfter t r c (place k p))
      each p z l m e = by (cases_eq p at)
        where
          by : (p ≡ at) ⊎ (p ≡ at → ⊥) → HoldsDead (is_held words) (bits_in z) (λ c. IsLiveAfter t r c (place k p))
          by (inl same) =
              subst (λ (q : ℕ). HoldsDead (is_held words) (bits_in z) (λ c. IsLiveAfter t r c (place k q))) (sym same)
              (subst (λ (y : Row). HoldsDead (is_held words) (bits_in y) (λ c. IsLiveAfter t r c (place k at)))
              (same_Some row z (sym (get_last rows row (length b.body - p) (let f = old.count in omega (arith, f, same))) ∙ e)) holds)
          by (inr ne) = old.each p z (omega (arith, l, ne)) m (sym (get_before rows row (length b.body - p) (let f = old.count in omega (arith, f, l, ne, m))) ∙ e)

  pub rows_done : (words k : ℕ) (b : BasicBlock) (rows : List Row) (row : Row) → AreRowsFrom t r words k 0 b rows
      → HoldsDead (is_held words) (bits_in row) (λ c. IsLive t r c (place k 0)) → AreBlockRows t r words k b (rows ++ row ∷ [])
  rows_done words k b rows row old holds = record { at = begin; after = after }
    where
      long : length (rows ++ row ∷ []) ≡ length b.body + 2
      long = let e = length-append rows (row ∷ []) in let f = old.count in omega (arith, e, f)

      back : (n : ℕ) → n < length b.body + 2 → row_back (rows ++ row ∷ []) n ≡ slice_get (rows ++ row ∷ []) (length (rows ++ row ∷ []) - (n + 1))
      back n l = ap (λ (v : Bool). if v then slice_get (rows ++ row ∷ []) (length (rows ++ row ∷ []) - (n + 1)) else None)
          (le-leb (n + 1) (length (rows ++ row ∷ [])) (omega (arith, l, long)))

      begin : HoldsDead (is_held words) (set_by (row_back (rows ++ row ∷ []) 0)) (λ c. IsLive t r c (place k 0))
      begin = subst (λ (o : Option Row). HoldsDead (is_held words) (set_by o) (λ c. IsLive t r c (place k 0)))
          (sym (back 0 (omega arith) ∙ get_last rows row (length (rows ++ row ∷ []) - (0 + 1)) (let f = old.count in omega (arith, f, long)))) holds

      after : (p : ℕ) → p ≤ length b.body → HoldsDead (is_held words) (set_by (row_back (rows ++ row ∷ []) (p + 1))) (λ c. IsLiveAfter t r c (place k p))
      after p l =
          let found = some_at rows (length b.body - p) (let f = old.count in omega (arith, f, l)) in
          let index : length (rows ++ row ∷ []) - (p + 1 + 1) ≡ length b.body - p = omega (arith, long) in
          subst (λ (o : Option Row). HoldsDead (is_held words) (set_by o) (λ c. IsLiveAfter t r c (place k p)))
          (sym (back (p + 1) (omega (arith, l)) ∙ ap (slice_get (rows ++ row ∷ [])) index
          ∙ get_before rows row (length b.body - p) (let f = old.count in omega (arith, f, l)) ∙ found.1))
          (old.each p found.0 (omega arith) l found.1)

-- the whole table

told_held : (homes words : ℕ) (c : Cell) → words ≡ homes / 64 + 1 → is_told homes c ≡ true → is_held words c ≡ true
told_held homes words (Hard n) e h = h
told_held homes words (Flag n) e h = h
told_held homes words (Temp n) e h = lt-ltb (n / 64) words (let l = ltb-true n homes h in omega (arith, l, e))
told_held homes words Pc e h = absurd (false≢true h)
told_held homes words Input e h = absurd (false≢true h)
told_held homes words Output e h = absurd (false≢true h)
told_held homes words Halt e h = absurd (false≢true h)
told_held homes words (Hole n) e h = absurd (false≢true h)

narrow : (homes words : ℕ) (s : CellBits) (alive : Cell → Type 0) → words ≡ homes / 64 + 1 → HoldsDead (is_held words) s alive → HoldsDead (is_told homes) s alive
narrow homes words s alive e holds = record {
  dead = λ c h. holds.dead c (told_held homes words c e h);
  live = λ c h. holds.live c (told_held homes words c e h);
}

item_within : (ms : List (List Move)) (e : Exit) (at : ℕ) (x : Item) → item_in ms e at ≡ Some x → at ≤ length ms
item_within [] e zero x h = omega arith
item_within [] e (suc at) x h = absurd (none-some x h)
item_within (m ∷ ms) e zero x h = omega arith
item_within (m ∷ ms) e (suc at) x h = let l = item_within ms e at x h in omega (arith, l)

pub table_tells : (t : Target) (r : Routine) (words : ℕ) (l : Live) → words ≡ length r.homes / 64 + 1 → AreTables (length r.blocks) t r words l.blocks.items → IsLiveness t r l
table_tells t r words l e tables = record { at = at; after = after }
  where
    at : (k : ℕ) → k < length r.blocks → HoldsDead (is_told (length r.homes)) (set_at l k) (λ c. IsLive t r c (place k 0))
    at k m =
        let found = some_at r.blocks k m in
        narrow (length r.homes) words (set_at l k) (λ c. IsLive t r c (place k 0)) e (tables k found.0 m found.1).at

    after : (k p : ℕ) (x : Item) → item_at r (place k p) ≡ Some x → HoldsDead (is_told (length r.homes)) (set_after l k p) (λ c. IsLiveAfter t r c (place k p))
    after k p x item =
        let found = block_of_item (slice_get r.blocks k) p x item in
        narrow (length r.homes) words (set_after l k p) (λ c. IsLiveAfter t r c (place k p)) e
        ((tables k found.0 (slice_get_within r.blocks k found.0 found.1) found.1).after p
        (item_within found.0.body found.0.exit p x (sym (item_at_block t r k found.0 found.1 p) ∙ item)))
