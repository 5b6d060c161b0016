-- What is dead in a block, where it is known what is dead behind it.
use Rattle.std.proofs.Common.{◌≡◌, ℕ, zero, suc, ◌<◌, Bool, true, false, not, List, [], ◌∷◌, length, drop, Option, Some, None, refl, sym, ap, subst, ◌∙◌, arith}
use Rattle.std.specs.Prelude.{slice_get, slice_index_or, Contains}
use Rattle.std.proofs.lemmas.Bool.{both_ways, and_left, and_right, false_from_ne_true}
use Rattle.std.proofs.lemmas.Option.{same_Some, none-some}
use Rattle.rtl_tree.specs.declared.cells.Cell.{Cell}
use Rattle.rtl_tree.specs.declared.cells.Cell.TheVariants.{Flag}
use Rattle.rtl_tree.specs.Moves.{Move}
use Rattle.temp_machine.specs.Routines.{Exit, BasicBlock, Routine, Target}
use Rattle.temp_machine.specs.Flow.{successors}
use Rattle.temp_machine.specs.Live.{Place, Item, Transfer, End, item_in, item_of, item_at, is_always_live, IsNext, inside, across, IsRead, here, for_flag, later, IsLive, always, read, IsLiveAfter}
use Rattle.flow_live.specs.declared.rows.Row.{Row}
use Rattle.flow_live.specs.Rows.{is_held}
use Rattle.flow_live.specs.Walks.{item_dead, body_dead, block_dead, dead_at, dead_at_all, dead_behind}
use Rattle.flow_live.specs.Settled.{IsClosedAt}
use Rattle.flow_live.proofs.Items.{IsLow, held_flag, live_before, read_here, read_for, read_later, item_standing}

abbrev pub place : ℕ → ℕ → Place
place k at = record { block = k; at = at }

abbrev pub AreLow : List (List Move) → Exit → Type 0
AreLow ms e = (j : ℕ) (x : Item) → item_in ms e j ≡ Some x → IsLow x

-- where a transfer stands in a body

data Stands_in (ms : List (List Move)) (e : Exit) (at : ℕ) : Item → Type 0 where
  amid : (m : List Move) (rest : List (List Move)) → drop at ms ≡ m ∷ rest → drop (suc at) ms ≡ rest → Stands_in ms e at (Transfer m)
  at_end : drop at ms ≡ [] → Stands_in ms e at (End e)

stands_further : (m : List Move) (ms : List (List Move)) (e : Exit) (at : ℕ) (x : Item) → Stands_in ms e at x → Stands_in (m ∷ ms) e (suc at) x
stands_further m ms e at x (amid n rest f g) = amid n rest f g
stands_further m ms e at x (at_end f) = at_end f

stands_in : (ms : List (List Move)) (e : Exit) (at : ℕ) (x : Item) → item_in ms e at ≡ Some x → Stands_in ms e at x
stands_in [] e zero x h = subst (λ (y : Item). Stands_in [] e zero y) (same_Some (End e) x h) (at_end refl)
stands_in [] e (suc at) x h = absurd (none-some x h)
stands_in (m ∷ ms) e zero x h = subst (λ (y : Item). Stands_in (m ∷ ms) e zero y) (same_Some (Transfer m) x h) (amid m ms refl refl)
stands_in (m ∷ ms) e (suc at) x h = stands_further m ms e at x (stands_in ms e at x h)

block_at : (o : Option BasicBlock) (j : ℕ) (x : Item) → item_of o j ≡ Some x → (b : BasicBlock) × (o ≡ Some b)
block_at (Some b) j x h = (b, refl)
block_at None j x h = absurd (none-some x h)

module _ (t : Target) (r : Routine) where
  -- what isn't dead before a body is live there: `at` gives the places of its transfers and of its end
  pub live_in_body : (words : ℕ) (ms : List (List Move)) (e : Exit) (d : Cell → Bool) (at : ℕ → Place) → AreLow ms e
      → ((j : ℕ) → item_at r (at j) ≡ item_in ms e j)
      → ((j : ℕ) (m : List Move) → item_at r (at j) ≡ Some (Transfer m) → IsNext t.word r (at j) (at (suc j)))
      → ((c : Cell) → is_held words c ≡ true → d c ≡ false → IsLiveAfter t r c (at (length ms)))
      → (c : Cell) → is_held words c ≡ true → body_dead t r ms e d c ≡ false → IsLive t r c (at 0)
  live_in_body words [] e d at low item next behind c h f = live_before t r words (at 0) (End e) d (item 0) (low 0 (End e) refl) behind c h f
  live_in_body words (m ∷ ms) e d at low item next behind c h f =
      live_before t r words (at 0) (Transfer m) (body_dead t r ms e d) (item 0) (low 0 (Transfer m) refl)
      (λ x g v. record {
        next = at 1;
        goes = next 0 m (item 0);
        live = live_in_body words ms e d (λ j. at (suc j)) (λ j. low (suc j)) (λ j. item (suc j)) (λ j. next (suc j)) behind x g v;
      }) c h f

  pub item_at_block : (k : ℕ) (b : BasicBlock) → slice_get r.blocks k ≡ Some b → (j : ℕ) → item_at r (place k j) ≡ item_in b.body b.exit j
  item_at_block k b has j = ap (λ (o : Option BasicBlock). item_of o j) has

  pub live_in_block : (words k : ℕ) (b : BasicBlock) (d : Cell → Bool) → slice_get r.blocks k ≡ Some b → AreLow b.body b.exit
      → ((c : Cell) → is_held words c ≡ true → d c ≡ false → IsLiveAfter t r c (place k (length b.body)))
      → (c : Cell) → is_held words c ≡ true → block_dead t r b d c ≡ false → IsLive t r c (place k 0)
  live_in_block words k b d has low behind c h f =
      live_in_body words b.body b.exit d (λ j. place k j) low (item_at_block k b has) (λ j m e. inside k j m e) behind c h f

  -- behind a block

  contained_dead : (rows : List Row) (ks : List ℕ) (k i : ℕ) (c : Cell) → i < length ks → slice_index_or ks i k ≡ k → dead_at rows k c ≡ false → dead_at_all rows ks c ≡ false
  contained_dead rows [] k i c l e f = absurd (omega (arith, l))
  contained_dead rows (j ∷ ks) k zero c l e f = and_right (dead_at_all rows ks c) (dead_at rows j c) (subst (λ (x : ℕ). dead_at rows x c ≡ false) (sym e) f)
  contained_dead rows (j ∷ ks) k (suc i) c l e f = and_left (dead_at_all rows ks c) (dead_at rows j c) (contained_dead rows ks k i c (omega (arith, l)) e f)

  pub not_dead_behind : (rows : List Row) (ks : List ℕ) (k : ℕ) (c : Cell) → Contains ks k → dead_at rows k c ≡ false → dead_behind t r rows ks c ≡ false
  not_dead_behind rows [] k c has f = absurd (let l = has.1 in omega (arith, l))
  not_dead_behind rows (j ∷ ks) k c has f = and_left (dead_at_all rows (j ∷ ks) c) (not (is_always_live t r c)) (contained_dead rows (j ∷ ks) k has.0 c has.1 has.2 f)

  -- what may come next, by the item
  abbrev pub NextBy : Place → Item → Place → Type 0
  NextBy p (Transfer m) next = next ≡ place p.block (suc p.at)
  NextBy p (End e) next = (k : ℕ) × (next ≡ place k 0) × Contains (successors t.word r p.block) k

  pub next_by : (p next : Place) → IsNext t.word r p next → (x : Item) → item_at r p ≡ Some x → NextBy p x next
  next_by p next (inside k j m g) x at = subst (λ (y : Item). NextBy (place k j) y (place k (suc j))) (same_Some (Transfer m) x (sym g ∙ at)) refl
  next_by p next (across k j to e g has) x at = subst (λ (y : Item). NextBy (place k j) y (place to 0)) (same_Some (End e) x (sym g ∙ at)) (to, refl, has)

  -- rows that keep to what their successors' rows say

  module _ (words : ℕ) (rows : List Row) where
    abbrev behind_of : ℕ → Cell → Bool
    behind_of k c = dead_behind t r rows (successors t.word r k) c

    -- a cell is not dead at a place
    record NotDead (c : Cell) (p : Place) : Type 0 where
      block : BasicBlock
      has : slice_get r.blocks p.block ≡ Some block
      not_dead : body_dead t r (drop p.at block.body) block.exit (behind_of p.block) c ≡ false

    -- what is dead before the item of a place, by what is dead behind it
    record Splits (b : BasicBlock) (p : Place) (x : Item) : Type 0 where
      behind : Cell → Bool
      is : (c : Cell) → body_dead t r (drop p.at b.body) b.exit (behind_of p.block) c ≡ item_dead t r x behind c
      on : (next : Place) (c : Cell) → NextBy p x next → is_held words c ≡ true → NotDead c next → behind c ≡ false

    module _ (closed : (k : ℕ) → IsClosedAt t r words rows k) where
      inside_on : (b : BasicBlock) (p : Place) (rest : List (List Move)) → slice_get r.blocks p.block ≡ Some b → drop (suc p.at) b.body ≡ rest → (c : Cell)
          → NotDead c (place p.block (suc p.at)) → body_dead t r rest b.exit (behind_of p.block) c ≡ false
      inside_on b p rest has f c nd =
          subst (λ (ms : List (List Move)). body_dead t r ms b.exit (behind_of p.block) c ≡ false) f
          (subst (λ (x : BasicBlock). body_dead t r (drop (suc p.at) x.body) x.exit (behind_of p.block) c ≡ false) (same_Some nd.block b (sym nd.has ∙ has)) nd.not_dead)

      across_on : (p : Place) (k : ℕ) (c : Cell) → Contains (successors t.word r p.block) k → is_held words c ≡ true → NotDead c (place k 0) → behind_of p.block c ≡ false
      across_on p k c has h nd =
          not_dead_behind rows (successors t.word r p.block) k c has
          (false_from_ne_true (dead_at rows k c) (λ e. both_ways (block_dead t r nd.block (behind_of k) c) nd.not_dead (closed k nd.block c nd.has h e)))

      splits : (b : BasicBlock) (p : Place) (x : Item) → slice_get r.blocks p.block ≡ Some b → Stands_in b.body b.exit p.at x → Splits b p x
      splits b p x has (amid m rest e f) = record {
        behind = body_dead t r rest b.exit (behind_of p.block);
        is = λ c. ap (λ (ms : List (List Move)). body_dead t r ms b.exit (behind_of p.block) c) e;
        on = λ next c goes h nd. inside_on b p rest has f c (subst (NotDead c) goes nd);
      }
      splits b p x has (at_end e) = record {
        behind = behind_of p.block;
        is = λ c. ap (λ (ms : List (List Move)). body_dead t r ms b.exit (behind_of p.block) c) e;
        on = λ next c goes h nd. across_on p goes.0 c goes.2 h (subst (NotDead c) goes.1 nd);
      }

      split_at : (p : Place) (x : Item) → item_at r p ≡ Some x → (b : BasicBlock) × (slice_get r.blocks p.block ≡ Some b) × Splits b p x
      split_at p x at =
          let found = block_at (slice_get r.blocks p.block) p.at x at in
          (found.0, found.1, splits found.0 p x found.1 (stands_in found.0.body found.0.exit p.at x (sym (item_at_block p.block found.0 found.1 p.at) ∙ at)))

      -- what is read from a place on is not dead there
      read_is_not_dead : (c : Cell) (p : Place) → IsRead t r c p → is_held words c ≡ true → NotDead c p
      read_is_not_dead c p (here c' p' x at rd) h =
          let s = split_at p' x at in record { block = s.0; has = s.1; not_dead = s.2.is c' ∙ read_here t r x s.2.behind c' rd }
      read_is_not_dead c p (for_flag c' n p' next x at rd goes i) h =
          let s = split_at p' x at in
          record {
            block = s.0;
            has = s.1;
            not_dead = s.2.is c' ∙ read_for t r n x s.2.behind c'
                (λ l. s.2.on next (Flag n) (next_by p' next goes x at) (held_flag words n l) (read_is_not_dead (Flag n) next i (held_flag words n l))) rd;
          }
      read_is_not_dead c p (later c' p' next x at s goes i) h =
          let q = split_at p' x at in
          record {
            block = q.0;
            has = q.1;
            not_dead = q.2.is c' ∙ read_later t r words x q.2.behind c' h (q.2.on next c' (next_by p' next goes x at) h (read_is_not_dead c' next i h)) s;
          }

      standing_not_dead : (ms : List (List Move)) (e : Exit) (d : Cell → Bool) (c : Cell) → is_always_live t r c ≡ true → body_dead t r ms e d c ≡ false
      standing_not_dead [] e d c v = item_standing t r (End e) d c v
      standing_not_dead (m ∷ ms) e d c v = item_standing t r (Transfer m) (body_dead t r ms e d) c v

      -- what is dead in the row of a block isn't live at its begin
      pub dead_at_begin : (k : ℕ) (b : BasicBlock) → slice_get r.blocks k ≡ Some b → (c : Cell) → is_held words c ≡ true → dead_at rows k c ≡ true → IsLive t r c (place k 0) → ⊥
      dead_at_begin k b has c h e (always v) =
          both_ways (block_dead t r b (behind_of k) c) (standing_not_dead b.body b.exit (behind_of k) c v) (closed k b c has h e)
      dead_at_begin k b has c h e (read i) =
          let nd = read_is_not_dead c (place k 0) i h in
          both_ways (block_dead t r nd.block (behind_of k) c) nd.not_dead (closed k nd.block c nd.has h e)
