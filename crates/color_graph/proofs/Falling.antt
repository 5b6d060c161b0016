-- What places, blocks and codes part.
use Rattle.std.proofs.Common.{◌≡◌, ◌⊎◌, inl, inr, ℕ, zero, suc, ◌+◌, ◌<◌, ◌≤◌, Bool, true, false, not, List, [], ◌∷◌, length, map, Option, Some, None, refl, sym, ap, subst, ◌∙◌, arith}
use Rattle.std.specs.Prelude.{◌&&◌, ◌||◌, slice_get}
use Rattle.std.specs.Option.{option_map}
use Rattle.std.specs.Global.{Vec}
use Rattle.std.proofs.lemmas.Bool.{true≢false, false≢true, and_cases, and_left, and_right, or_parts, or_from, lt-ltb, cases_order, false_from_ne_true}
use Rattle.std.proofs.lemmas.Option.{slice_get-map, slice_get_within}
use Rattle.rtl_tree.specs.declared.cells.Cell.TheVariants.{Temp}
use Rattle.rtl_tree.specs.Moves.{Move}
use Rattle.rtl_tree.specs.Same.{same_cell}
use Rattle.rtl_tree.specs.Sets.{CellBits}
use Rattle.temp_machine.specs.Routines.{Exit, Calls, BasicBlock, Routine, Target}
use Rattle.temp_machine.specs.Cells.{some_set}
use Rattle.temp_machine.specs.Live.{Place, Item, Transfer as TransferItem, End as EndItem, item_in, item_of, item_at, item_sets, IsLive, IsLiveAfter}
use Rattle.temp_code.specs.declared.code.Transfer.{Transfer}
use Rattle.temp_code.specs.declared.code.Block.{Block}
use Rattle.temp_code.specs.declared.code.End.{End}
use Rattle.temp_code.specs.declared.code.End.TheVariants.{Fall, Jump, Branch, Call, Return}
use Rattle.temp_code.specs.Routines.{block_of, exit_of}
use Rattle.flow_live.specs.declared.tables.Live.{Live}
use Rattle.flow_live.specs.Dead.{HoldsDead, is_told}
use Rattle.flow_live.specs.Rows.{has_temporary}
use Rattle.flow_live.specs.Tables.{IsLiveness, set_at, set_after}
use Rattle.color_graph.specs.Sharing.{may_share, is_untouched, still_shares, Falls, Parts, Drops}
use Rattle.color_graph.specs.Meeting.{place, MeetsAt, MeetsIn, at_begin, at_place, MeetsBefore, MeetsWithin, IsLiveBehindCall, IsLiveBehindCalls, is_call}

-- bits that fall

falls_by : (a b q : Bool) (P : Type 0) → b ≡ (a && q) → (q ≡ false → P) → (P → q ≡ false) → Falls a b P
falls_by a b q P e f g = (λ h. to (and_cases a q (sym e ∙ h)), from)
  where
    to : (a ≡ false) ⊎ (q ≡ false) → (a ≡ false) ⊎ P
    to (inl h) = inl h
    to (inr h) = inr (f h)

    from : (a ≡ false) ⊎ P → b ≡ false
    from (inl h) = e ∙ and_left a q h
    from (inr p) = e ∙ and_right a q (g p)

falls_then : (a b c : Bool) (P Q R : Type 0) → (P → R) → (Q → R) → (R → P ⊎ Q) → Falls a b P → Falls b c Q → Falls a c R
falls_then a b c P Q R p q r f g = (λ h. to (g.0 h), from)
  where
    first : (a ≡ false) ⊎ P → (a ≡ false) ⊎ R
    first (inl h) = inl h
    first (inr h) = inr (p h)

    to : (b ≡ false) ⊎ Q → (a ≡ false) ⊎ R
    to (inl h) = first (f.0 h)
    to (inr h) = inr (q h)

    part : P ⊎ Q → c ≡ false
    part (inl h) = g.1 (inl (f.1 (inr h)))
    part (inr h) = g.1 (inr h)

    from : (a ≡ false) ⊎ R → c ≡ false
    from (inl h) = g.1 (inl (f.1 (inl h)))
    from (inr h) = part (r h)

falls_none : (a : Bool) (P : Type 0) → (P → ⊥) → Falls a a P
falls_none a P never = (λ h. inl h, from)
  where
    from : (a ≡ false) ⊎ P → a ≡ false
    from (inl h) = h
    from (inr p) = absurd (never p)

falls_next : (P : ℕ → Type 0) (n : ℕ) (a b c : Bool) → Falls a b ((k : ℕ) × (k < n) × P k) → Falls b c (P n) → Falls a c ((k : ℕ) × (k < n + 1) × P k)
falls_next P n a b c f g =
    falls_then a b c ((k : ℕ) × (k < n) × P k) (P n) ((k : ℕ) × (k < n + 1) × P k) (λ h. (h.0, (let l = h.1 in omega (arith, l)), h.2)) (λ h. (n, omega arith, h)) to f g
  where
    to : (k : ℕ) × (k < n + 1) × P k → ((k : ℕ) × (k < n) × P k) ⊎ P n
    to (k, l, p) = by (cases_order k n)
      where
        by : (k ≡ n) ⊎ ((k < n) ⊎ (n < k)) → ((k : ℕ) × (k < n) × P k) ⊎ P n
        by (inl e) = inr (subst P e p)
        by (inr (inl h)) = inl (k, h, p)
        by (inr (inr h)) = absurd (omega (arith, h, l))

falls_start : (P : ℕ → Type 0) (a : Bool) → Falls a a ((k : ℕ) × (k < 0) × P k)
falls_start P a = falls_none a ((k : ℕ) × (k < 0) × P k) (λ h. let l = h.1 in omega (arith, l))

-- places

abbrev item_by : Item → Option Item → Item
item_by d (Some x) = x
item_by d None = d

same_item : (x y : Item) (o : Option Item) → o ≡ Some x → o ≡ Some y → x ≡ y
same_item x y o e f = ap (item_by x) (sym e ∙ f)

true_from : (b : Bool) → not b ≡ false → b ≡ true
true_from true e = refl
true_from false e = absurd (true≢false e)

not_true : (b : Bool) → b ≡ true → not b ≡ false
not_true b e = ap not e

abbrev what_by : Option Transfer → List Move
what_by (Some t) = t.what
what_by None = []

item_in_body : (body : List Transfer) (e : Exit) (at : ℕ) (x : Transfer) → slice_get body at ≡ Some x → item_in (map (λ t. t.what) body) e at ≡ Some (TransferItem x.what)
item_in_body [] e at x h = absurd (let k : None ≡ Some x = h in cc)
item_in_body (y ∷ rest) e zero x h = ap (λ (o : Option Transfer). Some (TransferItem (what_by o))) h
item_in_body (y ∷ rest) e (suc at) x h = item_in_body rest e at x h

item_in_end : (xs : List (List Move)) (e : Exit) → item_in xs e (length xs) ≡ Some (EndItem e)
item_in_end [] e = refl
item_in_end (x ∷ xs) e = item_in_end xs e

item_in_past : (xs : List (List Move)) (e : Exit) (at : ℕ) → length xs < at → item_in xs e at ≡ None
item_in_past [] e zero l = absurd (omega (arith, l))
item_in_past [] e (suc at) l = refl
item_in_past (x ∷ xs) e zero l = absurd (omega (arith, l))
item_in_past (x ∷ xs) e (suc at) l = item_in_past xs e at (omega (arith, l))

length_map : (body : List Transfer) → length (map (λ t. t.what) body) ≡ length body
length_map [] = refl
length_map (x ∷ xs) = ap suc (length_map xs)

module _ (t : Target) (r : Routine) where
  -- what a transfer or the end of a block parts
  pub place_parts : (p : Place) (x : Item) (n : ℕ) (s : CellBits) (ms : List Move) (a b : List (Vec ℕ)) → item_at r p ≡ Some x
      → ((k : ℕ) → item_sets t (Temp k) x ≡ some_set (same_cell (Temp k)) ms) → HoldsDead (is_told n) s (λ c. IsLiveAfter t r c p)
      → ((i j : ℕ) → may_share b i j ≡ (may_share a i j && still_shares s.temps ms i j)) → Parts n (MeetsAt t r p) a b
  place_parts p x n s ms a b stands sets holds rows =
      λ i j li lj. falls_by (may_share a i j) (may_share b i j) (still_shares s.temps ms i j) (MeetsAt t r p i j) (rows i j) (to i j lj) (from i j lj)
    where
      other : (j : ℕ) → j < n → (has_temporary s.temps j ≡ false) ⊎ (not (some_set (same_cell (Temp j)) ms) ≡ false)
          → (item_sets t (Temp j) x ≡ true) ⊎ IsLiveAfter t r (Temp j) p
      other j lj (inl d) = inr (holds.live (Temp j) (lt-ltb j n lj) d)
      other j lj (inr e) = inl (sets j ∙ true_from (some_set (same_cell (Temp j)) ms) e)

      to : (i j : ℕ) → j < n → still_shares s.temps ms i j ≡ false → MeetsAt t r p i j
      to i j lj h =
          let parts = or_parts (not (some_set (same_cell (Temp i)) ms)) (is_untouched s.temps ms j) h in
          record {
            item = x;
            stands = stands;
            set = sets i ∙ true_from (some_set (same_cell (Temp i)) ms) parts.0;
            other = other j lj (and_cases (has_temporary s.temps j) (not (some_set (same_cell (Temp j)) ms)) parts.1);
          }

      touched : (j : ℕ) → j < n → (item_sets t (Temp j) x ≡ true) ⊎ IsLiveAfter t r (Temp j) p → is_untouched s.temps ms j ≡ false
      touched j lj (inl e) =
          and_right (has_temporary s.temps j) (not (some_set (same_cell (Temp j)) ms)) (not_true (some_set (same_cell (Temp j)) ms) (sym (sets j) ∙ e))
      touched j lj (inr l) =
          and_left (has_temporary s.temps j) (not (some_set (same_cell (Temp j)) ms))
          (false_from_ne_true (has_temporary s.temps j) (λ d. holds.dead (Temp j) (lt-ltb j n lj) d l))

      from : (i j : ℕ) → j < n → MeetsAt t r p i j → still_shares s.temps ms i j ≡ false
      from i j lj m =
          let same : m.item ≡ x = same_item m.item x (item_at r p) m.stands stands in
          or_from (not (some_set (same_cell (Temp i)) ms)) (is_untouched s.temps ms j)
          (not_true (some_set (same_cell (Temp i)) ms) (sym (sets i) ∙ subst (λ (y : Item). item_sets t (Temp i) y ≡ true) same m.set))
          (touched j lj (subst (λ (y : Item). (item_sets t (Temp j) y ≡ true) ⊎ IsLiveAfter t r (Temp j) p) same m.other))

  -- an end without a transfer parts none
  pub end_parts_none : (p : Place) (x : Item) (n : ℕ) (a : List (Vec ℕ)) → item_at r p ≡ Some x → ((k : ℕ) → item_sets t (Temp k) x ≡ false) → Parts n (MeetsAt t r p) a a
  end_parts_none p x n a stands none = λ i j li lj. falls_none (may_share a i j) (MeetsAt t r p i j) (never i j)
    where
      never : (i j : ℕ) → MeetsAt t r p i j → ⊥
      never i j m =
          let same : m.item ≡ x = same_item m.item x (item_at r p) m.stands stands in
          false≢true (sym (none i) ∙ subst (λ (y : Item). item_sets t (Temp i) y ≡ true) same m.set)

  -- what is live at the begin of a block
  pub begin_parts : (k n : ℕ) (s : CellBits) (a b : List (Vec ℕ)) → HoldsDead (is_told n) s (λ c. IsLive t r c (place k 0))
      → ((i j : ℕ) → may_share b i j ≡ (may_share a i j && (has_temporary s.temps i || has_temporary s.temps j)))
      → Parts n (λ i j. IsLive t r (Temp i) (place k 0) × IsLive t r (Temp j) (place k 0)) a b
  begin_parts k n s a b holds rows =
      λ i j li lj. falls_by (may_share a i j) (may_share b i j) (has_temporary s.temps i || has_temporary s.temps j)
      (IsLive t r (Temp i) (place k 0) × IsLive t r (Temp j) (place k 0)) (rows i j) (to i j li lj) (from i j li lj)
    where
      dead : (i : ℕ) → i < n → IsLive t r (Temp i) (place k 0) → has_temporary s.temps i ≡ false
      dead i li l = false_from_ne_true (has_temporary s.temps i) (λ d. holds.dead (Temp i) (lt-ltb i n li) d l)

      to : (i j : ℕ) → i < n → j < n → (has_temporary s.temps i || has_temporary s.temps j) ≡ false
          → IsLive t r (Temp i) (place k 0) × IsLive t r (Temp j) (place k 0)
      to i j li lj h =
          let parts = or_parts (has_temporary s.temps i) (has_temporary s.temps j) h in
          (holds.live (Temp i) (lt-ltb i n li) parts.0, holds.live (Temp j) (lt-ltb j n lj) parts.1)

      from : (i j : ℕ) → i < n → j < n → IsLive t r (Temp i) (place k 0) × IsLive t r (Temp j) (place k 0)
          → (has_temporary s.temps i || has_temporary s.temps j) ≡ false
      from i j li lj (l, m) = or_from (has_temporary s.temps i) (has_temporary s.temps j) (dead i li l) (dead j lj m)

  -- a whole block
  pub block_parts : (k n : ℕ) (b : BasicBlock) (rows after body done : List (Vec ℕ)) → slice_get r.blocks k ≡ Some b
      → Parts n (λ i j. IsLive t r (Temp i) (place k 0) × IsLive t r (Temp j) (place k 0)) rows after
      → Parts n (MeetsBefore (length b.body) t r k) after body → Parts n (MeetsAt t r (place k (length b.body))) body done → Parts n (MeetsIn t r k) rows done
  block_parts k n b rows after body done has p q u = λ i j li lj. all i j li lj
    where
      inside : (i j : ℕ) → i < n → j < n → Falls (may_share after i j) (may_share done i j)
          (MeetsBefore (length b.body) t r k i j ⊎ MeetsAt t r (place k (length b.body)) i j)
      inside i j li lj =
          falls_then (may_share after i j) (may_share body i j) (may_share done i j) (MeetsBefore (length b.body) t r k i j) (MeetsAt t r (place k (length b.body)) i j)
          (MeetsBefore (length b.body) t r k i j ⊎ MeetsAt t r (place k (length b.body)) i j) (λ h. inl h) (λ h. inr h) (λ h. h) (q i j li lj) (u i j li lj)

      no_place : (at i j : ℕ) → length b.body < at → MeetsAt t r (place k at) i j → ⊥
      no_place at i j l m =
          let none : item_at r (place k at) ≡ None = ap (λ (o : Option BasicBlock). item_of o at) has ∙ item_in_past b.body b.exit at l in
          let k : None ≡ Some m.item = sym none ∙ m.stands in cc

      split : (i j : ℕ) → MeetsIn t r k i j
          → (IsLive t r (Temp i) (place k 0) × IsLive t r (Temp j) (place k 0))
          ⊎ (MeetsBefore (length b.body) t r k i j ⊎ MeetsAt t r (place k (length b.body)) i j)
      split i j (at_begin l m) = inl (l, m)
      split i j (at_place at m) = by (cases_order at (length b.body))
        where
          by : (at ≡ length b.body) ⊎ ((at < length b.body) ⊎ (length b.body < at))
              → (IsLive t r (Temp i) (place k 0) × IsLive t r (Temp j) (place k 0))
              ⊎ (MeetsBefore (length b.body) t r k i j ⊎ MeetsAt t r (place k (length b.body)) i j)
          by (inl e) = inr (inr (subst (λ (x : ℕ). MeetsAt t r (place k x) i j) e m))
          by (inr (inl h)) = inr (inl (at, h, m))
          by (inr (inr h)) = absurd (no_place at i j h m)

      join : (i j : ℕ) → MeetsBefore (length b.body) t r k i j ⊎ MeetsAt t r (place k (length b.body)) i j → MeetsIn t r k i j
      join i j (inl (at, l, m)) = at_place at m
      join i j (inr m) = at_place (length b.body) m

      all : (i j : ℕ) → i < n → j < n → Falls (may_share rows i j) (may_share done i j) (MeetsIn t r k i j)
      all i j li lj =
          falls_then (may_share rows i j) (may_share after i j) (may_share done i j) (IsLive t r (Temp i) (place k 0) × IsLive t r (Temp j) (place k 0))
          (MeetsBefore (length b.body) t r k i j ⊎ MeetsAt t r (place k (length b.body)) i j) (MeetsIn t r k i j)
          (λ h. at_begin h.0 h.1) (join i j) (split i j) (p i j li lj) (inside i j li lj)

-- places of a body, one after the other

pub record BodyTo (at k : ℕ) (body : List Transfer) (l : Live) (old now : List (Vec ℕ)) : Type 0 where
  pub count : length now ≡ length old
  pub parts : (t : Target) (r : Routine) (b : BasicBlock) → IsLiveness t r l → slice_get r.blocks k ≡ Some b → b.body ≡ map (λ x. x.what) body
      → Parts (length r.homes) (MeetsBefore at t r k) old now

pub body_none : (k : ℕ) (body : List Transfer) (l : Live) (old : List (Vec ℕ)) → BodyTo 0 k body l old old
body_none k body l old = record { count = refl; parts = λ t r b live has is. λ i j li lj. falls_start (λ at. MeetsAt t r (place k at) i j) (may_share old i j) }

pub body_next : (at k : ℕ) (body : List Transfer) (x : Transfer) (l : Live) (old now new : List (Vec ℕ)) → slice_get body at ≡ Some x → length new ≡ length now
    → ((i j : ℕ) → may_share new i j ≡ (may_share now i j && still_shares (set_after l k at).temps x.what i j))
    → BodyTo at k body l old now → BodyTo (at + 1) k body l old new
body_next at k body x l old now new get count rows s = record { count = count ∙ s.count; parts = parts }
  where
    parts : (t : Target) (r : Routine) (b : BasicBlock) → IsLiveness t r l → slice_get r.blocks k ≡ Some b → b.body ≡ map (λ x. x.what) body
        → Parts (length r.homes) (MeetsBefore (at + 1) t r k) old new
    parts t r b live has is = λ i j li lj.
        falls_next (λ at. MeetsAt t r (place k at) i j) at (may_share old i j) (may_share now i j) (may_share new i j) (s.parts t r b live has is i j li lj)
        (place_parts t r (place k at) (TransferItem x.what) (length r.homes) (set_after l k at) x.what now new stands (λ n. refl) (live.after k at (TransferItem x.what) stands) rows i j li lj)
      where
        stands : item_at r (place k at) ≡ Some (TransferItem x.what)
        stands = ap (λ (o : Option BasicBlock). item_of o at) has ∙ ap (λ (xs : List (List Move)). item_in xs b.exit at) is ∙ item_in_body body b.exit at x get

-- ends

pub end_parts : (k at : ℕ) (e : End) (x : Transfer) (l : Live) (t : Target) (r : Routine) (a b : List (Vec ℕ)) → IsLiveness t r l
    → item_at r (place k at) ≡ Some (EndItem (exit_of e)) → ((n : ℕ) → item_sets t (Temp n) (EndItem (exit_of e)) ≡ some_set (same_cell (Temp n)) x.what)
    → ((i j : ℕ) → may_share b i j ≡ (may_share a i j && still_shares (set_after l k at).temps x.what i j)) → Parts (length r.homes) (MeetsAt t r (place k at)) a b
end_parts k at e x l t r a b live stands sets rows =
    place_parts t r (place k at) (EndItem (exit_of e)) (length r.homes) (set_after l k at) x.what a b stands sets (live.after k at (EndItem (exit_of e)) stands) rows

-- a block of code
pub code_parts : (k : ℕ) (c : Block) (l : Live) (t : Target) (r : Routine) (rows after body done : List (Vec ℕ)) → IsLiveness t r l → slice_get r.blocks k ≡ Some (block_of c)
    → ((i j : ℕ) → may_share after i j ≡ (may_share rows i j && (has_temporary (set_at l k).temps i || has_temporary (set_at l k).temps j)))
    → Parts (length r.homes) (MeetsBefore (length c.body) t r k) after body
    → (item_at r (place k (length c.body)) ≡ Some (EndItem (exit_of c.end)) → Parts (length r.homes) (MeetsAt t r (place k (length c.body))) body done)
    → Parts (length r.homes) (MeetsIn t r k) rows done
code_parts k c l t r rows after body done live has begins inside ends =
    block_parts t r k (length r.homes) (block_of c) rows after body done has
    (begin_parts t r k (length r.homes) (set_at l k) rows after (live.at k (slice_get_within r.blocks k (block_of c) has)) begins)
    (subst (λ (n : ℕ). Parts (length r.homes) (MeetsBefore n t r k) after body) (sym (length_map c.body)) inside)
    (subst (λ (n : ℕ). Parts (length r.homes) (MeetsAt t r (place k n)) body done) (sym (length_map c.body)) (ends stands))
  where
    stands : item_at r (place k (length c.body)) ≡ Some (EndItem (exit_of c.end))
    stands =
        ap (λ (o : Option BasicBlock). item_of o (length c.body)) has
        ∙ ap (λ (n : ℕ). item_in (map (λ t. t.what) c.body) (exit_of c.end) n) (sym (length_map c.body)) ∙ item_in_end (map (λ t. t.what) c.body) (exit_of c.end)

-- blocks, one after the other

get_block : (blocks : List Block) (r : Routine) (at : ℕ) (c : Block) → r.blocks ≡ map block_of blocks → slice_get blocks at ≡ Some c → slice_get r.blocks at ≡ Some (block_of c)
get_block blocks r at c is get =
    ap (λ (bs : List BasicBlock). slice_get bs at) is ∙ slice_get-map block_of blocks at ∙ ap (option_map block_of) get

pub record BlocksTo (at : ℕ) (blocks : List Block) (l : Live) (old now : List (Vec ℕ)) : Type 0 where
  pub count : length now ≡ length old
  pub parts : (t : Target) (r : Routine) → IsLiveness t r l → r.blocks ≡ map block_of blocks → Parts (length r.homes) (MeetsWithin at t r) old now

pub blocks_none : (blocks : List Block) (l : Live) (old : List (Vec ℕ)) → BlocksTo 0 blocks l old old
blocks_none blocks l old = record { count = refl; parts = λ t r live is. λ i j li lj. falls_start (λ k. MeetsIn t r k i j) (may_share old i j) }

pub blocks_next : (at : ℕ) (blocks : List Block) (c : Block) (l : Live) (old now new : List (Vec ℕ)) → slice_get blocks at ≡ Some c → length new ≡ length now
    → ((t : Target) (r : Routine) → IsLiveness t r l → slice_get r.blocks at ≡ Some (block_of c) → Parts (length r.homes) (MeetsIn t r at) now new)
    → BlocksTo at blocks l old now → BlocksTo (at + 1) blocks l old new
blocks_next at blocks c l old now new get count more s = record {
  count = count ∙ s.count;
  parts = λ t r live is. λ i j li lj.
      falls_next (λ k. MeetsIn t r k i j) at (may_share old i j) (may_share now i j) (may_share new i j) (s.parts t r live is i j li lj)
      (more t r live (get_block blocks r at c is get) i j li lj);
}

-- calls

pub record CallsTo (at : ℕ) (blocks : List Block) (l : Live) (old now : List ℕ) : Type 0 where
  pub drops : (t : Target) (r : Routine) → IsLiveness t r l → r.blocks ≡ map block_of blocks → Drops (length r.homes) (IsLiveBehindCalls at t r) old now

pub calls_none : (blocks : List Block) (l : Live) (old : List ℕ) → CallsTo 0 blocks l old old
calls_none blocks l old = record { drops = λ t r live is. λ i li. falls_start (λ k. IsLiveBehindCall t r k i) (has_temporary old i) }

pub calls_next : (at : ℕ) (blocks : List Block) (l : Live) (old now new : List ℕ)
    → ((t : Target) (r : Routine) → IsLiveness t r l → r.blocks ≡ map block_of blocks → Drops (length r.homes) (IsLiveBehindCall t r at) now new)
    → CallsTo at blocks l old now → CallsTo (at + 1) blocks l old new
calls_next at blocks l old now new more s = record {
  drops = λ t r live is. λ i li.
      falls_next (λ k. IsLiveBehindCall t r k i) at (has_temporary old i) (has_temporary now i) (has_temporary new i) (s.drops t r live is i li) (more t r live is i li);
}

abbrev transfer_by : Exit → List Move
transfer_by (Calls ms) = ms
transfer_by _ = []

call_exit : (e : End) → is_call e ≡ true → exit_of e ≡ Calls (transfer_by (exit_of e))
call_exit Fall h = absurd (false≢true h)
call_exit (Jump t) h = absurd (false≢true h)
call_exit (Branch t) h = absurd (false≢true h)
call_exit (Call t) h = refl
call_exit Return h = absurd (false≢true h)

abbrev is_exit_call : Exit → Bool
is_exit_call (Calls ms) = true
is_exit_call _ = false

exit_is_call : (e : End) → is_call e ≡ is_exit_call (exit_of e)
exit_is_call Fall = refl
exit_is_call (Jump t) = refl
exit_is_call (Branch t) = refl
exit_is_call (Call t) = refl
exit_is_call Return = refl

abbrev block_by : BasicBlock → Option BasicBlock → BasicBlock
block_by d (Some b) = b
block_by d None = d

length_blocks : (blocks : List Block) → length (map block_of blocks) ≡ length blocks
length_blocks [] = refl
length_blocks (b ∷ bs) = ap suc (length_blocks bs)

-- there is no block behind the last
pub last_drops : (at : ℕ) (blocks : List Block) (t : Target) (r : Routine) (a : List ℕ) → r.blocks ≡ map block_of blocks → length blocks ≤ at + 1
    → Drops (length r.homes) (IsLiveBehindCall t r at) a a
last_drops at blocks t r a is past =
    λ i li. falls_none (has_temporary a i) (IsLiveBehindCall t r at i)
    (λ b. let n = b.next in let e : length r.blocks ≡ length blocks = ap length is ∙ length_blocks blocks in omega (arith, n, e, past))

module _ (at : ℕ) (blocks : List Block) (c : Block) (l : Live) (t : Target) (r : Routine) (live : IsLiveness t r l) (is : r.blocks ≡ map block_of blocks)
    (get : slice_get blocks at ≡ Some c) where
  count_is : length r.blocks ≡ length blocks
  count_is = ap length is ∙ length_blocks blocks

  -- behind a call that has a block behind it
  pub call_drops : (a b : List ℕ) → at + 1 < length blocks → is_call c.end ≡ true
      → ((i : ℕ) → has_temporary b i ≡ (has_temporary a i && has_temporary (set_at l (at + 1)).temps i)) → Drops (length r.homes) (IsLiveBehindCall t r at) a b
  call_drops a b within call rows =
      λ i li. falls_by (has_temporary a i) (has_temporary b i) (has_temporary (set_at l (at + 1)).temps i) (IsLiveBehindCall t r at i) (rows i) (to i li) (from i li)
    where
      behind : at + 1 ≡ suc at
      behind = omega arith

      holds : HoldsDead (is_told (length r.homes)) (set_at l (at + 1)) (λ c. IsLive t r c (place (at + 1) 0))
      holds = let e = count_is in live.at (at + 1) (omega (arith, within, e))

      to : (i : ℕ) → i < length r.homes → has_temporary (set_at l (at + 1)).temps i ≡ false → IsLiveBehindCall t r at i
      to i li d = record {
        basic_block = block_of c;
        has = get_block blocks r at c is get;
        transfer = transfer_by (exit_of c.end);
        calls = call_exit c.end call;
        next = (let e = count_is in omega (arith, within, e));
        live = subst (λ (k : ℕ). IsLive t r (Temp i) (place k 0)) behind (holds.live (Temp i) (lt-ltb i (length r.homes) li) d);
      }

      from : (i : ℕ) → i < length r.homes → IsLiveBehindCall t r at i → has_temporary (set_at l (at + 1)).temps i ≡ false
      from i li b =
          false_from_ne_true (has_temporary (set_at l (at + 1)).temps i)
          (λ d. holds.dead (Temp i) (lt-ltb i (length r.homes) li) d (subst (λ (k : ℕ). IsLive t r (Temp i) (place k 0)) (sym behind) b.live))

  -- elsewhere
  pub no_call_drops : (a : List ℕ) → is_call c.end ≡ false → Drops (length r.homes) (IsLiveBehindCall t r at) a a
  no_call_drops a none = λ i li. falls_none (has_temporary a i) (IsLiveBehindCall t r at i) (never i)
    where
      never : (i : ℕ) → IsLiveBehindCall t r at i → ⊥
      never i b =
          let same : block_of c ≡ b.basic_block = ap (block_by (block_of c)) (sym (get_block blocks r at c is get) ∙ b.has) in
          let exits : exit_of c.end ≡ Calls b.transfer = ap (λ (x : BasicBlock). x.exit) same ∙ b.calls in
          true≢false (sym (ap is_exit_call exits) ∙ sym (exit_is_call c.end) ∙ none)
