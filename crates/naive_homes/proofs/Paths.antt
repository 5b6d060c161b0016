-- What is live at a place of code is among what is live there at most.
use Rattle.std.proofs.Common.{◌≡◌, ◌⊎◌, inl, inr, ℕ, zero, suc, ◌+◌, ◌≤◌, ◌==◌, Bool, true, false, List, [], ◌∷◌, slice_get, Option, Some, None, refl, sym, ap, ◌∙◌, subst, arith}
use Rattle.std.specs.Prelude.{if◌then◌else◌, Contains}
use Rattle.std.proofs.lemmas.Bool.Decides.{nat_tests}
use Rattle.rtl_tree.specs.declared.cells.Cell.{Cell}
use Rattle.rtl_tree.specs.declared.cells.Cell.TheVariants.{Temp, Flag}
use Rattle.rtl_tree.specs.Moves.{Move}
use Rattle.temp_machine.specs.Routines.{Exit, Falls, Jumps, Branches, Calls, Returns, BasicBlock, Routine, Target}
use Rattle.temp_machine.specs.Cells.{sets, reads, reads_beside_flags}
use Rattle.temp_machine.specs.Machine.{position}
use Rattle.temp_machine.specs.Flow.{successors, successors_at, successors_by, positions_by}
use Rattle.temp_machine.specs.Live.{Place, Item, Transfer, End, item_in, item_of, item_at, item_reads, item_reads_for, item_sets, IsNext, inside, across, IsRead, here, for_flag, later, IsLive, always, read, IsLiveAfter, AreLiveAtOnce, both_live, both_set, left_set, right_set}
use Rattle.naive_live.specs.Live.{Has, Within, AreApart}
use Rattle.naive_live.proofs.Lists.{apart_within}
use Rattle.naive_homes.proofs.Tables.{clash, alone}
use Rattle.naive_homes.proofs.Transfers.{IsHeld, CompareLives, beside_reads, for_reads}
use Rattle.naive_homes.proofs.Blocks.{ExitLives, BodyLives, RestLives, start_of, Chain}

no_some : {A : Type 0} (x : A) → None ≡ Some x → ⊥
no_some x e = cc

same_some : {A : Type 0} (x y : A) → Some x ≡ Some y → x ≡ y
same_some x y e = cc

unlike : (b : Bool) → b ≡ true → b ≡ false → ⊥
unlike b h k = clash (sym k ∙ h)

-- the one list is the other behind so many
abbrev From : {A : Type 0} → ℕ → List A → List A → Type 0
From zero xs ys = xs ≡ ys
From (suc n) [] ys = ⊥
From (suc n) (x ∷ xs) ys = From n xs ys

from_next : {A : Type 0} (n : ℕ) (xs : List A) (y : A) (ys : List A) → From n xs (y ∷ ys) → From (suc n) xs ys
from_next zero [] y ys e = let q : [] ≡ y ∷ ys = e in cc
from_next zero (x ∷ xs) y ys e = let q : x ∷ xs ≡ y ∷ ys = e in cc
from_next (suc n) [] y ys h = absurd h
from_next (suc n) (x ∷ xs) y ys h = from_next n xs y ys h

item_end : (n : ℕ) (xs : List (List Move)) (e : Exit) → From n xs [] → item_in xs e n ≡ Some (End e)
item_end zero xs e h = subst (λ (ys : List (List Move)). item_in ys e 0 ≡ Some (End e)) (sym h) refl
item_end (suc n) [] e h = absurd h
item_end (suc n) (x ∷ xs) e h = item_end n xs e h

item_transfer : (n : ℕ) (xs : List (List Move)) (e : Exit) (ms : List Move) (rest : List (List Move)) → From n xs (ms ∷ rest) → item_in xs e n ≡ Some (Transfer ms)
item_transfer zero xs e ms rest h = subst (λ (ys : List (List Move)). item_in ys e 0 ≡ Some (Transfer ms)) (sym h) refl
item_transfer (suc n) [] e ms rest h = absurd h
item_transfer (suc n) (x ∷ xs) e ms rest h = item_transfer n xs e ms rest h

no_end : (ms : List Move) (e : Exit) → Transfer ms ≡ End e → ⊥
no_end ms e q = cc

position_least : (bs : List BasicBlock) (l n : ℕ) → n ≤ position bs l n
position_least [] l n = omega arith
position_least (b ∷ bs) l n = by (b.label == l) (position_least bs l (suc n))
  where
    by : (c : Bool) → suc n ≤ position bs l (suc n) → n ≤ (if c then n else position bs l (suc n))
    by true le = omega arith
    by false le = omega (arith, le)

-- the block at the position of a label has it
label_by : (x : BasicBlock) (bs : List BasicBlock) (l n : ℕ) (b : BasicBlock) (c : Bool) → x.label == l ≡ c
    → ((k : ℕ) → position bs l (suc n) ≡ k + suc n → slice_get bs k ≡ Some b → b.label ≡ l)
    → (k : ℕ) → (if c then n else position bs l (suc n)) ≡ k + n → slice_get (x ∷ bs) k ≡ Some b → b.label ≡ l
label_by x bs l n b true q on zero e h =
    let same : x.label ≡ l = grind (arith, nat_tests, q) in sym (ap (λ (y : BasicBlock). y.label) (same_some x b h)) ∙ same
label_by x bs l n b true q on (suc k) e h = absurd (omega (arith, e))
label_by x bs l n b false q on zero e h = absurd (let le = position_least bs l (suc n) in omega (arith, e, le))
label_by x bs l n b false q on (suc k) e h = let p : suc k + n ≡ k + suc n = omega arith in on k (e ∙ p) h

label_at : (bs : List BasicBlock) (l k n : ℕ) (b : BasicBlock) → position bs l n ≡ k + n → slice_get bs k ≡ Some b → b.label ≡ l
label_at [] l k n b e h = absurd (no_some b h)
label_at (x ∷ bs) l k n b e h = label_by x bs l n b (x.label == l) refl (λ j p g. label_at bs l j (suc n) b p g) k e h

module _ (t : Target) (r : Routine) (depth : ℕ → Option ℕ) (scalars : ℕ) (env : ℕ → List ℕ) (chain : Chain depth scalars env t.word r.blocks) where
  abbrev Rest : Option ℕ → List ℕ → List (List Move) → Exit → List ℕ → Type 0
  Rest = RestLives depth scalars env t.word

  abbrev Held : List ℕ → ℕ → Type 0
  Held = IsHeld depth scalars env

  -- at a place this is live at most, and a flag may have been set for the end that stands there
  record Stands (p : Place) (flag : Option ℕ) (live : List ℕ) : Type 0 where
    block : BasicBlock
    has : slice_get r.blocks p.block ≡ Some block
    rest : List (List Move)
    from : From p.at block.body rest
    next : List ℕ
    follows : (b : BasicBlock) → slice_get r.blocks (suc p.block) ≡ Some b → next ≡ env b.label
    apart : AreApart depth live
    lives : Rest flag live rest block.exit next

  -- ---- where blocks begin

  record Begins (bs : List BasicBlock) (k : ℕ) (b : BasicBlock) : Type 0 where
    apart : AreApart depth (env b.label)
    next : List ℕ
    lives : Rest None (env b.label) b.body b.exit next
    follows : (c : BasicBlock) → slice_get bs (suc k) ≡ Some c → next ≡ env c.label

  follows_first : (bs : List BasicBlock) (c : BasicBlock) → slice_get bs 0 ≡ Some c → start_of depth scalars env t.word bs ≡ env c.label
  follows_first [] c e = absurd (no_some c e)
  follows_first (b ∷ bs) c e = ap (λ (x : BasicBlock). env x.label) (same_some b c e)

  begins : (bs : List BasicBlock) → Chain depth scalars env t.word bs → (k : ℕ) (b : BasicBlock) → slice_get bs k ≡ Some b → Begins bs k b
  begins [] h k b e = absurd (no_some b e)
  begins (x ∷ bs) h zero b e =
      let q = same_some x b e in
      record {
        apart = subst (λ (y : BasicBlock). AreApart depth (env y.label)) q h.0;
        next = start_of depth scalars env t.word bs;
        lives = subst (λ (y : BasicBlock). Rest None (env y.label) y.body y.exit (start_of depth scalars env t.word bs)) q h.1;
        follows = follows_first bs;
      }
  begins (x ∷ bs) h (suc k) b e =
      let g = begins bs h.2 k b e in record { apart = g.apart; next = g.next; lives = g.lives; follows = g.follows }

  block_stands : (k : ℕ) (b : BasicBlock) → slice_get r.blocks k ≡ Some b → Stands (record { block = k; at = 0 }) None (env b.label)
  block_stands k b e =
      let g = begins r.blocks chain k b e in
      record { block = b; has = e; rest = b.body; from = refl; next = g.next; follows = g.follows; apart = g.apart; lives = g.lives }

  -- ---- what stands at a place, and the places that come next

  item_is : (p : Place) (flag : Option ℕ) (live : List ℕ) (s : Stands p flag live) → item_at r p ≡ item_in s.block.body s.block.exit p.at
  item_is p flag live s = ap (λ (o : Option BasicBlock). item_of o p.at) s.has

  block_of_item : (o : Option BasicBlock) (n : ℕ) (x : Item) → item_of o n ≡ Some x → (b : BasicBlock) × (o ≡ Some b)
  block_of_item None n x e = absurd (no_some x e)
  block_of_item (Some b) n x e = (b, refl)

  -- the flow goes on to the next block, or to that of a label
  data Reached (k : ℕ) (next live : List ℕ) (to : ℕ) : Type 0 where
    on : to ≡ suc k → Within next live → Reached k next live to
    at_label : (l : ℕ) → to ≡ position r.blocks l 0 → Within (env l) live → Reached k next live to

  one_of : (a x : ℕ) → Contains (a ∷ []) x → x ≡ a
  one_of a x (zero, lt, e) = sym e
  one_of a x (suc k, lt, e) = absurd (omega (arith, lt))

  none_of : (x : ℕ) → Contains [] x → ⊥
  none_of x (k, lt, e) = omega (arith, lt)

  two_of : (a b x : ℕ) → Contains (a ∷ b ∷ []) x → (x ≡ a) ⊎ (x ≡ b)
  two_of a b x (zero, lt, e) = inl (sym e)
  two_of a b x (suc zero, lt, e) = inr (sym e)
  two_of a b x (suc (suc k), lt, e) = absurd (omega (arith, lt))

  reached : (k : ℕ) (flag : Option ℕ) (live : List ℕ) (e : Exit) (next : List ℕ) (to : ℕ) → ExitLives depth scalars env t.word flag live e next
      → Contains (successors_by t.word r.blocks k e) to → Reached k next live to
  reached k flag live Falls next to h c = on (one_of (suc k) to c) h
  reached k flag live (Jumps ms) next to h c =
      at_label h.1 (one_of (position r.blocks h.1 0) to (subst (λ (o : Option ℕ). Contains (positions_by r.blocks o) to) h.2 c)) h.3
  reached k flag live (Branches ms) next to h c =
      elim (two_of (suc k) (position r.blocks h.0 0) to (subst (λ (o : Option ℕ). Contains (suc k ∷ positions_by r.blocks o) to) h.1.goes c)) [
        | inl q ↦ on q h.3
        | inr q ↦ at_label h.0 q h.2
      ]
  reached k flag live (Calls ms) next to h c = on (one_of (suc k) to c) h.1
  reached k flag live Returns next to h c = absurd (none_of to c)

  -- where the flow goes on to lies no more than what was live
  goes_on : (p : Place) (to : ℕ) (next live : List ℕ) (b : BasicBlock) → Reached p.block next live to → ((c : BasicBlock) → slice_get r.blocks (suc p.block) ≡ Some c → next ≡ env c.label)
      → slice_get r.blocks to ≡ Some b → Within (env b.label) live
  goes_on p to next live b (on q w) follows e =
      subst (λ (xs : List ℕ). Within xs live) (follows b (subst (λ (k : ℕ). slice_get r.blocks k ≡ Some b) q e)) w
  goes_on p to next live b (at_label l q w) follows e =
      let same : position r.blocks l 0 ≡ to + 0 = let z : to ≡ to + 0 = omega arith in sym q ∙ z in
      let has = label_at r.blocks l to 0 b same e in subst (λ (k : ℕ). Within (env k) live) (sym has) w

  -- ---- flags

  no_flag_at : (flag : Option ℕ) (n : ℕ) → None ≡ Some n → flag ≡ Some n
  no_flag_at flag n e = absurd (no_some n e)

  exit_flag : (flag : Option ℕ) (live : List ℕ) (e : Exit) (next : List ℕ) (n : ℕ) → ExitLives depth scalars env t.word flag live e next
      → item_reads t (Flag n) (End e) ≡ true → flag ≡ Some n
  exit_flag flag live Falls next n h e = absurd (clash e)
  exit_flag flag live (Jumps ms) next n h e = absurd (unlike (reads (Flag n) ms) (beside_reads (Flag n) ms e) (h.0.no_flag n))
  exit_flag flag live (Branches ms) next n h e = h.1.flag_read n (beside_reads (Flag n) ms e)
  exit_flag flag live (Calls ms) next n h e = absurd (unlike (reads (Flag n) ms) (beside_reads (Flag n) ms e) (h.0.no_flag n))
  exit_flag flag live Returns next n h e = absurd (clash e)

  exit_flag_for : (flag : Option ℕ) (live : List ℕ) (e : Exit) (next : List ℕ) (k n : ℕ) → ExitLives depth scalars env t.word flag live e next
      → item_reads_for k (Flag n) (End e) ≡ true → flag ≡ Some n
  exit_flag_for flag live Falls next k n h e = absurd (clash e)
  exit_flag_for flag live (Jumps ms) next k n h e = absurd (unlike (reads (Flag n) ms) (for_reads k (Flag n) ms e) (h.0.no_flag n))
  exit_flag_for flag live (Branches ms) next k n h e = h.1.flag_read n (for_reads k (Flag n) ms e)
  exit_flag_for flag live (Calls ms) next k n h e = absurd (clash e)
  exit_flag_for flag live Returns next k n h e = absurd (clash e)

  -- ---- what stands at a place decides its item

  data Shows (p : Place) (flag : Option ℕ) (live : List ℕ) : Type 0 where
    at_end : (b : BasicBlock) (next : List ℕ) → slice_get r.blocks p.block ≡ Some b
        → ((c : BasicBlock) → slice_get r.blocks (suc p.block) ≡ Some c → next ≡ env c.label)
        → item_at r p ≡ Some (End b.exit) → ExitLives depth scalars env t.word flag live b.exit next → Shows p flag live
    in_body : (ms : List Move) (kept behind : List ℕ) → item_at r p ≡ Some (Transfer ms) → Within kept live → BodyLives depth scalars env t.word kept behind ms
        → Stands (record { block = p.block; at = suc p.at }) None behind → Shows p flag live
    compares : (ms : List Move) (kept : List ℕ) (j : ℕ) → item_at r p ≡ Some (Transfer ms) → Within kept live → CompareLives depth scalars env j kept ms
        → Stands (record { block = p.block; at = suc p.at }) (Some j) kept → Shows p flag live

  shows : (p : Place) (flag : Option ℕ) (live : List ℕ) → Stands p flag live → Shows p flag live
  shows p flag live s = by flag s.rest s.from s.lives
    where
      by : (f : Option ℕ) (rest : List (List Move)) → From p.at s.block.body rest → Rest f live rest s.block.exit s.next → Shows p f live
      by f [] from h = at_end s.block s.next s.has s.follows (item_is p flag live s ∙ item_end p.at s.block.body s.block.exit from) h
      by None (ms ∷ rest) from h =
          let item = item_is p flag live s ∙ item_transfer p.at s.block.body s.block.exit ms rest from in
          let on = from_next p.at s.block.body ms rest from in
          elim h.2 [
            | inl b ↦ in_body ms h.0 b.0 item h.1 b.1
                (record { block = s.block; has = s.has; rest = rest; from = on; next = s.next; follows = s.follows; apart = b.1.apart; lives = b.2 })
            | inr c ↦ compares ms h.0 c.0 item h.1 c.1
                (record { block = s.block; has = s.has; rest = rest; from = on; next = s.next; follows = s.follows; apart = apart_within depth h.0 live h.1 s.apart; lives = c.2 })
          ]
      by (Some j) (ms ∷ rest) from h = absurd h

  -- ---- the places that come next

  data Next (p q : Place) : Type 0 where
    inside_to : (ms : List Move) → item_at r p ≡ Some (Transfer ms) → record { block = p.block; at = suc p.at } ≡ q → Next p q
    across_to : (e : Exit) (k : ℕ) → item_at r p ≡ Some (End e) → Contains (successors t.word r p.block) k → record { block = k; at = 0 } ≡ q → Next p q

  next_of : (p q : Place) → IsNext t.word r p q → Next p q
  next_of _ _ (inside block at ms e) = inside_to ms e refl
  next_of _ _ (across block at next e h c) = across_to e next h c refl

  data Goes (p : Place) (flag : Option ℕ) (live : List ℕ) (q : Place) : Type 0 where
    in_block : (ms : List Move) (kept behind : List ℕ) → item_at r p ≡ Some (Transfer ms) → Within kept live → BodyLives depth scalars env t.word kept behind ms
        → Stands q None behind → Goes p flag live q
    to_end : (ms : List Move) (kept : List ℕ) (j : ℕ) → item_at r p ≡ Some (Transfer ms) → Within kept live → CompareLives depth scalars env j kept ms
        → Stands q (Some j) kept → Goes p flag live q
    to_block : (e : Exit) (next there : List ℕ) → item_at r p ≡ Some (End e) → ExitLives depth scalars env t.word flag live e next → Within there live
        → Stands q None there → Goes p flag live q

  other_item : {A : Type 0} (o : Option Item) (ms : List Move) (e : Exit) → o ≡ Some (Transfer ms) → o ≡ Some (End e) → A
  other_item o ms e h k = absurd (no_end ms e (same_some (Transfer ms) (End e) (sym h ∙ k)))

  goes : (p : Place) (flag : Option ℕ) (live : List ℕ) (q : Place) → Shows p flag live → Next p q → (x : Item) → item_at r q ≡ Some x → Goes p flag live q
  goes p flag live q (in_body ms kept behind item w b s) (inside_to ns e is) x there = in_block ms kept behind item w b (subst (λ (z : Place). Stands z None behind) is s)
  goes p flag live q (compares ms kept j item w c s) (inside_to ns e is) x there = to_end ms kept j item w c (subst (λ (z : Place). Stands z (Some j) kept) is s)
  goes p flag live q (at_end b next has follows item h) (inside_to ns e is) x there = other_item (item_at r p) ns b.exit e item
  goes p flag live q (in_body ms kept behind item w b s) (across_to e k h c is) x there = other_item (item_at r p) ms e item h
  goes p flag live q (compares ms kept j item w d s) (across_to e k h c is) x there = other_item (item_at r p) ms e item h
  goes p flag live q (at_end b next has follows item h) (across_to e k g c is) x there =
      let started : item_at r (record { block = k; at = 0 }) ≡ Some x = ap (λ (z : Place). item_at r z) is ∙ there in
      let found = block_of_item (slice_get r.blocks k) 0 x started in
      let to = reached p.block flag live b.exit next k h (subst (λ (o : Option BasicBlock). Contains (successors_at t.word r.blocks p.block o) k) has c) in
      to_block b.exit next (env found.0.label) item h (goes_on p k next live found.0 to follows found.1)
      (subst (λ (z : Place). Stands z None (env found.0.label)) is (block_stands k found.0 found.1))

  item_of_read : (c : Cell) (p : Place) → IsRead t r c p → (x : Item) × (item_at r p ≡ Some x)
  item_of_read _ _ (here c p x e q) = (x, e)
  item_of_read _ _ (for_flag c n p next x e q g h) = (x, e)
  item_of_read _ _ (later c p next x e q g h) = (x, e)

  -- ---- flags that are read

  same_item : (p : Place) (x y : Item) → item_at r p ≡ Some x → item_at r p ≡ Some y → x ≡ y
  same_item p x y e h = same_some x y (sym e ∙ h)

  -- what an item does is what the one that stands there does
  of_item : (P : Item → Type 0) (p : Place) (x y : Item) → item_at r p ≡ Some x → item_at r p ≡ Some y → P x → P y
  of_item P p x y e h k = subst P (same_item p x y e h) k

  flag_here : (p : Place) (flag : Option ℕ) (live : List ℕ) (n : ℕ) (x : Item) → Shows p flag live → item_at r p ≡ Some x
      → ((item_reads t (Flag n) x ≡ true) ⊎ ((k : ℕ) × (item_reads_for k (Flag n) x ≡ true))) → flag ≡ Some n
  flag_here p flag live n x (at_end b next has follows item h) e (inl q) =
      exit_flag flag live b.exit next n h (of_item (λ y. item_reads t (Flag n) y ≡ true) p x (End b.exit) e item q)
  flag_here p flag live n x (at_end b next has follows item h) e (inr q) =
      exit_flag_for flag live b.exit next q.0 n h (of_item (λ y. item_reads_for q.0 (Flag n) y ≡ true) p x (End b.exit) e item q.1)
  flag_here p flag live n x (in_body ms kept behind item w b s) e (inl q) =
      absurd (unlike (reads (Flag n) ms) (beside_reads (Flag n) ms (of_item (λ y. item_reads t (Flag n) y ≡ true) p x (Transfer ms) e item q)) (b.transfer.no_flag n))
  flag_here p flag live n x (in_body ms kept behind item w b s) e (inr q) =
      absurd (unlike (reads (Flag n) ms) (for_reads q.0 (Flag n) ms (of_item (λ y. item_reads_for q.0 (Flag n) y ≡ true) p x (Transfer ms) e item q.1)) (b.transfer.no_flag n))
  flag_here p flag live n x (compares ms kept j item w c s) e (inl q) =
      absurd (unlike (reads (Flag n) ms) (beside_reads (Flag n) ms (of_item (λ y. item_reads t (Flag n) y ≡ true) p x (Transfer ms) e item q)) (c.no_flag n))
  flag_here p flag live n x (compares ms kept j item w c s) e (inr q) =
      absurd (unlike (reads (Flag n) ms) (for_reads q.0 (Flag n) ms (of_item (λ y. item_reads_for q.0 (Flag n) y ≡ true) p x (Transfer ms) e item q.1)) (c.no_flag n))

  flag_later : (p q : Place) (flag : Option ℕ) (live : List ℕ) (n : ℕ) (x : Item) → Goes p flag live q → item_at r p ≡ Some x → item_sets t (Flag n) x ≡ false
      → ((f : Option ℕ) (xs : List ℕ) → Stands q f xs → f ≡ Some n) → flag ≡ Some n
  flag_later p q flag live n x (in_block ms kept behind item w b s) e off h = no_flag_at flag n (h None behind s)
  flag_later p q flag live n x (to_block f next there item k w s) e off h = no_flag_at flag n (h None there s)
  flag_later p q flag live n x (to_end ms kept j item w c s) e off h =
      let same : j ≡ n = same_some j n (h (Some j) kept s) in
      let set : sets (Flag n) ms ≡ true = subst (λ (k : ℕ). sets (Flag k) ms ≡ true) same c.set_flag in
      absurd (unlike (sets (Flag n) ms) set (of_item (λ y. item_sets t (Flag n) y ≡ false) p x (Transfer ms) e item off))

  -- a flag is read at an end alone for which it has been set
  flag_read : (c : Cell) (p : Place) → IsRead t r c p → (n : ℕ) → c ≡ Flag n → (flag : Option ℕ) (live : List ℕ) → Stands p flag live → flag ≡ Some n
  flag_read _ _ (here c p x e q) n is flag live s =
      flag_here p flag live n x (shows p flag live s) e (inl (subst (λ (y : Cell). item_reads t y x ≡ true) is q))
  flag_read _ _ (for_flag c k p next x e q g h) n is flag live s =
      flag_here p flag live n x (shows p flag live s) e (inr (k, subst (λ (y : Cell). item_reads_for k y x ≡ true) is q))
  flag_read _ _ (later c p next x e q g h) n is flag live s =
      let there = item_of_read c next h in
      flag_later p next flag live n x (goes p flag live next (shows p flag live s) (next_of p next g) there.0 there.1) e
      (subst (λ (y : Cell). item_sets t y x ≡ false) is q) (λ f xs z. flag_read c next h n is f xs z)

  -- ---- temporaries that are read

  held_within : (xs ys : List ℕ) (i : ℕ) → Within xs ys → Held xs i → Held ys i
  held_within xs ys i w (inl lt) = inl lt
  held_within xs ys i w (inr k) = inr (w i k)

  exit_held : (flag : Option ℕ) (live : List ℕ) (e : Exit) (next : List ℕ) (i : ℕ) → ExitLives depth scalars env t.word flag live e next
      → item_reads t (Temp i) (End e) ≡ true → Held live i
  exit_held flag live Falls next i h e = absurd (clash e)
  exit_held flag live (Jumps ms) next i h e = absurd (unlike (reads_beside_flags (Temp i) ms) e (h.0.unread i))
  exit_held flag live (Branches ms) next i h e = h.1.read i e
  exit_held flag live (Calls ms) next i h e = absurd (unlike (reads_beside_flags (Temp i) ms) e (h.0.unread i))
  exit_held flag live Returns next i h e = absurd (clash e)

  exit_unset : (flag : Option ℕ) (live : List ℕ) (e : Exit) (next : List ℕ) (i : ℕ) → ExitLives depth scalars env t.word flag live e next
      → item_sets t (Temp i) (End e) ≡ true → ⊥
  exit_unset flag live Falls next i h e = clash e
  exit_unset flag live (Jumps ms) next i h e = unlike (sets (Temp i) ms) e (h.0.unset i)
  exit_unset flag live (Branches ms) next i h e = unlike (sets (Temp i) ms) e (h.1.unset i)
  exit_unset flag live (Calls ms) next i h e = unlike (sets (Temp i) ms) (alone (sets (Temp i) ms) e) (h.0.unset i)
  exit_unset flag live Returns next i h e = clash e

  temp_here : (p : Place) (flag : Option ℕ) (live : List ℕ) (i : ℕ) (x : Item) → Shows p flag live → item_at r p ≡ Some x → item_reads t (Temp i) x ≡ true → Held live i
  temp_here p flag live i x (at_end b next has follows item h) e q =
      exit_held flag live b.exit next i h (of_item (λ y. item_reads t (Temp i) y ≡ true) p x (End b.exit) e item q)
  temp_here p flag live i x (in_body ms kept behind item w b s) e q =
      held_within kept live i w (b.transfer.read i (of_item (λ y. item_reads t (Temp i) y ≡ true) p x (Transfer ms) e item q))
  temp_here p flag live i x (compares ms kept j item w c s) e q =
      absurd (unlike (reads_beside_flags (Temp i) ms) (of_item (λ y. item_reads t (Temp i) y ≡ true) p x (Transfer ms) e item q) (c.unread i))

  temp_for : (p q : Place) (flag : Option ℕ) (live : List ℕ) (i k : ℕ) (x : Item) → Goes p flag live q → item_at r p ≡ Some x → item_reads_for k (Temp i) x ≡ true
      → ((f : Option ℕ) (xs : List ℕ) → Stands q f xs → f ≡ Some k) → Held live i
  temp_for p q flag live i k x (in_block ms kept behind item w b s) e g h = absurd (no_some k (h None behind s))
  temp_for p q flag live i k x (to_block f next there item l w s) e g h = absurd (no_some k (h None there s))
  temp_for p q flag live i k x (to_end ms kept j item w c s) e g h =
      held_within kept live i w (c.for_flags k i (of_item (λ y. item_reads_for k (Temp i) y ≡ true) p x (Transfer ms) e item g))

  temp_later : (p q : Place) (flag : Option ℕ) (live : List ℕ) (i : ℕ) (x : Item) → Goes p flag live q → item_at r p ≡ Some x → item_sets t (Temp i) x ≡ false
      → ((f : Option ℕ) (xs : List ℕ) → Stands q f xs → Held xs i) → Held live i
  temp_later p q flag live i x (in_block ms kept behind item w b s) e off h = by (h None behind s)
    where
      set_or : (sets (Temp i) ms ≡ true) ⊎ Has kept i → Held live i
      set_or (inl z) = absurd (unlike (sets (Temp i) ms) z (of_item (λ y. item_sets t (Temp i) y ≡ false) p x (Transfer ms) e item off))
      set_or (inr k) = inr (w i k)

      by : Held behind i → Held live i
      by (inl lt) = inl lt
      by (inr k) = set_or (b.transfer.others i k)
  temp_later p q flag live i x (to_end ms kept j item w c s) e off h = held_within kept live i w (h (Some j) kept s)
  temp_later p q flag live i x (to_block f next there item k w s) e off h = held_within there live i w (h None there s)

  -- a temporary that is read at a place or behind it is a scalar's, or among what is live there at most
  temp_read : (c : Cell) (p : Place) → IsRead t r c p → (i : ℕ) → c ≡ Temp i → (flag : Option ℕ) (live : List ℕ) → Stands p flag live → Held live i
  temp_read _ _ (here c p x e q) i is flag live s = temp_here p flag live i x (shows p flag live s) e (subst (λ (y : Cell). item_reads t y x ≡ true) is q)
  temp_read _ _ (for_flag c k p next x e q g h) i is flag live s =
      let there = item_of_read (Flag k) next h in
      temp_for p next flag live i k x (goes p flag live next (shows p flag live s) (next_of p next g) there.0 there.1) e
      (subst (λ (y : Cell). item_reads_for k y x ≡ true) is q) (λ f xs z. flag_read (Flag k) next h k refl f xs z)
  temp_read _ _ (later c p next x e q g h) i is flag live s =
      let there = item_of_read c next h in
      temp_later p next flag live i x (goes p flag live next (shows p flag live s) (next_of p next g) there.0 there.1) e
      (subst (λ (y : Cell). item_sets t y x ≡ false) is q) (λ f xs z. temp_read c next h i is f xs z)

  -- ---- each place with an item

  record Walked (e : Exit) (next : List ℕ) (xs : List (List Move)) (n : ℕ) : Type 0 where
    flag : Option ℕ
    live : List ℕ
    rest : List (List Move)
    from : From n xs rest
    apart : AreApart depth live
    lives : Rest flag live rest e next

  -- behind a transfer
  walk_on : (e : Exit) (next : List ℕ) (ms : List Move) (rest : List (List Move)) (n : ℕ) (live : List ℕ) → AreApart depth live → Rest None live (ms ∷ rest) e next
      → ((flag : Option ℕ) (xs : List ℕ) → AreApart depth xs → Rest flag xs rest e next → Walked e next rest n) → Walked e next (ms ∷ rest) (suc n)
  walk_on e next ms rest n live a h f = by h.2
    where
      as_walked : Walked e next rest n → Walked e next (ms ∷ rest) (suc n)
      as_walked z = record { flag = z.flag; live = z.live; rest = z.rest; from = z.from; apart = z.apart; lives = z.lives }

      by : ((behind : List ℕ) × BodyLives depth scalars env t.word h.0 behind ms × Rest None behind rest e next)
          ⊎ ((j : ℕ) × CompareLives depth scalars env j h.0 ms × Rest (Some j) h.0 rest e next) → Walked e next (ms ∷ rest) (suc n)
      by (inl b) = as_walked (f None b.0 b.1.apart b.2)
      by (inr c) = as_walked (f (Some c.0) h.0 (apart_within depth h.0 live h.1 a) c.2)

  walk : (e : Exit) (next : List ℕ) (x : Item) (xs : List (List Move)) (n : ℕ) (flag : Option ℕ) (live : List ℕ) → AreApart depth live → Rest flag live xs e next
      → item_in xs e n ≡ Some x → Walked e next xs n
  walk e next x xs zero flag live a h k = record { flag = flag; live = live; rest = xs; from = refl; apart = a; lives = h }
  walk e next x [] (suc n) flag live a h k = absurd (no_some x k)
  walk e next x (ms ∷ rest) (suc n) (Some j) live a h k = absurd h
  walk e next x (ms ∷ rest) (suc n) None live a h k = walk_on e next ms rest n live a h (λ flag xs b r. walk e next x rest n flag xs b r k)

  record Found (p : Place) : Type 0 where
    flag : Option ℕ
    live : List ℕ
    stands : Stands p flag live

  found : (p : Place) (x : Item) → item_at r p ≡ Some x → Found p
  found p x e =
      let b = block_of_item (slice_get r.blocks p.block) p.at x e in
      let g = begins r.blocks chain p.block b.0 b.1 in
      let item : item_in b.0.body b.0.exit p.at ≡ Some x = ap (λ (o : Option BasicBlock). item_of o p.at) (sym b.1) ∙ e in
      let z = walk b.0.exit g.next x b.0.body p.at None (env b.0.label) g.apart g.lives item in
      record {
        flag = z.flag;
        live = z.live;
        stands = record { block = b.0; has = b.1; rest = z.rest; from = z.from; next = g.next; follows = g.follows; apart = z.apart; lives = z.lives };
      }

  -- ---- live at once

  -- two temporaries are a scalar's, or of those that are live somewhere, no two of one depth
  pub record AreTogether (i j : ℕ) : Type 0 where
    pub all : List ℕ
    pub apart : AreApart depth all
    pub first : Held all i
    pub second : Held all j

  is_read : (i : ℕ) (p : Place) → IsLive t r (Temp i) p → IsRead t r (Temp i) p
  is_read i p (always e) = absurd (clash e)
  is_read i p (read h) = h

  -- what is set, and what is live behind it
  set_beside : (p q : Place) (flag : Option ℕ) (live : List ℕ) (x : Item) (i j : ℕ) → Goes p flag live q → item_at r p ≡ Some x → item_sets t (Temp i) x ≡ true
      → IsRead t r (Temp j) q → AreTogether i j
  set_beside p q flag live x i j (in_block ms kept behind item w b s) e set rd = record {
    all = b.transfer.all;
    apart = b.transfer.apart;
    first = b.transfer.set i (of_item (λ y. item_sets t (Temp i) y ≡ true) p x (Transfer ms) e item set);
    second = held_within behind b.transfer.all j b.transfer.within (temp_read (Temp j) q rd j refl None behind s);
  }
  set_beside p q flag live x i j (to_end ms kept k item w c s) e set rd =
      absurd (unlike (sets (Temp i) ms) (of_item (λ y. item_sets t (Temp i) y ≡ true) p x (Transfer ms) e item set) (c.unset i))
  set_beside p q flag live x i j (to_block ends next there item h w s) e set rd =
      absurd (exit_unset flag live ends next i h (of_item (λ y. item_sets t (Temp i) y ≡ true) p x (End ends) e item set))

  set_after : (p : Place) (x : Item) (i j : ℕ) → item_at r p ≡ Some x → item_sets t (Temp i) x ≡ true → IsLiveAfter t r (Temp j) p → AreTogether i j
  set_after p x i j e set after =
      let f = found p x e in let rd = is_read j after.next after.live in let there = item_of_read (Temp j) after.next rd in
      set_beside p after.next f.flag f.live x i j (goes p f.flag f.live after.next (shows p f.flag f.live f.stands) (next_of p after.next after.goes) there.0 there.1) e set rd

  set_both : (p : Place) (flag : Option ℕ) (live : List ℕ) (x : Item) (i j : ℕ) → Shows p flag live → item_at r p ≡ Some x → item_sets t (Temp i) x ≡ true
      → item_sets t (Temp j) x ≡ true → AreTogether i j
  set_both p flag live x i j (in_body ms kept behind item w b s) e set also = record {
    all = b.transfer.all;
    apart = b.transfer.apart;
    first = b.transfer.set i (of_item (λ y. item_sets t (Temp i) y ≡ true) p x (Transfer ms) e item set);
    second = b.transfer.set j (of_item (λ y. item_sets t (Temp j) y ≡ true) p x (Transfer ms) e item also);
  }
  set_both p flag live x i j (compares ms kept k item w c s) e set also =
      absurd (unlike (sets (Temp i) ms) (of_item (λ y. item_sets t (Temp i) y ≡ true) p x (Transfer ms) e item set) (c.unset i))
  set_both p flag live x i j (at_end b next has follows item h) e set also =
      absurd (exit_unset flag live b.exit next i h (of_item (λ y. item_sets t (Temp i) y ≡ true) p x (End b.exit) e item set))

  pub together : (i j : ℕ) → AreLiveAtOnce t r i j → AreTogether i j
  together i j (both_live p h k) =
      let one = is_read i p h in let two = is_read j p k in
      let at = item_of_read (Temp i) p one in
      let f = found p at.0 at.1 in
      record {
        all = f.live;
        apart = f.stands.apart;
        first = temp_read (Temp i) p one i refl f.flag f.live f.stands;
        second = temp_read (Temp j) p two j refl f.flag f.live f.stands;
      }
  together i j (both_set p x e h k) = let f = found p x e in set_both p f.flag f.live x i j (shows p f.flag f.live f.stands) e h k
  together i j (left_set p x e h after) = set_after p x i j e h after
  together i j (right_set p x e h after) =
      let z = set_after p x j i e h after in record { all = z.all; apart = z.apart; first = z.second; second = z.first }
