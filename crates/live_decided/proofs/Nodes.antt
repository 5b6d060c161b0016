-- The places of a routine with the cells that are read there, directly or for flags.
use Rattle.std.proofs.Common.{◌≡◌, inl, inr, ◌∙◌, ℕ, zero, suc, ◌+◌, ◌==◌, Bool, true, false, ◌||◌, ◌&&◌, not, List, [], ◌∷◌, ◌++◌, map, slice_get, Option, Some, None, refl, sym, subst, ap, arith}
use Rattle.std.proofs.lemmas.Bool.Decides.{nat_tests}
use Rattle.std.specs.List.{list_any}
use Rattle.rtl_tree.specs.declared.cells.Cell.{Cell}
use Rattle.rtl_tree.specs.declared.cells.Cell.TheVariants.{Flag}
use Rattle.rtl_tree.specs.Moves.{Goal, ToCell, ToMemory, Move}
use Rattle.rtl_tree.specs.Same.{same_cell}
use Rattle.rtl_tree.proofs.Equality.{and_left, and_right, same_cell-is, same_cell-own}
use Rattle.temp_machine.specs.Routines.{Exit, Falls, Jumps, Branches, Calls, Returns, BasicBlock, Routine, Target, exit_transfers, block_transfers}
use Rattle.temp_machine.specs.Cells.{sets_by, move_reads, reads_for_flag}
use Rattle.temp_machine.specs.Flow.{successors}
use Rattle.temp_machine.specs.Live.{Place, Item, Transfer, End, item_in, item_of, item_at, item_reads, item_reads_for, item_sets, IsNext, inside, across, IsRead, here as read_here, for_flag as read_for_flag, later}
use Rattle.temp_machine.specs.Tidy.{transfers_of}
use Rattle.color_table.proofs.Standing.{any_is, is_any}
use Rattle.live_decided.proofs.Lists.{In, here, there, or_cases, or_left, or_right, both, any_in, in_front, in_back, in_map}
use Rattle.live_decided.proofs.Paths.{Reaches, ends, goes}

pub record Node : Type 0 where
  pub place : Place
  pub cell : Cell

none_some : {A B : Type 0} {x : A} → None ≡ Some x → B
none_some {A} {B} {x} e = absurd (never e)
  where
    never : None ≡ Some x → ⊥
    never e = cc

false_true : {A : Type 0} → false ≡ true → A
false_true e = absurd (never e)
  where
    never : false ≡ true → ⊥
    never e = cc

same_some : {A : Type 0} {x y : A} → Some x ≡ Some y → x ≡ y
same_some e = cc

equal : (m n : ℕ) → (m == n) ≡ true → m ≡ n
equal m n e = grind (arith, nat_tests)

own : (n : ℕ) → (n == n) ≡ true
own n = grind (arith, nat_tests)

-- the graph
abbrev goes_on : ℕ → Routine → Place → Place → Item → Bool
goes_on w r p q (Transfer ms) = q.block == p.block && q.at == suc p.at
goes_on w r p q (End e) = q.at == 0 && list_any (λ k. k == q.block) (successors w r p.block)

abbrev reads_for : Cell → Cell → Item → Bool
reads_for (Flag n) c x = item_reads_for n c x
reads_for d c x = false

abbrev passes : Target → Cell → Cell → Item → Bool
passes t c d x = (not (item_sets t c x) && same_cell c d) || reads_for d c x

abbrev edge_by : Target → Routine → Node → Node → Option Item → Bool
edge_by t r a b (Some x) = goes_on t.word r a.place b.place x && passes t a.cell b.cell x
edge_by t r a b None = false

abbrev pub edge : Target → Routine → Node → Node → Bool
edge t r a b = edge_by t r a b (item_at r a.place)

abbrev accept_by : Target → Cell → Option Item → Bool
accept_by t c (Some x) = item_reads t c x
accept_by t c None = false

abbrev pub accept : Target → Routine → Node → Bool
accept t r a = accept_by t a.cell (item_at r a.place)

module _ (t : Target) (r : Routine) where
  next_holds : (p q : Place) (x : Item) → IsNext t.word r p q → item_at r p ≡ Some x → goes_on t.word r p q x ≡ true
  next_holds _ _ x (inside block at ms e) f =
      subst (λ (y : Item). goes_on t.word r (record { block = block; at = at }) (record { block = block; at = suc at }) y ≡ true) (same_some (sym e ∙ f))
      (both (block == block) (suc at == suc at) (own block) (own (suc at)))
  next_holds _ _ x (across block at next e h c) f =
      subst (λ (y : Item). goes_on t.word r (record { block = block; at = at }) (record { block = next; at = 0 }) y ≡ true) (same_some (sym h ∙ f))
      (is_any (λ k. k == next) (successors t.word r block) next c (own next))

  moved : (p : Place) (block at : ℕ) (q : Place) → q.block ≡ block → q.at ≡ at → IsNext t.word r p (record { block = block; at = at }) → IsNext t.word r p q
  moved p block at q e f = subst (IsNext t.word r p) (λ i. record { block = sym e i; at = sym f i })

  next_from : (p q : Place) (x : Item) → item_at r p ≡ Some x → goes_on t.word r p q x ≡ true → IsNext t.word r p q
  next_from p q (Transfer ms) e g =
      moved p p.block (suc p.at) q (equal q.block p.block (and_left (q.block == p.block) _ g)) (equal q.at (suc p.at) (and_right (q.block == p.block) _ g))
      (inside p.block p.at ms e)
  next_from p q (End x) e g =
      let k = any_is (λ j. j == q.block) (successors t.word r p.block) (and_right (q.at == 0) _ g) in
      moved p k.0 0 q (sym (equal k.0 q.block k.2)) (equal q.at 0 (and_left (q.at == 0) _ g)) (across p.block p.at k.0 x e k.1)

  item_here : (a : Node) (x : Item) → item_at r a.place ≡ Some x → item_reads t a.cell x ≡ true → accept t r a ≡ true
  item_here a x e f = ap (accept_by t a.cell) e ∙ f

  edge_here : (a b : Node) (x : Item) → item_at r a.place ≡ Some x → goes_on t.word r a.place b.place x ≡ true → passes t a.cell b.cell x ≡ true → edge t r a b ≡ true
  edge_here a b x e f g = ap (edge_by t r a b) e ∙ both (goes_on t.word r a.place b.place x) (passes t a.cell b.cell x) f g

  negated : (b : Bool) → b ≡ false → not b ≡ true
  negated b e = cc

  unnegated : (b : Bool) → not b ≡ true → b ≡ false
  unnegated true e = false_true e
  unnegated false e = refl

  -- what is read is reached
  pub read_reaches : (c : Cell) (p : Place) → IsRead t r c p → Reaches Node (edge t r) (accept t r) (record { place = p; cell = c })
  read_reaches _ _ (read_here c p x e f) = ends (record { place = p; cell = c }) (item_here (record { place = p; cell = c }) x e f)
  read_reaches _ _ (read_for_flag c n p next x e f g rest) =
      goes (record { place = p; cell = c }) (record { place = next; cell = Flag n })
      (edge_here (record { place = p; cell = c }) (record { place = next; cell = Flag n }) x e (next_holds p next x g e)
      (or_right (not (item_sets t c x) && same_cell c (Flag n)) (item_reads_for n c x) f)) (read_reaches (Flag n) next rest)
  read_reaches _ _ (later c p next x e f g rest) =
      goes (record { place = p; cell = c }) (record { place = next; cell = c })
      (edge_here (record { place = p; cell = c }) (record { place = next; cell = c }) x e (next_holds p next x g e)
      (or_left (not (item_sets t c x) && same_cell c c) (reads_for c c x) (both (not (item_sets t c x)) (same_cell c c) (negated (item_sets t c x) f) (same_cell-own c))))
      (read_reaches c next rest)

  -- and the other way round
  record IsEdge (a b : Node) : Type 0 where
    item : Item
    at : item_at r a.place ≡ Some item
    next : IsNext t.word r a.place b.place
    passed : passes t a.cell b.cell item ≡ true

  edge_is : (a b : Node) → edge t r a b ≡ true → IsEdge a b
  edge_is a b e = by (item_at r a.place) refl e
    where
      by : (o : Option Item) → item_at r a.place ≡ o → edge_by t r a b o ≡ true → IsEdge a b
      by None q f = false_true f
      by (Some x) q f = record {
        item = x;
        at = q;
        next = next_from a.place b.place x q (and_left (goes_on t.word r a.place b.place x) _ f);
        passed = and_right (goes_on t.word r a.place b.place x) _ f;
      }

  flag_read : (a : Node) (d : Cell) (next : Place) (x : Item) → item_at r a.place ≡ Some x → IsNext t.word r a.place next → reads_for d a.cell x ≡ true → IsRead t r d next
      → IsRead t r a.cell a.place
  flag_read a (Flag n) next x e g f rest = read_for_flag a.cell n a.place next x e f g rest
  flag_read a d next x e g f rest = false_true f

  on_read : (a b : Node) → IsEdge a b → IsRead t r b.cell b.place → IsRead t r a.cell a.place
  on_read a b h rest = elim (or_cases (not (item_sets t a.cell h.item) && same_cell a.cell b.cell) (reads_for b.cell a.cell h.item) h.passed) [
    | inl p ↦ later a.cell a.place b.place h.item h.at (unnegated (item_sets t a.cell h.item) (and_left (not (item_sets t a.cell h.item)) _ p)) h.next
        (subst (λ (c : Cell). IsRead t r c b.place) (sym (same_cell-is a.cell b.cell (and_right (not (item_sets t a.cell h.item)) _ p))) rest)
    | inr q ↦ flag_read a b.cell b.place h.item h.at h.next q rest
  ]

  ends_read : (a : Node) → accept t r a ≡ true → IsRead t r a.cell a.place
  ends_read a e = by (item_at r a.place) refl e
    where
      by : (o : Option Item) → item_at r a.place ≡ o → accept_by t a.cell o ≡ true → IsRead t r a.cell a.place
      by None q f = false_true f
      by (Some x) q f = read_here a.cell a.place x q f

  pub reaches_read : (a : Node) → Reaches Node (edge t r) (accept t r) a → IsRead t r a.cell a.place
  reaches_read _ (ends a e) = ends_read a e
  reaches_read _ (goes a b e rest) = on_read a b (edge_is a b e) (reaches_read b rest)

  -- a place from which something is read is one of the routine
  pub record HasItem (p : Place) : Type 0 where
    pub item : Item
    pub is : item_at r p ≡ Some item

  read_item : (c : Cell) (p : Place) → IsRead t r c p → HasItem p
  read_item _ _ (read_here c p x e f) = record { item = x; is = e }
  read_item _ _ (read_for_flag c n p next x e f g rest) = record { item = x; is = e }
  read_item _ _ (later c p next x e f g rest) = record { item = x; is = e }

  -- the cells that the routine sets
  abbrev goal_cells : Goal → List Cell
  goal_cells (ToCell c) = c ∷ []
  goal_cells (ToMemory w a) = []

  abbrev move_cells : List Move → List Cell
  move_cells [] = []
  move_cells (m ∷ ms) = goal_cells m.to ++ move_cells ms

  abbrev pub cells_in : List (List Move) → List Cell
  cells_in [] = []
  cells_in (ms ∷ rest) = move_cells ms ++ cells_in rest

  goal_flag : (n : ℕ) (g : Goal) → sets_by (same_cell (Flag n)) g ≡ true → In (Flag n) (goal_cells g)
  goal_flag n (ToCell c) e = subst (λ (d : Cell). In (Flag n) (d ∷ [])) (same_cell-is (Flag n) c e) (here (Flag n) [])
  goal_flag n (ToMemory w a) e = false_true e

  move_flag : (n : ℕ) (ms : List Move) (m : Move) → In m ms → sets_by (same_cell (Flag n)) m.to ≡ true → In (Flag n) (move_cells ms)
  move_flag n _ _ (here m ms) e = in_front (goal_cells m.to) (move_cells ms) (Flag n) (goal_flag n m.to e)
  move_flag n _ _ (there m x ms i) e = in_back (goal_cells x.to) (move_cells ms) (Flag n) (move_flag n ms m i e)

  cells_of_transfer : (c : Cell) (ms : List Move) (rest : List (List Move)) → In ms rest → In c (move_cells ms) → In c (cells_in rest)
  cells_of_transfer c _ _ (here ms rest) k = in_front (move_cells ms) (cells_in rest) c k
  cells_of_transfer c _ _ (there ms other rest i) k = in_back (move_cells other) (cells_in rest) c (cells_of_transfer c ms rest i k)

  flag_set : (n : ℕ) (c : Cell) (ms : List Move) → reads_for_flag n c ms ≡ true → In (Flag n) (move_cells ms)
  flag_set n c ms e =
      let k = any_in (λ m. sets_by (same_cell (Flag n)) m.to && move_reads c m) ms e in
      move_flag n ms k.0 k.1 (and_left (sets_by (same_cell (Flag n)) k.0.to) _ k.2)

  -- blocks, and what stands in them
  record IsInBlock (p : Place) (x : Item) : Type 0 where
    block : BasicBlock
    has : slice_get r.blocks p.block ≡ Some block
    is : item_in block.body block.exit p.at ≡ Some x

  in_block : (p : Place) (x : Item) → item_at r p ≡ Some x → IsInBlock p x
  in_block p x e = by (slice_get r.blocks p.block) refl e
    where
      by : (o : Option BasicBlock) → slice_get r.blocks p.block ≡ o → item_of o p.at ≡ Some x → IsInBlock p x
      by None q f = none_some f
      by (Some b) q f = record { block = b; has = q; is = f }

  block_in : (bs : List BasicBlock) (k : ℕ) (b : BasicBlock) → slice_get bs k ≡ Some b → In b bs
  block_in [] k b e = none_some e
  block_in (x ∷ bs) zero b e = subst (λ (y : BasicBlock). In y (x ∷ bs)) (same_some e) (here x bs)
  block_in (x ∷ bs) (suc k) b e = there b x bs (block_in bs k b e)

  transfers_in : (bs : List BasicBlock) (b : BasicBlock) (ms : List Move) → In b bs → In ms (block_transfers b) → In ms (transfers_of bs)
  transfers_in _ _ ms (here b bs) k = in_front (block_transfers b) (transfers_of bs) ms k
  transfers_in _ _ ms (there b x bs i) k = in_back (block_transfers x) (transfers_of bs) ms (transfers_in bs b ms i k)

  item_flag : (n : ℕ) (c : Cell) (body : List (List Move)) (e : Exit) (k : ℕ) (x : Item) → item_in body e k ≡ Some x → item_reads_for n c x ≡ true
      → (ms : List Move) × In ms (body ++ exit_transfers e) × (reads_for_flag n c ms ≡ true)
  item_flag n c [] e zero x q f = exit_flag e (subst (λ (y : Item). item_reads_for n c y ≡ true) (sym (same_some q)) f)
    where
      exit_flag : (e : Exit) → item_reads_for n c (End e) ≡ true → (ms : List Move) × In ms (exit_transfers e) × (reads_for_flag n c ms ≡ true)
      exit_flag (Jumps ms) g = (ms, here ms [], g)
      exit_flag (Branches ms) g = (ms, here ms [], g)
      exit_flag Falls g = false_true g
      exit_flag (Calls ms) g = false_true g
      exit_flag Returns g = false_true g
  item_flag n c [] e (suc k) x q f = none_some q
  item_flag n c (ms ∷ rest) e zero x q f = (ms, here ms (rest ++ exit_transfers e), subst (λ (y : Item). item_reads_for n c y ≡ true) (sym (same_some q)) f)
  item_flag n c (ms ∷ rest) e (suc k) x q f =
      let h = item_flag n c rest e k x q f in
      (h.0, there h.0 ms (rest ++ exit_transfers e) h.1, h.2)

  abbrev pub cells_from : Cell → List Cell
  cells_from c = c ∷ cells_in (transfers_of r.blocks)

  flag_there : (p : Place) (x : Item) (n : ℕ) (c : Cell) → item_at r p ≡ Some x → item_reads_for n c x ≡ true → In (Flag n) (cells_in (transfers_of r.blocks))
  flag_there p x n c e f =
      let h = in_block p x e in
      let k = item_flag n c h.block.body h.block.exit p.at x h.is f in
      cells_of_transfer (Flag n) k.0 (transfers_of r.blocks) (transfers_in r.blocks h.block k.0 (block_in r.blocks p.block h.block h.has) k.1) (flag_set n c k.0 k.2)

  reads_there : (c d e : Cell) (p : Place) (x : Item) → item_at r p ≡ Some x → reads_for d e x ≡ true → In d (cells_from c)
  reads_there c (Flag n) e p x q f = there (Flag n) c (cells_in (transfers_of r.blocks)) (flag_there p x n e q f)
  reads_there c d e p x q f = false_true f

  cell_there : (c : Cell) (a b : Node) → In a.cell (cells_from c) → IsEdge a b → In b.cell (cells_from c)
  cell_there c a b i h = elim (or_cases (not (item_sets t a.cell h.item) && same_cell a.cell b.cell) (reads_for b.cell a.cell h.item) h.passed) [
    | inl p ↦ subst (λ (d : Cell). In d (cells_from c)) (same_cell-is a.cell b.cell (and_right (not (item_sets t a.cell h.item)) _ p)) i
    | inr q ↦ reads_there c b.cell a.cell a.place h.item h.at q
  ]

  -- the places of the routine
  abbrev places_in : ℕ → ℕ → List (List Move) → List Place
  places_in k n [] = record { block = k; at = n } ∷ []
  places_in k n (ms ∷ rest) = record { block = k; at = n } ∷ places_in k (n + 1) rest

  abbrev places_from : ℕ → List BasicBlock → List Place
  places_from k [] = []
  places_from k (b ∷ bs) = places_in k 0 b.body ++ places_from (k + 1) bs

  at_place : (ps : List Place) (k m n : ℕ) → m ≡ n → In (record { block = k; at = m }) ps → In (record { block = k; at = n }) ps
  at_place ps k m n e = subst (λ (j : ℕ). In (record { block = k; at = j }) ps) e

  item_place : (k n : ℕ) (body : List (List Move)) (e : Exit) (j : ℕ) (x : Item) → item_in body e j ≡ Some x → In (record { block = k; at = n + j }) (places_in k n body)
  item_place k n [] e zero x q = at_place (places_in k n []) k n (n + 0) (omega arith) (here (record { block = k; at = n }) [])
  item_place k n [] e (suc j) x q = none_some q
  item_place k n (ms ∷ rest) e zero x q = at_place (places_in k n (ms ∷ rest)) k n (n + 0) (omega arith) (here (record { block = k; at = n }) (places_in k (n + 1) rest))
  item_place k n (ms ∷ rest) e (suc j) x q =
      at_place (places_in k n (ms ∷ rest)) k (n + 1 + j) (n + suc j) (omega arith)
      (there (record { block = k; at = n + 1 + j }) (record { block = k; at = n }) (places_in k (n + 1) rest) (item_place k (n + 1) rest e j x q))

  block_place : (k : ℕ) (bs : List BasicBlock) (i : ℕ) (b : BasicBlock) (j : ℕ) (x : Item) → slice_get bs i ≡ Some b → item_in b.body b.exit j ≡ Some x
      → In (record { block = k + i; at = j }) (places_from k bs)
  block_place k [] i b j x h q = none_some h
  block_place k (c ∷ bs) zero b j x h q =
      in_front (places_in k 0 c.body) (places_from (k + 1) bs) (record { block = k + 0; at = j })
      (subst (λ (m : ℕ). In (record { block = m; at = j }) (places_in k 0 c.body)) (zero_more k)
      (at_place (places_in k 0 c.body) k (0 + j) j (omega arith) (item_place k 0 c.body c.exit j x (subst (λ (y : BasicBlock). item_in y.body y.exit j ≡ Some x) (sym (same_some h)) q))))
    where
      zero_more : (k : ℕ) → k ≡ k + 0
      zero_more k = omega arith
  block_place k (c ∷ bs) (suc i) b j x h q =
      in_back (places_in k 0 c.body) (places_from (k + 1) bs) (record { block = k + suc i; at = j })
      (subst (λ (m : ℕ). In (record { block = m; at = j }) (places_from (k + 1) bs)) (one_more k i) (block_place (k + 1) bs i b j x h q))
    where
      one_more : (k i : ℕ) → k + 1 + i ≡ k + suc i
      one_more k i = omega arith

  place_there : (p : Place) → HasItem p → In p (places_from 0 r.blocks)
  place_there p h =
      let k = in_block p h.item h.is in
      subst (λ (m : ℕ). In (record { block = m; at = p.at }) (places_from 0 r.blocks)) (from_none p.block) (block_place 0 r.blocks p.block k.block p.at h.item k.has k.is)
    where
      from_none : (m : ℕ) → 0 + m ≡ m
      from_none m = omega arith

  -- all nodes
  abbrev nodes_of : List Place → List Cell → List Node
  nodes_of [] cs = []
  nodes_of (p ∷ ps) cs = map (λ c. record { place = p; cell = c }) cs ++ nodes_of ps cs

  node_there : (ps : List Place) (cs : List Cell) (p : Place) (c : Cell) → In p ps → In c cs → In (record { place = p; cell = c }) (nodes_of ps cs)
  node_there _ cs _ c (here p ps) k = in_front (map (λ d. record { place = p; cell = d }) cs) (nodes_of ps cs) (record { place = p; cell = c })
      (in_map (λ (d : Cell). record { place = p; cell = d }) cs c k)
  node_there _ cs _ c (there p q ps i) k = in_back (map (λ d. record { place = q; cell = d }) cs) (nodes_of ps cs) (record { place = p; cell = c }) (node_there ps cs p c i k)

  abbrev pub nodes : Cell → List Node
  nodes c = nodes_of (places_from 0 r.blocks) (cells_from c)

  -- what is reached from such a node is one
  pub closed : (c : Cell) (a b : Node) → In a.cell (cells_from c) → edge t r a b ≡ true → Reaches Node (edge t r) (accept t r) b
      → In b.cell (cells_from c) × In b (nodes c)
  closed c a b i e rest =
      let k = cell_there c a b i (edge_is a b e) in
      let p = place_there b.place (read_item b.cell b.place (reaches_read b rest)) in
      (k, node_there (places_from 0 r.blocks) (cells_from c) b.place b.cell p k)
