-- The list of the loops is right.
use Rattle.std.proofs.Common.{◌≡◌, ◌⊎◌, inl, inr, ℕ, zero, suc, ◌+◌, ◌-◌, ◌<◌, ◌≤◌, Bool, true, false, cond, List, [], ◌∷◌, ◌++◌, length, map, Option, Some, None, refl, sym, ap, subst, ◌∙◌, arith}
use Rattle.std.specs.Prelude.{◌&&◌, ◌==◌, nat_le, if◌then◌else◌, slice_get, slice_index_or, All, AllPairs, Contains}
use Rattle.std.specs.List.{list_all, filter}
use Rattle.std.proofs.lemmas.Bool.{false≢true, and_parts, and_from, or_cases, or_left, or_right, eqb-true, eq-eqb, leb-true, le-leb, cases_eq, cases_lt}
use Rattle.std.proofs.lemmas.Option.{slice_get_past}
use Rattle.std.proofs.lemmas.List.{length-map}
use Rattle.std.proofs.lemmas.List.Elements.{All-append, All-nil, All-cons, All-head, All-tail, All-map, All-weaker, Contains-append_left, Contains-append_right}
use Rattle.std.proofs.lemmas.List.Kept.{AllPairs-cons, AllPairs-filter}
use Rattle.temp_machine.specs.Routines.{Exit, Falls, Jumps, Branches, Calls, Returns, BasicBlock, Routine}
use Rattle.temp_machine.specs.Flow.{successors, successors_at, IsInRun, Falls_at, IsLoop}
use Rattle.temp_code.specs.declared.code.LoopMark.{LoopMark}
use Rattle.temp_code.specs.declared.code.Block.{Block}
use Rattle.temp_code.specs.declared.code.Code.{Code}
use Rattle.temp_code.specs.Routines.{block_of, routine_of}
use Rattle.flow_blocks.specs.declared.flows.Flow.{Flow}
use Rattle.flow_blocks.specs.Flows.{previous_at, IsFlow}
use Rattle.flow_loops.specs.Loops.{ComesBefore, AreLoops}
use Rattle.flow_loops.specs.Looping.{is_fall, falls_by, falls_at, is_near, holds_along, is_entered_once, closes_loop, mark, marks_at, marks_to}

contains_none : {A : Type 0} (x : A) → Contains [] x → ⊥
contains_none x has = let l = has.1 in omega (arith, l)

contains_later : {A : Type 0} (y x : A) (xs : List A) → Contains xs x → Contains (y ∷ xs) x
contains_later y x xs has = (suc has.0, (let l = has.1 in omega (arith, l)), has.2)

-- tests along lists and numbers

all_test : (p : ℕ → Bool) (ks : List ℕ) (k : ℕ) → list_all p ks ≡ true → Contains ks k → p k ≡ true
all_test p ks k e has = at ks has.0 e has.1 has.2
  where
    at : (js : List ℕ) (i : ℕ) → list_all p js ≡ true → i < length js → slice_index_or js i k ≡ k → p k ≡ true
    at [] i e l f = absurd (omega (arith, l))
    at (j ∷ js) zero e l f = subst (λ (x : ℕ). p x ≡ true) f (and_parts (p j) (list_all p js) e).0
    at (j ∷ js) (suc i) e l f = at js i (and_parts (p j) (list_all p js) e).1 (omega (arith, l)) f

test_all : (p : ℕ → Bool) (ks : List ℕ) → ((k : ℕ) → Contains ks k → p k ≡ true) → list_all p ks ≡ true
test_all p [] h = refl
test_all p (k ∷ ks) h = and_from (p k) (list_all p ks) (h k (0, omega arith, refl)) (test_all p ks (λ j has. h j (contains_later k j ks has)))

along_by : (p : ℕ → Bool) (k n j : ℕ) → holds_along p k (suc n) ≡ true → (holds_along p (suc k) n ≡ true → (j ≡ k → ⊥) → p j ≡ true) → (j ≡ k) ⊎ (j ≡ k → ⊥) → p j ≡ true
along_by p k n j e rest (inl f) = subst (λ (x : ℕ). p x ≡ true) (sym f) (and_parts (p k) (holds_along p (suc k) n) e).0
along_by p k n j e rest (inr ne) = rest (and_parts (p k) (holds_along p (suc k) n) e).1 ne

along : (p : ℕ → Bool) (k n j : ℕ) → holds_along p k n ≡ true → k ≤ j → j < k + n → p j ≡ true
along p k zero j e l m = absurd (omega (arith, l, m))
along p k (suc n) j e l m = along_by p k n j e (λ h ne. along p (suc k) n j h (omega (arith, l, ne)) (omega (arith, m))) (cases_eq j k)

to_along : (p : ℕ → Bool) (k n : ℕ) → ((j : ℕ) → k ≤ j → j < k + n → p j ≡ true) → holds_along p k n ≡ true
to_along p k zero h = refl
to_along p k (suc n) h = and_from (p k) (holds_along p (suc k) n) (h k (omega arith) (omega arith)) (to_along p (suc k) n (λ j l m. h j (omega (arith, l)) (omega (arith, m))))

-- members of lists that are made

still_there : (b : Bool) (j : ℕ) (js : List ℕ) (k : ℕ) → Contains js k → Contains (cond b (j ∷ js) js) k
still_there true j js k has = contains_later j k js has
still_there false j js k has = has

contains_filter : (p : ℕ → Bool) (ks : List ℕ) (k i : ℕ) → i < length ks → slice_index_or ks i k ≡ k → p k ≡ true → Contains (filter p ks) k
contains_filter p [] k i l e h = absurd (omega (arith, l))
contains_filter p (j ∷ js) k zero l e h = subst (λ (b : Bool). Contains (cond b (j ∷ filter p js) (filter p js)) k) (sym (subst (λ (x : ℕ). p x ≡ true) (sym e) h)) (0, omega arith, e)
contains_filter p (j ∷ js) k (suc i) l e h = still_there (p j) j (filter p js) k (contains_filter p js k i (omega (arith, l)) e h)

contains_map : {A B : Type 0} (f : A → B) (xs : List A) (x : A) (i : ℕ) → i < length xs → slice_index_or xs i x ≡ x → Contains (map f xs) (f x)
contains_map f [] x i l e = absurd (omega (arith, l))
contains_map f (y ∷ ys) x zero l e = (0, omega arith, ap f e)
contains_map f (y ∷ ys) x (suc i) l e = contains_later (f y) (f x) (map f ys) (contains_map f ys x i (omega (arith, l)) e)

first_pairs : {A : Type 0} (R : A → A → Type 0) (x : A) (xs : List A) → AllPairs R (x ∷ xs) → All (R x) xs
first_pairs R x xs f = λ k d l. f 0 (suc k) d (omega arith) (omega (arith, l))

rest_pairs : {A : Type 0} (R : A → A → Type 0) (x : A) (xs : List A) → AllPairs R (x ∷ xs) → AllPairs R xs
rest_pairs R x xs f = λ i j d l m. f (suc i) (suc j) d (omega (arith, l)) (omega (arith, m))

-- pairs of lists that are put together
pairs_append : {A : Type 0} (R : A → A → Type 0) (xs ys : List A) → AllPairs R xs → AllPairs R ys → All (λ x. All (R x) ys) xs → AllPairs R (xs ++ ys)
pairs_append R [] ys p q h = q
pairs_append R (x ∷ xs) ys p q h =
    AllPairs-cons R x (xs ++ ys) (All-append (R x) xs ys (first_pairs R x xs p) (All-head (λ z. All (R z) ys) x xs h))
    (pairs_append R xs ys (rest_pairs R x xs p) q (All-tail (λ z. All (R z) ys) x xs h))

-- the loops that begin at a block

module _ (f : Flow) where
  all_by : (P : LoopMark → Type 0) (first k : ℕ) (ks : List ℕ) → (closes_loop f first k ≡ true → P (mark first k)) → All P (map (mark first) ks)
      → (b : Bool) → closes_loop f first k ≡ b → All P (map (mark first) (cond b (k ∷ ks) ks))
  all_by P first k ks h rest true e = All-cons P (mark first k) (map (mark first) ks) (h e) rest
  all_by P first k ks h rest false e = rest

  all_marks : (P : LoopMark → Type 0) (first : ℕ) (ks : List ℕ) → ((k : ℕ) → Contains ks k → closes_loop f first k ≡ true → P (mark first k))
      → All P (map (mark first) (filter (closes_loop f first) ks))
  all_marks P first [] h = All-nil P
  all_marks P first (k ∷ ks) h =
      all_by P first k (filter (closes_loop f first) ks) (h k (0, omega arith, refl)) (all_marks P first ks (λ j has e. h j (contains_later k j ks has) e))
      (closes_loop f first k) refl

  ordered_marks : (first : ℕ) (ks : List ℕ) → AllPairs (λ i j. i < j) ks → AllPairs ComesBefore (map (mark first) ks)
  ordered_marks first [] h = λ i j d l m. absurd (omega (arith, m))
  ordered_marks first (k ∷ ks) h =
      AllPairs-cons ComesBefore (mark first k) (map (mark first) ks)
      (All-map (ComesBefore (mark first k)) (mark first) ks (All-weaker (λ j. k < j) (λ j. ComesBefore (mark first k) (mark first j)) (λ j l. inr (refl, l)) ks
      (first_pairs (λ i j. i < j) k ks h)))
      (ordered_marks first ks (rest_pairs (λ i j. i < j) k ks h))

  module _ (blocks : List BasicBlock) where
    abbrev behind : ℕ → List LoopMark
    behind n = if falls_at blocks n then marks_at f (suc n) else []

    all_behind : (P : LoopMark → Type 0) (n : ℕ) → (falls_at blocks n ≡ true → (k : ℕ) → Contains (previous_at f (suc n)) k → closes_loop f (suc n) k ≡ true → P (mark (suc n) k))
        → All P (behind n)
    all_behind P n h = by (falls_at blocks n) refl
      where
        by : (b : Bool) → falls_at blocks n ≡ b → All P (if b then marks_at f (suc n) else [])
        by true e = all_marks P (suc n) (previous_at f (suc n)) (h e)
        by false e = All-nil P

    all_to : (P : LoopMark → Type 0) (n : ℕ) → ((m : ℕ) → m < n → All P (behind m)) → All P (marks_to f blocks n)
    all_to P zero h = All-nil P
    all_to P (suc n) h = All-append P (marks_to f blocks n) (behind n) (all_to P n (λ m l. h m (omega (arith, l)))) (h n (omega arith))

    contained_by : (n m : ℕ) (x : LoopMark) → ((m ≡ n → ⊥) → Contains (marks_to f blocks n) x) → Contains (behind m) x → (m ≡ n) ⊎ (m ≡ n → ⊥)
        → Contains (marks_to f blocks (suc n)) x
    contained_by n m x rest has (inl e) = Contains-append_right (marks_to f blocks n) (behind n) x (subst (λ (j : ℕ). Contains (behind j) x) e has)
    contained_by n m x rest has (inr ne) = Contains-append_left (marks_to f blocks n) (behind n) x (rest ne)

    contained_to : (n m : ℕ) (x : LoopMark) → m < n → Contains (behind m) x → Contains (marks_to f blocks n) x
    contained_to zero m x l has = absurd (omega (arith, l))
    contained_to (suc n) m x l has = contained_by n m x (λ ne. contained_to n m x (omega (arith, l, ne)) has) has (cases_eq m n)

    firsts : (n : ℕ) → All (λ x. x.first ≤ n) (marks_to f blocks n)
    firsts n = all_to (λ x. x.first ≤ n) n (λ m l. all_behind (λ x. x.first ≤ n) m (λ e k has c. omega (arith, l)))

    ordered_to : ((k : ℕ) → AllPairs (λ i j. i < j) (previous_at f k)) → (n : ℕ) → AllPairs ComesBefore (marks_to f blocks n)
    ordered_to sorted zero = λ i j d l m. absurd (omega (arith, m))
    ordered_to sorted (suc n) = pairs_append ComesBefore (marks_to f blocks n) (behind n) (ordered_to sorted n) here cross
      where
        here : AllPairs ComesBefore (behind n)
        here = by (falls_at blocks n)
          where
            by : (b : Bool) → AllPairs ComesBefore (if b then marks_at f (suc n) else [])
            by true = ordered_marks (suc n) (filter (closes_loop f (suc n)) (previous_at f (suc n))) (AllPairs-filter (λ i j. i < j) (closes_loop f (suc n)) (previous_at f (suc n)) (sorted (suc n)))
            by false = λ i j d l m. absurd (omega (arith, m))

        cross : All (λ x. All (ComesBefore x) (behind n)) (marks_to f blocks n)
        cross = All-weaker (λ x. x.first ≤ n) (λ x. All (ComesBefore x) (behind n))
            (λ x l. All-weaker (λ y. y.first ≡ suc n) (ComesBefore x) (λ y e. inl (omega (arith, l, e))) (behind n)
            (all_behind (λ y. y.first ≡ suc n) n (λ e k has c. refl)))
            (marks_to f blocks n) (firsts n)

-- which of them are loops

fall_is : (e : Exit) → is_fall e ≡ true → e ≡ Falls
fall_is Falls h = refl
fall_is (Jumps ms) h = absurd (false≢true h)
fall_is (Branches ms) h = absurd (false≢true h)
fall_is (Calls ms) h = absurd (false≢true h)
fall_is Returns h = absurd (false≢true h)

falls_found : (o : Option BasicBlock) → falls_by o ≡ true → (b : BasicBlock) × (o ≡ Some b) × (b.exit ≡ Falls)
falls_found (Some b) h = (b, refl, fall_is b.exit h)
falls_found None h = absurd (false≢true h)

module _ (w : ℕ) (r : Routine) (f : Flow) (flow : IsFlow w r f) where
  from_within : (j k : ℕ) → Contains (successors w r j) k → j < length r.blocks
  from_within j k has = by (cases_lt j (length r.blocks))
    where
      by : (j < length r.blocks) ⊎ (length r.blocks ≤ j) → j < length r.blocks
      by (inl l) = l
      by (inr l) = absurd (contains_none k (subst (λ (xs : List ℕ). Contains xs k) (ap (successors_at w r.blocks j) (slice_get_past r.blocks j l)) has))

  is_loop : (n k : ℕ) → suc n < length r.blocks → falls_at r.blocks n ≡ true → Contains (previous_at f (suc n)) k → closes_loop f (suc n) k ≡ true → IsLoop w r n (suc n) k
  is_loop n k l falls has closes = record {
    order = leb-true (suc n) k parts.0;
    last_is_block = within;
    back = back;
    just_before = refl;
    falls = falls_found (slice_get r.blocks n) falls;
    only_entry = only;
  }
    where
      parts : (nat_le (suc n) k ≡ true) × (is_entered_once f (suc n) k ≡ true)
      parts = and_parts (nat_le (suc n) k) (is_entered_once f (suc n) k) closes

      back : Contains (successors w r k) (suc n)
      back = (flow.previous (suc n) k l).0 has

      within : k < length r.blocks
      within = from_within k (suc n) back

      near : (j : ℕ) → is_near (suc n) k j ≡ true → IsInRun (suc n) k j ⊎ (j ≡ n)
      near j e = by (or_cases (j == suc n - 1) (nat_le (suc n) j && nat_le j k) e)
        where
          by : ((j == suc n - 1) ≡ true) ⊎ ((nat_le (suc n) j && nat_le j k) ≡ true) → IsInRun (suc n) k j ⊎ (j ≡ n)
          by (inl h) = inr (let g = eqb-true j (suc n - 1) h in omega (arith, g))
          by (inr h) = let p = and_parts (nat_le (suc n) j) (nat_le j k) h in inl (record { from = leb-true (suc n) j p.0; to = leb-true j k p.1 })

      only : (j next : ℕ) → Contains (successors w r j) next → IsInRun (suc n) k next → IsInRun (suc n) k j ⊎ (j ≡ n)
      only j next to run =
          let a = run.from in
          let b = run.to in
          near j (all_test (is_near (suc n) k) (previous_at f next) j
          (along (λ x. list_all (is_near (suc n) k) (previous_at f x)) (suc n) (suc k - suc n) next parts.1 a (omega (arith, a, b)))
          ((flow.previous next j (omega (arith, b, within))).1 to))

  loop_closes : (n k : ℕ) → IsLoop w r n (suc n) k → closes_loop f (suc n) k ≡ true
  loop_closes n k loop = and_from (nat_le (suc n) k) (is_entered_once f (suc n) k) (le-leb (suc n) k loop.order)
      (to_along (λ x. list_all (is_near (suc n) k) (previous_at f x)) (suc n) (suc k - suc n) entered)
    where
      near : (j : ℕ) → IsInRun (suc n) k j ⊎ (j ≡ n) → is_near (suc n) k j ≡ true
      near j (inl run) =
          or_right (j == suc n - 1) (nat_le (suc n) j && nat_le j k)
          (and_from (nat_le (suc n) j) (nat_le j k) (le-leb (suc n) j run.from) (le-leb j k run.to))
      near j (inr e) = or_left (j == suc n - 1) (nat_le (suc n) j && nat_le j k) (eq-eqb j (suc n - 1) (omega (arith, e)))

      entered : (x : ℕ) → suc n ≤ x → x < suc n + (suc k - suc n) → list_all (is_near (suc n) k) (previous_at f x) ≡ true
      entered x l m =
          let o = loop.order in
          let last = loop.last_is_block in
          let below : x ≤ k = omega (arith, m, o) in
          test_all (is_near (suc n) k) (previous_at f x)
          (λ j has. near j (loop.only_entry j x ((flow.previous x j (omega (arith, below, last))).0 has) (record { from = l; to = below })))

  pub are_loops : AreLoops w r (marks_to f r.blocks (length r.blocks - 1))
  are_loops = record { each = each; all = all; ordered = ordered_to f r.blocks flow.ordered (length r.blocks - 1) }
    where
      one_less : (n : ℕ) → n ≡ suc n - 1
      one_less n = omega arith

      each : All (λ x. IsLoop w r x.before x.first x.last) (marks_to f r.blocks (length r.blocks - 1))
      each = all_to f r.blocks (λ x. IsLoop w r x.before x.first x.last) (length r.blocks - 1)
          (λ m l. all_behind f r.blocks (λ x. IsLoop w r x.before x.first x.last) m
          (λ falls k has closes. subst (λ (b : ℕ). IsLoop w r b (suc m) k) (one_less m) (is_loop m k (omega (arith, l)) falls has closes)))

      fall_true : (n : ℕ) → Falls_at r n → falls_at r.blocks n ≡ true
      fall_true n found = ap falls_by found.1 ∙ ap is_fall found.2

      from_block : (n k : ℕ) → IsLoop w r n (suc n) k → Contains (marks_to f r.blocks (length r.blocks - 1)) (record { before = n; first = suc n; last = k })
      from_block n k loop =
          let last = loop.last_is_block in
          let o = loop.order in
          let has = (flow.previous (suc n) k (omega (arith, last, o))).1 loop.back in
          let chosen = contains_filter (closes_loop f (suc n)) (previous_at f (suc n)) k has.0 has.1 has.2 (loop_closes n k loop) in
          let marked = contains_map (mark (suc n)) (filter (closes_loop f (suc n)) (previous_at f (suc n))) k chosen.0 chosen.1 chosen.2 in
          subst (λ (b : ℕ). Contains (marks_to f r.blocks (length r.blocks - 1)) (record { before = b; first = suc n; last = k })) (sym (one_less n))
          (contained_to f r.blocks (length r.blocks - 1) n (mark (suc n) k) (omega (arith, last, o))
          (subst (λ (v : Bool). Contains (if v then marks_at f (suc n) else []) (mark (suc n) k)) (sym (fall_true n loop.falls)) marked))

      all : (before first last : ℕ) → IsLoop w r before first last → Contains (marks_to f r.blocks (length r.blocks - 1)) (record { before = before; first = first; last = last })
      all before first last loop =
          subst (λ (x : ℕ). Contains (marks_to f r.blocks (length r.blocks - 1)) (record { before = before; first = x; last = last })) loop.just_before
          (from_block before last (subst (λ (x : ℕ). IsLoop w r before x last) (sym loop.just_before) loop))

-- what the code finds

along_here : (p : ℕ → Bool) (k last : ℕ) → k ≤ last → p k ≡ true → holds_along p k (suc last - k) ≡ holds_along p (k + 1) (suc last - (k + 1))
along_here p k last l h =
    let more : suc last - k ≡ suc (last - k) = omega (arith, l) in
    let next : suc k ≡ k + 1 = omega arith in
    let left : last - k ≡ suc last - (k + 1) = omega arith in
    ap (holds_along p k) more ∙ ap (λ (b : Bool). b && holds_along p (suc k) (last - k)) h ∙ ap (λ (j : ℕ). holds_along p j (last - k)) next ∙ ap (holds_along p (k + 1)) left

-- one block more is entered from near alone
pub along_more : (p : ℕ → Bool) (first k last : ℕ) (near : Bool) → k ≤ last → near ≡ p k → near ≡ true
    → (k ≤ suc last) × (holds_along p k (suc last - k) ≡ holds_along p first (suc last - first))
    → (k + 1 ≤ suc last) × (holds_along p (k + 1) (suc last - (k + 1)) ≡ holds_along p first (suc last - first))
along_more p first k last near l is e so_far = (omega (arith, l), sym (along_here p k last l (sym is ∙ e)) ∙ so_far.1)

-- all that were found
pub all_found : (w : ℕ) (c : Code) (f : Flow) (bs : List Block) (marks : List LoopMark) (n : ℕ) → bs ≡ c.blocks → n ≡ length bs - 1
    → marks ≡ marks_to f (map block_of bs) n → IsFlow w (routine_of c) f → AreLoops w (routine_of c) marks
all_found w c f bs marks n same count is flow =
    subst (AreLoops w (routine_of c)) (sym (is ∙ ap (λ (xs : List Block). marks_to f (map block_of xs) n) same ∙ ap (marks_to f (map block_of c.blocks)) long)) (are_loops w (routine_of c) f flow)
  where
    long : n ≡ length (map block_of c.blocks) - 1
    long = count ∙ ap (λ (xs : List Block). length xs - 1) same ∙ ap (λ (k : ℕ). k - 1) (sym (length-map c.blocks block_of))
