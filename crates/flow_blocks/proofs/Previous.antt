-- Lists of predecessors, by one block more.
use Rattle.std.proofs.Common.{◌≡◌, ◌⊎◌, inl, inr, ℕ, zero, suc, ◌+◌, ◌<◌, ◌≤◌, Bool, true, false, List, [], ◌∷◌, ◌++◌, length, Option, Some, None, refl, sym, ap, subst, ◌∙◌, arith, get_or}
use Rattle.std.specs.Prelude.{◌&&◌, ◌==◌, ◌↔◌, nat_lt, slice_get, slice_index_or, All, AllPairs, Contains}
use Rattle.std.specs.List.{list_any}
use Rattle.std.specs.Global.{Vec}
use Rattle.std.proofs.lemmas.Bool.{false≢true, and_parts, and_from, or_cases, or_left, or_right, eqb-true, eq-eqb, lt-ltb, cases_lt}
use Rattle.std.proofs.lemmas.Option.{slice_get_past, slice_get-get_or}
use Rattle.std.proofs.lemmas.List.Elements.{All-push, All-weaker, Contains-append_left, Contains-push, Contains-push_cases}
use Rattle.std.proofs.lemmas.List.Quantifiers.{all_pairs_push}
use Rattle.temp_machine.specs.Routines.{BasicBlock, Routine}
use Rattle.temp_machine.specs.Flow.{successors_at, successors}
use Rattle.flow_blocks.specs.declared.flows.Next.{Next}
use Rattle.flow_blocks.specs.declared.flows.Flow.{Flow}
use Rattle.flow_blocks.specs.Flows.{positions_of, next_in, next_at, previous_at, IsFlow}
use Rattle.flow_blocks.specs.Making.{AreSuccessors, AreSuccessorsTo, ArePreviousTo, is_among, listed, with_one}

pub contains_none : {A : Type 0} (x : A) → Contains [] x → ⊥
contains_none x has = let l = has.1 in omega (arith, l)

pub contains_later : {A : Type 0} (y x : A) (xs : List A) → Contains xs x → Contains (y ∷ xs) x
contains_later y x xs has = (suc has.0, (let l = has.1 in omega (arith, l)), has.2)

among_by : (k j : ℕ) (js : List ℕ) → (is_among k js ≡ true → Contains js k) → ((j == k) ≡ true) ⊎ (is_among k js ≡ true) → Contains (j ∷ js) k
among_by k j js rest (inl h) = (0, omega arith, eqb-true j k h)
among_by k j js rest (inr h) = contains_later j k js (rest h)

among_contains : (k : ℕ) (ks : List ℕ) → is_among k ks ≡ true → Contains ks k
among_contains k [] e = absurd (false≢true e)
among_contains k (j ∷ js) e = among_by k j js (λ h. among_contains k js h) (or_cases (j == k) (is_among k js) e)

contains_among : (k : ℕ) (ks : List ℕ) (i : ℕ) → i < length ks → slice_index_or ks i k ≡ k → is_among k ks ≡ true
contains_among k [] i l e = absurd (omega (arith, l))
contains_among k (j ∷ js) zero l e = or_left (j == k) (is_among k js) (eq-eqb j k e)
contains_among k (j ∷ js) (suc i) l e = or_right (j == k) (is_among k js) (contains_among k js i (omega (arith, l)) e)

pub previous_none : (next : List Next) (n : ℕ) (lists : ℕ → List ℕ) → ((k : ℕ) → lists k ≡ []) → ArePreviousTo 0 n next lists
previous_none next n lists none = record {
  each = λ k j l has. absurd (contains_none j (subst (λ (xs : List ℕ). Contains xs j) (none k) has));
  all = λ k j l m has. absurd (omega (arith, m));
  below = λ k. subst (All (λ j. j < 0)) (sym (none k)) (λ i d l. absurd (omega (arith, l)));
  ordered = λ k. subst (AllPairs (λ i j. i < j)) (sym (none k)) (λ i j d l m. absurd (omega (arith, m)));
}

pub previous_next : (next : List Next) (n i : ℕ) (x : Next) (old new : ℕ → List ℕ) → slice_get next i ≡ Some x
    → ((k : ℕ) → new k ≡ with_one (is_among k (positions_of x) && nat_lt k n) (old k) i) → ArePreviousTo i n next old → ArePreviousTo (i + 1) n next new
previous_next next n i x old new at is p = record { each = each; all = all; below = below; ordered = ordered }
  where
    each : (k j : ℕ) → k < n → Contains (new k) j → Contains (next_in (slice_get next j)) k
    each k j l has = by (is_among k (positions_of x) && nat_lt k n) refl (subst (λ (xs : List ℕ). Contains xs j) (is k) has)
      where
        last : is_among k (positions_of x) ≡ true → i ≡ j → Contains (next_in (slice_get next j)) k
        last e f = subst (λ (m : ℕ). Contains (next_in (slice_get next m)) k) f (subst (λ (o : Option Next). Contains (next_in o) k) (sym at) (among_contains k (positions_of x) e))

        pushed : is_among k (positions_of x) ≡ true → Contains (old k) j ⊎ (i ≡ j) → Contains (next_in (slice_get next j)) k
        pushed e (inl h) = p.each k j l h
        pushed e (inr h) = last e h

        by : (b : Bool) → (is_among k (positions_of x) && nat_lt k n) ≡ b → Contains (with_one b (old k) i) j → Contains (next_in (slice_get next j)) k
        by true e h = pushed (and_parts (is_among k (positions_of x)) (nat_lt k n) e).0 (Contains-push_cases (old k) i j h)
        by false e h = p.each k j l h

    all : (k j : ℕ) → k < n → j < i + 1 → Contains (next_in (slice_get next j)) k → Contains (new k) j
    all k j l m has = subst (λ (xs : List ℕ). Contains xs j) (sym (is k)) (by (cases_lt j i))
      where
        kept : (b : Bool) → Contains (old k) j → Contains (with_one b (old k) i) j
        kept true h = Contains-append_left (old k) (i ∷ []) j h
        kept false h = h

        put : Contains (positions_of x) k → (is_among k (positions_of x) && nat_lt k n) ≡ true
        put h = and_from (is_among k (positions_of x)) (nat_lt k n) (contains_among k (positions_of x) h.0 h.1 h.2) (lt-ltb k n l)

        here : j ≡ i → Contains (with_one (is_among k (positions_of x) && nat_lt k n) (old k) i) j
        here e =
            let h : Contains (positions_of x) k = subst (λ (o : Option Next). Contains (next_in o) k) at (subst (λ (m : ℕ). Contains (next_in (slice_get next m)) k) e has) in
            subst (λ (b : Bool). Contains (with_one b (old k) i) j) (sym (put h)) (subst (Contains (old k ++ i ∷ [])) (sym e) (Contains-push (old k) i))

        by : (j < i) ⊎ (i ≤ j) → Contains (with_one (is_among k (positions_of x) && nat_lt k n) (old k) i) j
        by (inl h) = kept (is_among k (positions_of x) && nat_lt k n) (p.all k j l h has)
        by (inr h) = here (omega (arith, h, m))

    wider : (k : ℕ) → All (λ j. j < i + 1) (old k)
    wider k = All-weaker (λ j. j < i) (λ j. j < i + 1) (λ j h. omega (arith, h)) (old k) (p.below k)

    below : (k : ℕ) → All (λ j. j < i + 1) (new k)
    below k = subst (All (λ j. j < i + 1)) (sym (is k)) (by (is_among k (positions_of x) && nat_lt k n))
      where
        by : (b : Bool) → All (λ j. j < i + 1) (with_one b (old k) i)
        by true = All-push (λ j. j < i + 1) (old k) i (wider k) (omega arith)
        by false = wider k

    ordered : (k : ℕ) → AllPairs (λ i j. i < j) (new k)
    ordered k = subst (AllPairs (λ i j. i < j)) (sym (is k)) (by (is_among k (positions_of x) && nat_lt k n))
      where
        by : (b : Bool) → AllPairs (λ i j. i < j) (with_one b (old k) i)
        by true = all_pairs_push (λ i j. i < j) (old k) i (p.ordered k) (p.below k)
        by false = p.ordered k

pub previous_more : (next : List Next) (n i m : ℕ) (d : Next) (old new : ℕ → List ℕ) → i < length next → m ≡ n
    → ((k : ℕ) → new k ≡ with_one (is_among k (positions_of (get_or next i d)) && nat_lt k m) (old k) i) → ArePreviousTo i n next old → ArePreviousTo (i + 1) n next new
previous_more next n i m d old new l e is p =
    previous_next next n i (get_or next i d) old new (slice_get-get_or next i d l)
    (λ k. is k ∙ ap (λ (x : ℕ). with_one (is_among k (positions_of (get_or next i d)) && nat_lt k x) (old k) i) e) p

-- the whole flow

pub flow_made : (w : ℕ) (r : Routine) (f : Flow) → AreSuccessors w r.blocks f.next → ArePreviousTo (length f.next) (length f.next) f.next (listed f.previous.items) → IsFlow w r f
flow_made w r f s p = record { next = next; previous = previous; ordered = p.ordered }
  where
    past : (k : ℕ) → length r.blocks ≤ k → successors w r k ≡ []
    past k l = ap (successors_at w r.blocks k) (slice_get_past r.blocks k l)

    next : (k : ℕ) → next_at f k ≡ successors w r k
    next k = by (cases_lt k (length r.blocks))
      where
        by : (k < length r.blocks) ⊎ (length r.blocks ≤ k) → next_at f k ≡ successors w r k
        by (inl l) = s.1 k l
        by (inr l) = ap next_in (slice_get_past f.next k (let e = s.0 in omega (arith, e, l))) ∙ sym (past k l)

    within : (k j : ℕ) → Contains (successors w r j) k → j < length f.next
    within k j has = by (cases_lt j (length r.blocks))
      where
        by : (j < length r.blocks) ⊎ (length r.blocks ≤ j) → j < length f.next
        by (inl l) = let e = s.0 in omega (arith, e, l)
        by (inr l) = absurd (contains_none k (subst (λ (xs : List ℕ). Contains xs k) (past j l) has))

    previous : (k j : ℕ) → k < length r.blocks → Contains (previous_at f k) j ↔ Contains (successors w r j) k
    previous k j l =
        let m : k < length f.next = (let e = s.0 in omega (arith, e, l)) in (
          λ has. subst (λ (xs : List ℕ). Contains xs k) (next j) (p.each k j m has),
          λ has. p.all k j m (within k j has) (subst (λ (xs : List ℕ). Contains xs k) (sym (next j)) has),
        )
