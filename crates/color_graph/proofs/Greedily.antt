-- Seats that are given one after the other.
use Rattle.std.proofs.Common.{◌≡◌, ◌≢◌, ◌⊎◌, inl, inr, ℕ, zero, suc, ◌+◌, ◌<◌, ◌≤◌, Bool, true, false, List, [], ◌∷◌, ◌++◌, length, replicate, Option, Some, None, refl, sym, ap, subst, ◌∙◌, arith, AllPairs, slice_index_or}
use Rattle.std.specs.Prelude.{◌&&◌, ◌||◌, ◌==◌, if◌then◌else◌}
use Rattle.std.proofs.lemmas.Bool.{eq-eqb, ne_eqb, or_left, or_right, cases_order}
use Rattle.std.proofs.lemmas.List.{get_or_push, get_or_append_left, get_or_past, get_or-replicate}
use Rattle.temp_machine.specs.Routines.{Routine, Target}
use Rattle.temp_machine.specs.Tidy.{is_among}
use Rattle.color_code.specs.Colors.{Seats, IsColoring, IsSparing}
use Rattle.color_code.specs.Greedy.{has_color, no_seats, with_seat, Conflicts, AreConflicts, is_held, first_free, seat_for, greedy}
use Rattle.color_code.specs.Laws.{GreedyIsSparing}
use Rattle.color_graph.specs.declared.graph.Graph.{Graph}
use Rattle.color_graph.specs.Sharing.{conflicts_in}
use Rattle.color_graph.specs.Meeting.{HaveHomes}
use Rattle.color_graph.specs.Seats.{seats_in, below, numbers, AreMarks}

-- marks of held registers

pub below_next : (j : ℕ) → below (j + 1) ≡ j ∷ below j
below_next j = let e : j + 1 ≡ suc j = omega arith in ap below e

abbrev pub HeldTo : ℕ → Graph → List (Option ℕ) → List Bool → Type 0
HeldTo j g seats marks =
    (colors : List ℕ) (c : ℕ) → c < 256 → slice_index_or marks c false ≡ is_held (conflicts_in g) colors (seats_in seats) (below j) (length seats) c

pub held_none : (g : Graph) (seats : List (Option ℕ)) → HeldTo 0 g seats (replicate 256 false)
held_none g seats colors c l = get_or-replicate 256 c false false l

pub held_next : (j : ℕ) (g : Graph) (seats : List (Option ℕ)) (marks new : List Bool)
    → ((c : ℕ) → slice_index_or new c false ≡ (((conflicts_in g).between (length seats) j && has_color (seats_in seats j) c) || slice_index_or marks c false))
    → HeldTo j g seats marks → HeldTo (j + 1) g seats new
held_next j g seats marks new more held colors c l =
    more c
    ∙ ap (λ (b : Bool). ((conflicts_in g).between (length seats) j && has_color (seats_in seats j) c) || b) (held colors c l)
    ∙ ap (λ (done : List ℕ). is_held (conflicts_in g) colors (seats_in seats) done (length seats) c) (sym (below_next j))

pub held_done : (j : ℕ) (g : Graph) (seats : List (Option ℕ)) (marks : List Bool) → j ≡ length seats → HeldTo j g seats marks
    → (colors : List ℕ) → AreMarks marks (is_held (conflicts_in g) colors (seats_in seats) (below (length seats)) (length seats))
held_done j g seats marks e held colors = subst (λ (n : ℕ). AreMarks marks (is_held (conflicts_in g) colors (seats_in seats) (below n) (length seats))) e (held colors)

-- marks of one register

pub marked_none : (marks : List Bool) (c : ℕ) → slice_index_or marks c false ≡ (has_color None c || slice_index_or marks c false)
marked_none marks c = refl

-- the first free one

pub free_taken : (x : Conflicts) (colors : List ℕ) (seats : Seats) (done : List ℕ) (k c : ℕ) (rest : List ℕ) (o : Option ℕ) → is_held x colors seats done k c ≡ true
    → o ≡ first_free x colors seats done k rest → o ≡ first_free x colors seats done k (c ∷ rest)
free_taken x colors seats done k c rest o e f =
    f ∙ sym (ap (λ (b : Bool). if b then first_free x colors seats done k rest else Some c) e)

pub free_found : (x : Conflicts) (colors : List ℕ) (seats : Seats) (done : List ℕ) (k c : ℕ) (rest : List ℕ) → is_held x colors seats done k c ≡ false
    → Some c ≡ first_free x colors seats done k (c ∷ rest)
free_found x colors seats done k c rest e = sym (ap (λ (b : Bool). if b then first_free x colors seats done k rest else Some c) e)

-- seats in a list

seat_at : (seats : List (Option ℕ)) (s : Option ℕ) (j : ℕ) → with_seat (seats_in seats) (length seats) s j ≡ seats_in (seats ++ s ∷ []) j
seat_at seats s j = by (cases_order j (length seats))
  where
    chosen : (b : Bool) → (length seats == j) ≡ b → with_seat (seats_in seats) (length seats) s j ≡ (if b then s else seats_in seats j)
    chosen b e = ap (λ (c : Bool). if c then s else seats_in seats j) e

    by : (j ≡ length seats) ⊎ ((j < length seats) ⊎ (length seats < j)) → with_seat (seats_in seats) (length seats) s j ≡ seats_in (seats ++ s ∷ []) j
    by (inl e) = chosen true (eq-eqb (length seats) j (sym e)) ∙ sym (get_or_push seats s None j (sym e))
    by (inr (inl l)) =
        chosen false (ne_eqb (length seats) j (λ e. omega (arith, e, l))) ∙ sym (get_or_append_left seats (s ∷ []) None j l)
    by (inr (inr l)) =
        chosen false (ne_eqb (length seats) j (λ e. omega (arith, e, l))) ∙ get_or_past seats j None (omega (arith, l))
        ∙ sym (get_or_past (seats ++ s ∷ []) j None (longer seats j l))
      where
        longer : (xs : List (Option ℕ)) (n : ℕ) → length xs < n → length (xs ++ s ∷ []) ≤ n
        longer [] n h = omega (arith, h)
        longer (x ∷ xs) zero h = absurd (omega (arith, h))
        longer (x ∷ xs) (suc n) h = let l = longer xs n (omega (arith, h)) in omega (arith, l)

seated : (seats : List (Option ℕ)) (s : Option ℕ) → with_seat (seats_in seats) (length seats) s ≡ seats_in (seats ++ s ∷ [])
seated seats s = λ i. λ j. seat_at seats s j i

length_more : (seats : List (Option ℕ)) (s : Option ℕ) → length (seats ++ s ∷ []) ≡ suc (length seats)
length_more [] s = refl
length_more (x ∷ xs) s = ap suc (length_more xs s)

pub record SeatsTo (g : Graph) (colors : List ℕ) (seats : List (Option ℕ)) : Type 0 where
  pub within : length seats ≤ length g.rows.items
  pub rest : (m : ℕ) → length seats + m ≡ length g.rows.items
      → greedy (conflicts_in g) colors (numbers (length seats) m) (below (length seats)) (seats_in seats)
      ≡ greedy (conflicts_in g) colors (numbers 0 (length g.rows.items)) [] no_seats

pub seats_none : (g : Graph) (colors : List ℕ) → SeatsTo g colors []
seats_none g colors = record {
  within = omega arith;
  rest = λ m e. ap (λ (n : ℕ). greedy (conflicts_in g) colors (numbers 0 n) [] no_seats) (let f : m ≡ length g.rows.items = omega (arith, e) in f);
}

pub seats_next : (g : Graph) (colors : List ℕ) (seats : List (Option ℕ)) (s : Option ℕ) → length seats < length g.rows.items
    → s ≡ seat_for (conflicts_in g) colors (seats_in seats) (below (length seats)) (length seats) → SeatsTo g colors seats → SeatsTo g colors (seats ++ s ∷ [])
seats_next g colors seats s l is t = record { within = (let e = length_more seats s in omega (arith, e, l)); rest = rest }
  where
    rest : (m : ℕ) → length (seats ++ s ∷ []) + m ≡ length g.rows.items
        → greedy (conflicts_in g) colors (numbers (length (seats ++ s ∷ [])) m) (below (length (seats ++ s ∷ []))) (seats_in (seats ++ s ∷ []))
        ≡ greedy (conflicts_in g) colors (numbers 0 (length g.rows.items)) [] no_seats
    rest m e =
        ap (λ (n : ℕ). greedy (conflicts_in g) colors (numbers n m) (below n) (seats_in (seats ++ s ∷ []))) (length_more seats s)
        ∙ ap (λ (f : Seats). greedy (conflicts_in g) colors (numbers (suc (length seats)) m) (length seats ∷ below (length seats)) f) (sym (seated seats s))
        ∙ ap (λ (o : Option ℕ). greedy (conflicts_in g) colors (numbers (suc (length seats)) m) (length seats ∷ below (length seats)) (with_seat (seats_in seats) (length seats) o)) is
        ∙ t.rest (suc m) (let f = length_more seats s in omega (arith, e, f))

pub seats_done : (g : Graph) (colors : List ℕ) (seats : List (Option ℕ)) → length g.rows.items ≤ length seats → SeatsTo g colors seats
    → (length seats ≡ length g.rows.items) × (seats_in seats ≡ greedy (conflicts_in g) colors (numbers 0 (length g.rows.items)) [] no_seats)
seats_done g colors seats l t = (long, t.rest 0 (omega (arith, long)))
  where
    long : length seats ≡ length g.rows.items
    long = let h = t.within in omega (arith, l, h)

-- the order of the temporaries

length_numbers : (n m : ℕ) → length (numbers n m) ≡ m
length_numbers n zero = refl
length_numbers n (suc m) = ap suc (length_numbers (suc n) m)

get_numbers : (n m i d : ℕ) → i < m → slice_index_or (numbers n m) i d ≡ n + i
get_numbers n zero i d l = absurd (omega (arith, l))
get_numbers n (suc m) zero d l = omega arith
get_numbers n (suc m) (suc i) d l = let e = get_numbers (suc n) m i d (omega (arith, l)) in e ∙ (let f : suc n + i ≡ n + suc i = omega arith in f)

numbers_differ : (n m : ℕ) → AllPairs (λ j k. j ≢ k) (numbers n m)
numbers_differ n m i j d l h same =
    let long = length_numbers n m in
    let a = get_numbers n m i d (omega (arith, l, h, long)) in
    let b = get_numbers n m j d (omega (arith, h, long)) in
    omega (arith, l, same, a, b)

have_by : (n i : ℕ) (rest : List ℕ) → (n < i → is_among i rest ≡ true) → n ≤ i → is_among i (n ∷ rest) ≡ true
have_by n i rest behind l = by (cases_order n i)
  where
    by : (n ≡ i) ⊎ ((n < i) ⊎ (i < n)) → is_among i (n ∷ rest) ≡ true
    by (inl e) = or_left (n == i) (is_among i rest) (eq-eqb n i e)
    by (inr (inl k)) = or_right (n == i) (is_among i rest) (behind k)
    by (inr (inr k)) = absurd (omega (arith, k, l))

numbers_have : (n m i : ℕ) → n ≤ i → i < n + m → is_among i (numbers n m) ≡ true
numbers_have n zero i l h = absurd (omega (arith, l, h))
numbers_have n (suc m) i l h = have_by n i (numbers (suc n) m) (λ k. numbers_have (suc n) m i (omega (arith, k)) (omega (arith, h))) l

-- so greedy seats are a sparing colouring
pub greedy_seats : GreedyIsSparing → (t : Target) (r : Routine) (g : Graph) (colors : List ℕ) (seats : List (Option ℕ)) → length g.rows.items ≡ length r.homes → HaveHomes r
    → AreConflicts t r (conflicts_in g) → seats_in seats ≡ greedy (conflicts_in g) colors (numbers 0 (length g.rows.items)) [] no_seats
    → IsColoring t r colors (seats_in seats) × IsSparing t r colors (seats_in seats)
greedy_seats law t r g colors seats count homes are is =
    subst (λ (f : Seats). IsColoring t r colors f × IsSparing t r colors f) (sym is)
    (law t r (conflicts_in g) colors (numbers 0 (length g.rows.items)) are (numbers_differ 0 (length g.rows.items))
    (λ i u. numbers_have 0 (length g.rows.items) i (omega arith) (let l = homes i u in omega (arith, l, count))))
