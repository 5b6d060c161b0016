-- Greedy colouring is sparing.
use Rattle.std.proofs.Common.{◌≡◌, ◌≢◌, ℕ, suc, ◌<◌, ◌==◌, ◌&&◌, ◌||◌, Bool, true, false, cond, List, [], ◌∷◌, length, slice_index_or, Option, Some, None, AllPairs, refl, sym, ap, subst, ◌∙◌, inl, inr, arith}
use Rattle.std.specs.Prelude.{◌⊎◌}
use Rattle.std.proofs.lemmas.Bool.{eqb-true, eq-eqb, ne_eqb}
use Rattle.temp_machine.specs.Routines.{Routine, Target}
use Rattle.temp_machine.specs.Live.{AreLiveAtOnce, both_live, both_set, left_set, right_set, LivesOverCall}
use Rattle.temp_machine.specs.Tidy.{is_among}
use Rattle.color_code.specs.Colors.{Seats, IsColoring, IsHeldBeside}
use Rattle.color_code.specs.Greedy.{has_color, no_seats, with_seat, Conflicts, AreConflicts, is_held, first_free, seat_for, greedy}
use Rattle.color_code.specs.Laws.{GreedyIsSparing}

false_true : {A : Type 0} → false ≡ true → A
false_true e = absurd (let k : false ≡ true = e in cc)

true_false : {A : Type 0} → true ≡ false → A
true_false e = absurd (let k : true ≡ false = e in cc)

some_none : {A : Type 0} (c : ℕ) → None ≡ Some c → A
some_none c e = absurd (let k : None ≡ Some c = e in cc)

and_of : (b c : Bool) → b ≡ true → c ≡ true → (b && c) ≡ true
and_of b c e f = subst (λ x. (x && c) ≡ true) (sym e) f

and_left : (b c : Bool) → (b && c) ≡ true → b ≡ true
and_left true c e = refl
and_left false c e = e

and_right : (b c : Bool) → (b && c) ≡ true → c ≡ true
and_right true c e = e
and_right false c e = false_true e

or_left : (b c : Bool) → b ≡ true → (b || c) ≡ true
or_left b c e = subst (λ x. (x || c) ≡ true) (sym e) refl

or_right : (b c : Bool) → c ≡ true → (b || c) ≡ true
or_right true c e = refl
or_right false c e = e

or_cases : {A : Type 0} (b c : Bool) → (b || c) ≡ true → (b ≡ true → A) → (c ≡ true → A) → A
or_cases true c e f g = f refl
or_cases false c e f g = g e

or_none : (b c : Bool) → (b || c) ≡ false → c ≡ false
or_none true c e = true_false e
or_none false c e = e

by_bool : {A : Type 0} (b : Bool) → (b ≡ true → A) → (b ≡ false → A) → A
by_bool true f g = f refl
by_bool false f g = g refl

color_is : (o : Option ℕ) (c : ℕ) → has_color o c ≡ true → o ≡ Some c
color_is (Some r) c e = ap Some (eqb-true r c e)
color_is None c e = false_true e

is_color : (o : Option ℕ) (c : ℕ) → o ≡ Some c → has_color o c ≡ true
is_color o c e = ap (λ x. has_color x c) e ∙ eq-eqb c c refl

among_here : (k : ℕ) (ks : List ℕ) → is_among k (k ∷ ks) ≡ true
among_here k ks = or_left (k == k) (is_among k ks) (eq-eqb k k refl)

among_behind : (k j : ℕ) (ks : List ℕ) → is_among k ks ≡ true → is_among k (j ∷ ks) ≡ true
among_behind k j ks e = or_right (j == k) (is_among k ks) e

among_cases : {A : Type 0} (k j : ℕ) (ks : List ℕ) → is_among k (j ∷ ks) ≡ true → (j ≡ k → A) → (is_among k ks ≡ true → A) → A
among_cases k j ks e f g = or_cases (j == k) (is_among k ks) e (λ h. f (eqb-true j k h)) g

-- a list whose numbers differ, number by number
abbrev AreApart : List ℕ → Type 0
AreApart [] = Unit {0}
AreApart (k ∷ ks) = (is_among k ks ≡ false) × AreApart ks

index_of : (k : ℕ) (ks : List ℕ) (d : ℕ) → is_among k ks ≡ true → (i : ℕ) × (i < length ks) × (slice_index_or ks i d ≡ k)
index_of k [] d e = false_true e
index_of k (j ∷ ks) d e =
    among_cases k j ks e
    (λ f. (0, omega arith, f))
    (λ f. let found = index_of k ks d f in (suc (found.0), omega (arith, found.1), found.2))

apart_of : (ks : List ℕ) → AllPairs (λ j k. j ≢ k) ks → AreApart ks
apart_of [] h = tt
apart_of (k ∷ ks) h = (
  by_bool (is_among k ks) (λ e. let found = index_of k ks 0 e in absurd (h 0 (suc (found.0)) 0 (omega arith) (omega (arith, found.1)) (sym found.2))) (λ e. e),
  apart_of ks (λ i j d p q. h (suc i) (suc j) d (omega (arith, p)) (omega (arith, q))),
)

swapped : (t : Target) (r : Routine) (i j : ℕ) → AreLiveAtOnce t r i j → AreLiveAtOnce t r j i
swapped t r i j (both_live p a b) = both_live p b a
swapped t r i j (both_set p x e a b) = both_set p x e b a
swapped t r i j (left_set p x e a b) = right_set p x e a b
swapped t r i j (right_set p x e a b) = left_set p x e a b

module _ (t : Target) (r : Routine) (x : Conflicts) (colors : List ℕ) (are : AreConflicts t r x) where
  swap : (i j : ℕ) → i ≢ j → x.between i j ≡ true → x.between j i ≡ true
  swap i j ne e = (are.between j i (λ f. ne (sym f))).1 (swapped t r i j ((are.between i j ne).0 e))

  -- what is asked of those that were done
  record Spares (done : List ℕ) (seats : Seats) : Type 0 where
    others : (i : ℕ) → is_among i done ≡ false → seats i ≡ None
    proper : (i j c : ℕ) → is_among i done ≡ true → is_among j done ≡ true → i ≢ j → x.between i j ≡ true → seats i ≡ Some c → seats j ≢ Some c
    own_color : (i c : ℕ) → is_among i done ≡ true → seats i ≡ Some c → is_among c colors ≡ true
    homes : (i : ℕ) → is_among i done ≡ true → x.over_call i ≡ true → seats i ≡ None
    need : (i : ℕ) → is_among i done ≡ true → seats i ≡ None
        → (x.over_call i ≡ true) ⊎ ((c : ℕ) → is_among c colors ≡ true → (j : ℕ) × (i ≢ j) × (x.between i j ≡ true) × (seats j ≡ Some c))

  held_by : (seats : Seats) (js : List ℕ) (k c : ℕ) → is_held x colors seats js k c ≡ true → (j : ℕ) × (is_among j js ≡ true) × (x.between k j ≡ true) × (seats j ≡ Some c)
  held_by seats [] k c e = false_true e
  held_by seats (i ∷ js) k c e =
      or_cases (x.between k i && has_color (seats i) c) (is_held x colors seats js k c) e
      (λ f. (i, among_here i js, and_left (x.between k i) _ f, color_is (seats i) c (and_right (x.between k i) _ f)))
      (λ f. let h = held_by seats js k c f in (h.0, among_behind (h.0) i js h.1, h.2, h.3))

  not_held : (seats : Seats) (js : List ℕ) (k c j : ℕ) → is_held x colors seats js k c ≡ false → is_among j js ≡ true → x.between k j ≡ true → seats j ≢ Some c
  not_held seats [] k c j e h f s = false_true h
  not_held seats (i ∷ js) k c j e h f s =
      among_cases j i js h
      (λ g. true_false (sym (or_left _ (is_held x colors seats js k c) (and_of (x.between k i) _ (ap (x.between k) g ∙ f) (is_color (seats i) c (ap seats g ∙ s)))) ∙ e))
      (λ g. not_held seats js k c j (or_none (x.between k i && has_color (seats i) c) _ e) g f s)

  free_none : (seats : Seats) (js : List ℕ) (k : ℕ) (cs : List ℕ) → first_free x colors seats js k cs ≡ None → (c : ℕ) → is_among c cs ≡ true → is_held x colors seats js k c ≡ true
  free_none seats js k [] e c h = false_true h
  free_none seats js k (d ∷ cs) e c h = by (is_held x colors seats js k d) refl e (free_none seats js k cs)
    where
      by : (b : Bool) → is_held x colors seats js k d ≡ b → cond b (first_free x colors seats js k cs) (Some d) ≡ None
          → (first_free x colors seats js k cs ≡ None → (c : ℕ) → is_among c cs ≡ true → is_held x colors seats js k c ≡ true) → is_held x colors seats js k c ≡ true
      by true f g ih = among_cases c d cs h (λ q. ap (is_held x colors seats js k) (sym q) ∙ f) (λ q. ih g c q)
      by false f g ih = some_none d (sym g)

  free_some : (seats : Seats) (js : List ℕ) (k : ℕ) (cs : List ℕ) (c : ℕ) → first_free x colors seats js k cs ≡ Some c → (is_held x colors seats js k c ≡ false) × (is_among c cs ≡ true)
  free_some seats js k [] c e = some_none c e
  free_some seats js k (d ∷ cs) c e = by (is_held x colors seats js k d) refl e (free_some seats js k cs c)
    where
      by : (b : Bool) → is_held x colors seats js k d ≡ b → cond b (first_free x colors seats js k cs) (Some d) ≡ Some c
          → (first_free x colors seats js k cs ≡ Some c → (is_held x colors seats js k c ≡ false) × (is_among c cs ≡ true)) → (is_held x colors seats js k c ≡ false) × (is_among c (d ∷ cs) ≡ true)
      by true f g ih = let h = ih g in (h.0, among_behind c d cs h.1)
      by false f g ih = let s : d ≡ c = cc in (ap (is_held x colors seats js k) (sym s) ∙ f, or_left (d == c) (is_among c cs) (eq-eqb d c s))

  module _ (js : List ℕ) (seats : Seats) (k : ℕ) (fresh : is_among k js ≡ false) (good : Spares js seats) where
    abbrev seat : Option ℕ
    seat = seat_for x colors seats js k

    abbrev more : Seats
    more = with_seat seats k seat

    differs : (j : ℕ) → is_among j js ≡ true → k ≢ j
    differs j h e = true_false (sym h ∙ ap (λ n. is_among n js) (sym e) ∙ fresh)

    here_seat : more k ≡ seat
    here_seat = ap (λ b. cond b seat (seats k)) (eq-eqb k k refl)

    other_seat : (j : ℕ) → k ≢ j → more j ≡ seats j
    other_seat j ne = ap (λ b. cond b seat (seats j)) (ne_eqb k j ne)

    old_seat : (j : ℕ) → is_among j js ≡ true → more j ≡ seats j
    old_seat j h = other_seat j (differs j h)

    seated : (c : ℕ) → seat ≡ Some c → (x.over_call k ≡ false) × (is_held x colors seats js k c ≡ false) × (is_among c colors ≡ true)
    seated c e = by (x.over_call k) refl e
      where
        by : (b : Bool) → x.over_call k ≡ b → cond b None (first_free x colors seats js k colors) ≡ Some c → (x.over_call k ≡ false) × (is_held x colors seats js k c ≡ false) × (is_among c colors ≡ true)
        by true f g = some_none c g
        by false f g = let h = free_some seats js k colors c g in (f, h.0, h.1)

    unseated : seat ≡ None → (x.over_call k ≡ true) ⊎ ((c : ℕ) → is_among c colors ≡ true → is_held x colors seats js k c ≡ true)
    unseated e = by (x.over_call k) refl e
      where
        by : (b : Bool) → x.over_call k ≡ b → cond b None (first_free x colors seats js k colors) ≡ None → (x.over_call k ≡ true) ⊎ ((c : ℕ) → is_among c colors ≡ true → is_held x colors seats js k c ≡ true)
        by true f g = inl f
        by false f g = inr (free_none seats js k colors g)

    proper : (i j c : ℕ) → is_among i (k ∷ js) ≡ true → is_among j (k ∷ js) ≡ true → i ≢ j → x.between i j ≡ true → more i ≡ Some c → more j ≢ Some c
    proper i j c hi hj ne f e g =
        among_cases i k js hi
        (λ a. among_cases j k js hj (λ b. ne (sym a ∙ b))
        (λ b. not_held seats js k c j ((seated c (sym here_seat ∙ ap more a ∙ e)).1) b (ap (λ n. x.between n j) a ∙ f) (sym (old_seat j b) ∙ g)))
        (λ a. among_cases j k js hj
        (λ b. not_held seats js k c i ((seated c (sym here_seat ∙ ap more b ∙ g)).1) a (ap (λ n. x.between n i) b ∙ swap i j ne f) (sym (old_seat i a) ∙ e))
        (λ b. good.proper i j c a b ne f (sym (old_seat i a) ∙ e) (sym (old_seat j b) ∙ g)))

    abbrev Needs : ℕ → Type 0
    Needs i = (x.over_call i ≡ true) ⊎ ((c : ℕ) → is_among c colors ≡ true → (j : ℕ) × (i ≢ j) × (x.between i j ≡ true) × (more j ≡ Some c))

    here_need : (i : ℕ) → k ≡ i → (x.over_call k ≡ true) ⊎ ((c : ℕ) → is_among c colors ≡ true → is_held x colors seats js k c ≡ true) → Needs i
    here_need i a (inl o) = inl (ap x.over_call (sym a) ∙ o)
    here_need i a (inr f) = inr (λ c hc. let w = held_by seats js k c (f c hc) in (w.0, (λ e. differs (w.0) w.1 (a ∙ e)), ap (λ n. x.between n (w.0)) (sym a) ∙ w.2, old_seat (w.0) w.1 ∙ w.3))

    -- a neighbour that holds a colour was done before
    there_need : (i : ℕ) → (x.over_call i ≡ true) ⊎ ((c : ℕ) → is_among c colors ≡ true → (j : ℕ) × (i ≢ j) × (x.between i j ≡ true) × (seats j ≡ Some c)) → Needs i
    there_need i (inl o) = inl o
    there_need i (inr f) = inr (λ c hc. let w = f c hc in (w.0, w.1, w.2, other_seat (w.0) (λ e. some_none c (sym (good.others k fresh) ∙ ap seats e ∙ w.3)) ∙ w.3))

    need : (i : ℕ) → is_among i (k ∷ js) ≡ true → more i ≡ None → Needs i
    need i h e = among_cases i k js h (λ a. here_need i a (unseated (sym here_seat ∙ ap more a ∙ e))) (λ a. there_need i (good.need i a (sym (old_seat i a) ∙ e)))

    one_more : Spares (k ∷ js) more
    one_more = record {
      others = λ i h. other_seat i (λ e. true_false (sym (or_left (k == i) (is_among i js) (eq-eqb k i e)) ∙ h)) ∙ good.others i (or_none (k == i) _ h);
      proper = proper;
      own_color = λ i c h e. among_cases i k js h (λ a. (seated c (sym here_seat ∙ ap more a ∙ e)).2) (λ a. good.own_color i c a (sym (old_seat i a) ∙ e));
      homes = λ i h o. among_cases i k js h (λ a. ap more (sym a) ∙ here_seat ∙ ap (λ b. cond b None (first_free x colors seats js k colors)) (ap x.over_call a ∙ o)) (λ a. old_seat i a ∙ good.homes i a o);
      need = need;
    }

  -- those of a list in front of those that are done
  abbrev onto : List ℕ → List ℕ → List ℕ
  onto [] js = js
  onto (k ∷ ks) js = onto ks (k ∷ js)

  greedy_onto : (ks js : List ℕ) (seats : Seats) → AreApart ks → ((k : ℕ) → is_among k ks ≡ true → is_among k js ≡ false) → Spares js seats → Spares (onto ks js) (greedy x colors ks js seats)
  greedy_onto [] js seats apart fresh good = good
  greedy_onto (k ∷ ks) js seats apart fresh good =
      greedy_onto ks (k ∷ js) _ apart.1
      (λ j h. by_bool (k == j) (λ e. true_false (sym h ∙ ap (λ n. is_among n ks) (sym (eqb-true k j e)) ∙ apart.0)) (λ e. ap (λ b. b || is_among j js) e ∙ fresh j (among_behind j k ks h)))
      (one_more js seats k (fresh k (among_here k ks)) good)

  onto_has : (ks js : List ℕ) (k : ℕ) → is_among k js ≡ true → is_among k (onto ks js) ≡ true
  onto_has [] js k e = e
  onto_has (i ∷ ks) js k e = onto_has ks (i ∷ js) k (among_behind k i js e)

  onto_all : (ks js : List ℕ) (k : ℕ) → is_among k ks ≡ true → is_among k (onto ks js) ≡ true
  onto_all [] js k e = false_true e
  onto_all (i ∷ ks) js k e = or_cases (i == k) (is_among k ks) e (λ f. onto_has ks (i ∷ js) k (or_left (i == k) (is_among k js) f)) (λ f. onto_all ks (i ∷ js) k f)

  none_spares : Spares [] no_seats
  none_spares = record {
    others = λ i h. refl;
    proper = λ i j c h. false_true h;
    own_color = λ i c h. false_true h;
    homes = λ i h. false_true h;
    need = λ i h. false_true h;
  }

  module _ (order : List ℕ) (differ : AllPairs (λ j k. j ≢ k) order) where
    abbrev seats : Seats
    seats = greedy x colors order [] no_seats

    abbrev done : List ℕ
    done = onto order []

    spares : Spares done seats
    spares = greedy_onto order [] no_seats (apart_of order differ) (λ k h. refl) none_spares

    -- what is in a register was done
    was_done : (i c : ℕ) → seats i ≡ Some c → is_among i done ≡ true
    was_done i c e = by_bool (is_among i done) (λ h. h) (λ h. some_none c (sym (spares.others i h) ∙ e))

    coloring : IsColoring t r colors seats
    coloring = record {
      differ = λ i j c ne live e f. spares.proper i j c (was_done i c e) (was_done j c f) ne ((are.between i j ne).1 live) e f;
      among = λ i c e. spares.own_color i c (was_done i c e) e;
      over_call = λ i lives. by_bool (is_among i done) (λ h. spares.homes i h ((are.over_call i).1 lives)) (λ h. spares.others i h);
    }

    given : (i : ℕ) → (x.over_call i ≡ true) ⊎ ((c : ℕ) → is_among c colors ≡ true → (j : ℕ) × (i ≢ j) × (x.between i j ≡ true) × (seats j ≡ Some c))
        → LivesOverCall t r i ⊎ ((c : ℕ) → is_among c colors ≡ true → IsHeldBeside t r seats i c)
    given i (inl o) = inl ((are.over_call i).0 o)
    given i (inr f) = inr (λ c hc. let w = f c hc in record { neighbor = w.0; other = w.1; live = (are.between i (w.0) w.1).0 w.2; holds = w.3 })

pub greedy_sparing : GreedyIsSparing
greedy_sparing t r x colors order are differ all = (
  coloring t r x colors are order differ,
  (λ i used e. given t r x colors are order differ i ((spares t r x colors are order differ).need i (onto_all t r x colors are order [] i (all i used)) e)),
)
