-- Rows of a table that change.
use Rattle.std.proofs.Common.{◌≡◌, ◌≢◌, ◌⊎◌, inl, inr, ℕ, zero, suc, ◌+◌, ◌/◌, ◌<◌, ◌≤◌, Bool, true, false, not, List, [], ◌∷◌, ◌++◌, length, Option, Some, refl, sym, ap, ◌∙◌, arith}
use Rattle.std.specs.Prelude.{◌&&◌, ◌||◌, ◌==◌, nat_lt, slice_get, slice_set}
use Rattle.std.specs.Global.{Vec}
use Rattle.std.proofs.lemmas.Bool.{eqb-true, eqb-false, eq-eqb, ne_eqb, lt-ltb, cases_lt, cases_order, or_left, or_right, and_left, ltb-true, false_from_ne_true}
use Rattle.std.proofs.lemmas.Option.{slice_get_past}
use Rattle.flow_live.specs.Rows.{has_temporary}
use Rattle.flow_live.proofs.Bits.{and_true}
use Rattle.color_graph.specs.Sharing.{words_in, may_share}
use Rattle.color_graph.proofs.Bitwise.{has_past}

get_set_same : {A : Type 0} (xs : List A) (i : ℕ) (y : A) → i < length xs → slice_get (slice_set xs i y) i ≡ Some y
get_set_same [] i y l = absurd (omega (arith, l))
get_set_same (x ∷ xs) zero y l = refl
get_set_same (x ∷ xs) (suc i) y l = get_set_same xs i y (omega (arith, l))

get_set_other : {A : Type 0} (xs : List A) (i j : ℕ) (y : A) → j ≢ i → slice_get (slice_set xs i y) j ≡ slice_get xs j
get_set_other [] i j y ne = refl
get_set_other (x ∷ xs) zero zero y ne = absurd (ne refl)
get_set_other (x ∷ xs) zero (suc j) y ne = refl
get_set_other (x ∷ xs) (suc i) zero y ne = refl
get_set_other (x ∷ xs) (suc i) (suc j) y ne = get_set_other xs i j y (λ e. ne (ap suc e))

get_push : {A : Type 0} (xs : List A) (y : A) → slice_get (xs ++ y ∷ []) (length xs) ≡ Some y
get_push [] y = refl
get_push (x ∷ xs) y = get_push xs y

get_before : {A : Type 0} (xs ys : List A) (i : ℕ) → i < length xs → slice_get (xs ++ ys) i ≡ slice_get xs i
get_before [] ys i l = absurd (omega (arith, l))
get_before (x ∷ xs) ys zero l = refl
get_before (x ∷ xs) ys (suc i) l = get_before xs ys i (omega (arith, l))

pub share_past : (rows : List (Vec ℕ)) (i j : ℕ) → length rows ≤ i → may_share rows i j ≡ false
share_past rows i j l = ap (λ (o : Option (Vec ℕ)). has_temporary (words_in o) j) (slice_get_past rows i l) ∙ has_past [] j (omega arith)

-- one full row more
pub full_more : (rows : List (Vec ℕ)) (v : Vec ℕ) (words : ℕ) → ((k : ℕ) → k / 64 < words → has_temporary v.items k ≡ true)
    → ((i j : ℕ) → i < length rows → j / 64 < words → may_share rows i j ≡ true)
    → (i j : ℕ) → i < length rows + 1 → j / 64 < words → may_share (rows ++ v ∷ []) i j ≡ true
full_more rows v words full before i j l m = by (cases_order i (length rows))
  where
    by : (i ≡ length rows) ⊎ ((i < length rows) ⊎ (length rows < i)) → may_share (rows ++ v ∷ []) i j ≡ true
    by (inl e) =
        ap (λ (x : ℕ). may_share (rows ++ v ∷ []) x j) e ∙ ap (λ (o : Option (Vec ℕ)). has_temporary (words_in o) j) (get_push rows v) ∙ full j m
    by (inr (inl h)) = ap (λ (o : Option (Vec ℕ)). has_temporary (words_in o) j) (get_before rows (v ∷ []) i h) ∙ before i j h m
    by (inr (inr h)) = absurd (omega (arith, h, l))

-- one row changes
pub set_share : (rows : List (Vec ℕ)) (at : ℕ) (v : Vec ℕ) (q : ℕ → Bool) → at < length rows → ((j : ℕ) → has_temporary v.items j ≡ (may_share rows at j && q j))
    → (i j : ℕ) → may_share (slice_set rows at v) i j ≡ (may_share rows i j && (not (i == at) || q j))
set_share rows at v q l h i j = by (i == at) refl
  where
    by : (b : Bool) → (i == at) ≡ b → may_share (slice_set rows at v) i j ≡ (may_share rows i j && (not b || q j))
    by true e =
        ap (λ (x : ℕ). may_share (slice_set rows at v) x j) (eqb-true i at e)
        ∙ ap (λ (o : Option (Vec ℕ)). has_temporary (words_in o) j) (get_set_same rows at v l)
        ∙ h j
        ∙ ap (λ (x : ℕ). may_share rows x j && q j) (sym (eqb-true i at e))
    by false e =
        ap (λ (o : Option (Vec ℕ)). has_temporary (words_in o) j) (get_set_other rows at i v (eqb-false i at e))
        ∙ sym (and_true (may_share rows i j))

-- there is no such row
pub same_share : (rows : List (Vec ℕ)) (at : ℕ) (q : ℕ → Bool) → length rows ≤ at
    → (i j : ℕ) → may_share rows i j ≡ (may_share rows i j && (not (i == at) || q j))
same_share rows at q l i j = by (i == at) refl
  where
    by : (b : Bool) → (i == at) ≡ b → may_share rows i j ≡ (may_share rows i j && (not b || q j))
    by true e =
        let none : may_share rows i j ≡ false = ap (λ (x : ℕ). may_share rows x j) (eqb-true i at e) ∙ share_past rows at j l in
        none ∙ sym (and_left (may_share rows i j) (q j) none)
    by false e = sym (and_true (may_share rows i j))

pub and_more : (a d n : Bool) → ((a && d) && n) ≡ (a && (d && n))
and_more true d n = refl
and_more false d n = refl

pub take_two : (a p q : Bool) → ((a && not p) && not q) ≡ (a && not (p || q))
take_two true true q = refl
take_two true false q = refl
take_two false p q = refl

pub part_two : (a p q s : Bool) → ((a && (not p || s)) && (not q || s)) ≡ (a && (not (p || q) || s))
part_two false p q s = refl
part_two true false q s = refl
part_two true true true true = refl
part_two true true true false = refl
part_two true true false true = refl
part_two true true false false = refl

-- a temporary is live, or it isn't and nothing changes
pub live_parts : (dead : ℕ → Bool) (at i j : ℕ) (a b : Bool) → dead at ≡ false → b ≡ (a && (not (i == at) || (dead j && true)))
    → b ≡ (a && (not (i == at) || (dead i || dead j)))
live_parts dead at i j a b none e = e ∙ ap (λ (x : Bool). a && x) (by (i == at) refl)
  where
    by : (c : Bool) → (i == at) ≡ c → (not c || (dead j && true)) ≡ (not c || (dead i || dead j))
    by true f = and_true (dead j) ∙ sym (ap (λ (x : Bool). x || dead j) (ap dead (eqb-true i at f) ∙ none))
    by false f = refl

pub dead_parts : (dead : ℕ → Bool) (at i j : ℕ) (a : Bool) → dead at ≡ true → a ≡ (a && (not (i == at) || (dead i || dead j)))
dead_parts dead at i j a e = sym (ap (λ (x : Bool). a && x) (by (i == at) refl) ∙ and_true a)
  where
    by : (c : Bool) → (i == at) ≡ c → (not c || (dead i || dead j)) ≡ true
    by true f = or_left (dead i) (dead j) (ap dead (eqb-true i at f) ∙ e)
    by false f = refl

-- the temporaries before `at` were looked at
pub record AllTo (at : ℕ) (dead : List ℕ) (old now : List (Vec ℕ)) : Type 0 where
  pub count : length now ≡ length old
  pub rows : (i j : ℕ) → may_share now i j ≡ (may_share old i j && (not (nat_lt i at) || (has_temporary dead i || has_temporary dead j)))

lt_zero : (i : ℕ) → nat_lt i 0 ≡ false
lt_zero i = false_from_ne_true (nat_lt i 0) (λ e. let l = ltb-true i 0 e in omega (arith, l))

lt_next : (i at : ℕ) → nat_lt i (at + 1) ≡ (nat_lt i at || (i == at))
lt_next i at = by (cases_order i at)
  where
    by : (i ≡ at) ⊎ ((i < at) ⊎ (at < i)) → nat_lt i (at + 1) ≡ (nat_lt i at || (i == at))
    by (inl e) = lt-ltb i (at + 1) (omega (arith, e)) ∙ sym (or_right (nat_lt i at) (i == at) (eq-eqb i at e))
    by (inr (inl h)) = lt-ltb i (at + 1) (omega (arith, h)) ∙ sym (or_left (nat_lt i at) (i == at) (lt-ltb i at h))
    by (inr (inr h)) =
        false_from_ne_true (nat_lt i (at + 1)) (λ e. let l = ltb-true i (at + 1) e in omega (arith, l, h))
        ∙ sym (ap (λ (x : Bool). x || (i == at)) (false_from_ne_true (nat_lt i at) (λ e. let l = ltb-true i at e in omega (arith, l, h)))
        ∙ ne_eqb i at (λ e. omega (arith, e, h)))

pub all_none : (dead : List ℕ) (old : List (Vec ℕ)) → AllTo 0 dead old old
all_none dead old = record {
  count = refl;
  rows = λ i j. sym (ap (λ (x : Bool). may_share old i j && (not x || (has_temporary dead i || has_temporary dead j))) (lt_zero i) ∙ and_true (may_share old i j));
}

pub all_next : (at : ℕ) (dead : List ℕ) (old now new : List (Vec ℕ)) → length new ≡ length now
    → ((i j : ℕ) → may_share new i j ≡ (may_share now i j && (not (i == at) || (has_temporary dead i || has_temporary dead j))))
    → AllTo at dead old now → AllTo (at + 1) dead old new
all_next at dead old now new count rows s = record {
  count = count ∙ s.count;
  rows = λ i j.
      rows i j
      ∙ ap (λ (x : Bool). x && (not (i == at) || (has_temporary dead i || has_temporary dead j))) (s.rows i j)
      ∙ part_two (may_share old i j) (nat_lt i at) (i == at) (has_temporary dead i || has_temporary dead j)
      ∙ ap (λ (x : Bool). may_share old i j && (not x || (has_temporary dead i || has_temporary dead j))) (sym (lt_next i at));
}

pub all_done : (at : ℕ) (dead : List ℕ) (old now : List (Vec ℕ)) → length old ≤ at → AllTo at dead old now
    → (i j : ℕ) → may_share now i j ≡ (may_share old i j && (has_temporary dead i || has_temporary dead j))
all_done at dead old now l s i j = by (cases_lt i (length old))
  where
    by : (i < length old) ⊎ (length old ≤ i) → may_share now i j ≡ (may_share old i j && (has_temporary dead i || has_temporary dead j))
    by (inl h) =
        s.rows i j ∙ ap (λ (x : Bool). may_share old i j && (not x || (has_temporary dead i || has_temporary dead j))) (lt-ltb i at (omega (arith, h, l)))
    by (inr h) =
        let c = s.count in
        share_past now i j (omega (arith, h, c)) ∙ sym (and_left (may_share old i j) (has_temporary dead i || has_temporary dead j) (share_past old i j h))
