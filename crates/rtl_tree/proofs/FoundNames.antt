-- How a name is found and put among vectors.
use Rattle.std.proofs.Common.{◌≡◌, ◌<◌, ◌≤◌, ◌++◌, ◌∷◌, ◌∙◌, ◌⊎◌, ℕ, Bool, List, [], Option, Some, None, true, false, not, cond, if◌then◌else◌, inl, inr, refl, sym, ap, subst, arith, get_or, length, slice_get, position, eqb, ltb, true≢false, Global}
use Rattle.std.specs.Prelude.{Vec, Contains, MatchOption}
use Rattle.std.specs.Bool.{Decides}
use Rattle.std.specs.Cmp.Lexicographic.{pointwise}
use Rattle.std.specs.List.{list_any, position_or_len}
use Rattle.std.specs.Option.{option_map}
use Rattle.std.proofs.lemmas.Bool.{not-false, ltb-false, ltb-true}
use Rattle.std.proofs.lemmas.Bool.Decides.{Decides-eqb}
use Rattle.std.proofs.lemmas.List.{length-map, map-append}
use Rattle.std.proofs.lemmas.List.Folds.{Any-from_list_any}
use Rattle.std.proofs.lemmas.List.Sums.{fails_before_first, prefix_len_stops}
use Rattle.std.proofs.lemmas.Option.{get_or_from_slice_get, slice_get-map, slice_get_cases, slice_get_read, slice_get_within}
use Rattle.std.proofs.lemmas.Slice.Eq.{slice_eq-Decides}
use Rattle.indexmap.specs.IndexSet.{insert_key}
use Rattle.rtl_tree.specs.Names.{IsName, AreNames, names_of}

-- whether a vector has these bytes
abbrev has_bytes : List ℕ → Vec ℕ Global → Bool
has_bytes q v = pointwise eqb q v.items

same_bytes : (q : List ℕ) (v : Vec ℕ Global) → Decides (has_bytes q v) (q ≡ v.items)
same_bytes q v = slice_eq-Decides Decides-eqb q v.items (has_bytes q v) refl

-- the name that stands at a place
name_at : (q : List ℕ) (vs : List (Vec ℕ Global)) (i : ℕ) (v : Vec ℕ Global) → slice_get vs i ≡ Some v → slice_get (names_of vs) i ≡ Some v.items
name_at q vs i v e = slice_get-map (λ (u : Vec ℕ Global). u.items) vs i ∙ ap (option_map (λ (u : Vec ℕ Global). u.items)) e

-- each is a name
pub name_among : (vs : List (Vec ℕ Global)) (i : ℕ) (v : Vec ℕ Global) → AreNames (names_of vs) → slice_get vs i ≡ Some v → IsName v.items
name_among vs i v h e =
    let named : slice_get (names_of vs) i ≡ Some v.items = name_at v.items vs i v e in
    let within : i < length (names_of vs) = slice_get_within (names_of vs) i v.items named in
    subst IsName (get_or_from_slice_get (names_of vs) i v.items [] named) (h.names i [] within)

-- the first place that passes has the name
found_at : (q : List ℕ) (vs : List (Vec ℕ Global)) → position_or_len (has_bytes q) vs < length vs → slice_get (names_of vs) (position_or_len (has_bytes q) vs) ≡ Some q
found_at q vs within = by (slice_get_cases vs (position_or_len (has_bytes q) vs)).1
  where
    i : ℕ
    i = position_or_len (has_bytes q) vs

    by : ((x : Vec ℕ Global) × (i < length vs) × (slice_get vs i ≡ Some x) × (get_or vs i x ≡ x)) ⊎ ((length vs ≤ i) × (slice_get vs i ≡ None)) → slice_get (names_of vs) i ≡ Some q
    by (inl h) =
        let x : Vec ℕ Global = h.0 in
        let stops : not (has_bytes q (get_or vs i x)) ≡ false = prefix_len_stops (λ v. not (has_bytes q v)) vs x within in
        let passes : has_bytes q x ≡ true = not-false (has_bytes q x) (ap (λ v. not (has_bytes q v)) (sym h.3) ∙ stops) in
        name_at q vs i x h.2 ∙ ap Some (sym ((same_bytes q x).0 passes))
    by (inr h) = let past : length vs ≤ i = h.0 in let early : i < length vs = within in absurd (omega arith)

-- where no place passes the name isn't there
not_found : (q : List ℕ) (vs : List (Vec ℕ Global)) → length vs ≤ position_or_len (has_bytes q) vs → ¬ Contains (names_of vs) q
not_found q vs past there = by (slice_get_cases vs there.0).1
  where
    k : ℕ
    k = there.0

    inside : k < length vs
    inside = subst (λ n. k < n) (length-map vs (λ (v : Vec ℕ Global). v.items)) there.1

    by : ((x : Vec ℕ Global) × (k < length vs) × (slice_get vs k ≡ Some x) × (get_or vs k x ≡ x)) ⊎ ((length vs ≤ k) × (slice_get vs k ≡ None)) → ⊥
    by (inl h) =
        let x : Vec ℕ Global = h.0 in
        let within : k < length vs = inside in
        let early : k < position_or_len (has_bytes q) vs = omega arith in
        let fails : has_bytes q (get_or vs k x) ≡ false = fails_before_first (has_bytes q) vs k x early in
        let named : get_or (names_of vs) k q ≡ x.items = get_or_from_slice_get (names_of vs) k x.items q (name_at q vs k x h.2) in
        true≢false (sym ((same_bytes q x).1 (sym there.2 ∙ named)) ∙ (ap (has_bytes q) (sym h.3) ∙ fails))
    by (inr h) = let beyond : length vs ≤ k = h.0 in let within : k < length vs = inside in absurd (omega arith)

-- what a search by hash finds
pub finds_name : (q : List ℕ) (vs : List (Vec ℕ Global)) (r : Option ℕ) → r ≡ position (has_bytes q) vs → MatchOption r (¬ Contains (names_of vs) q) (λ i. slice_get (names_of vs) i ≡ Some q)
finds_name q vs r e = subst (λ o. MatchOption o (¬ Contains (names_of vs) q) (λ i. slice_get (names_of vs) i ≡ Some q)) (sym e) (by (ltb (position_or_len (has_bytes q) vs) (length vs)) refl)
  where
    by : (b : Bool) → ltb (position_or_len (has_bytes q) vs) (length vs) ≡ b → MatchOption (cond b (Some (position_or_len (has_bytes q) vs)) None) (¬ Contains (names_of vs) q) (λ i. slice_get (names_of vs) i ≡ Some q)
    by true t = found_at q vs (ltb-true _ _ t)
    by false f = not_found q vs (omega (arith, ltb-false _ _ f))

any_named : (q : List ℕ) (vs : List (Vec ℕ Global)) → list_any (has_bytes q) vs ≡ true → Contains (names_of vs) q
any_named q vs t =
    let h = Any-from_list_any (has_bytes q) vs t in
    let got = slice_get_read vs (length vs) h.0 h.1 refl h.2 (sym h.3) in (
      h.0,
      subst (λ n. h.0 < n) (sym (length-map vs (λ (v : Vec ℕ Global). v.items))) h.2,
      get_or_from_slice_get (names_of vs) h.0 h.1.items q (name_at q vs h.0 h.1 got) ∙ sym ((same_bytes q h.1).0 h.4),
    )

-- a name that isn't there is put last
pub puts_last : (v : Vec ℕ Global) (vs : List (Vec ℕ Global)) → ¬ Contains (names_of vs) v.items → names_of (insert_key (λ (u w : Vec ℕ Global). pointwise eqb u.items w.items) vs v) ≡ names_of vs ++ v.items ∷ []
puts_last v vs new = by (list_any (has_bytes v.items) vs) refl
  where
    by : (b : Bool) → list_any (has_bytes v.items) vs ≡ b → names_of (if b then vs else vs ++ v ∷ []) ≡ names_of vs ++ v.items ∷ []
    by true t = absurd (new (any_named v.items vs t))
    by false f = map-append (λ (u : Vec ℕ Global). u.items) vs (v ∷ [])
