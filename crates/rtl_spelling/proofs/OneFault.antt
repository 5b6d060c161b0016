-- Tokens have one fault at one place, or none where they spell a transfer.
use Rattle.std.proofs.Common.{◌≡◌, ℕ, suc, ◌≤◌, List, [], ◌∷◌, ◌++◌, length, None, refl, sym, ap, subst, ◌∙◌, append_assoc, arith, inl, inr}
use Rattle.std.proofs.lemmas.List.{length-append, append-nil, append_cancel_left}
use Rattle.std.proofs.lemmas.Bool.{cases_lt}
use Rattle.rtl_spelling.specs.declared.signs.Sign.TheVariants as sign
use Rattle.rtl_spelling.specs.Tokens.{Token, Word, Mark}
use Rattle.rtl_spelling.specs.Holes.{leaf_named}
use Rattle.rtl_spelling.specs.Spelling.{Context, IsContext, tokens_in, Said, IsSpelled}
use Rattle.rtl_spelling.specs.Faults.{Begins, FirstBad, IsNameOfUnknown, BadFormAt, unexpected, unknown_hole, TooDeepAt}
use Rattle.rtl_spelling.specs.Law.{OneFault}
use Rattle.rtl_spelling.specs.Reading.{gives}
use Rattle.rtl_spelling.proofs.Automaton.{start, follow}
use Rattle.rtl_spelling.proofs.Runs.{transfer_run}
use Rattle.rtl_spelling.proofs.Traces.{run_followed}
use Rattle.rtl_spelling.proofs.Begun.{within_to, run_begins, fewer_begin}
use Rattle.rtl_spelling.proofs.Answered.{deep_at, count_in, Middle, middle_of, unknown_stops, too_deep_at}

abbrev Tokens : Type 0
Tokens = List Token

-- fronts of one list that are as long are one
same_front : (a b xs ys ts : Tokens) → ts ≡ a ++ xs → ts ≡ b ++ ys → length a ≡ length b → a ≡ b
same_front a b xs ys ts e f n =
    let m : Middle a b xs ys = middle_of a b xs ys (sym e ∙ f) (omega (arith, n)) in
    let none : m.middle ≡ [] = nothing m.middle (omega (arith, ap length m.longer, length-append a m.middle, n)) in
    sym (m.longer ∙ ap (λ l. a ++ l) none ∙ append-nil a)
  where
    nothing : (l : Tokens) → length l ≡ 0 → l ≡ []
    nothing [] h = refl
    nothing (x ∷ l) h = absurd (omega (arith, h))

module _ (c : Context) (k : IsContext c) where
  -- a front of what begins a transfer begins one
  front_begins : (a b xs ys ts : Tokens) → ts ≡ a ++ xs → ts ≡ b ++ ys → length a ≤ length b → Begins c b → Begins c a
  front_begins a b xs ys ts e f le h =
      let m : Middle a b xs ys = middle_of a b xs ys (sym e ∙ f) le in
      fewer_begin c a m.middle (subst (Begins c) m.longer h)

  one_more : (a : Tokens) (t : Token) (rest ts : Tokens) → ts ≡ a ++ t ∷ rest → ts ≡ (a ++ t ∷ []) ++ rest
  one_more a t rest ts e = e ∙ sym (append_assoc a (t ∷ []) rest)

  -- before a place where something goes on stands no bad token
  bad_first : (ts a b rest ys : Tokens) (at : Token) → FirstBad c ts a at rest → ts ≡ b ++ ys → Begins c b → length b ≤ length a
  bad_first ts a b rest ys at bad f h = elim (cases_lt (length a) (length b)) [
    | inl lt ↦ absurd (bad.stops (front_begins (a ++ at ∷ []) b rest ys ts (one_more a at rest ts bad.split) f (omega (arith, lt, length-append a (at ∷ []))) h))
    | inr le ↦ le
  ]

  two_more : (a : Tokens) (t u : Token) (rest ts : Tokens) → ts ≡ a ++ t ∷ u ∷ rest → ts ≡ (a ++ t ∷ u ∷ []) ++ rest
  two_more a t u rest ts e = e ∙ sym (append_assoc a (t ∷ u ∷ []) rest)

  -- nor a hole that isn't open
  hole_first : (ts a b rest ys : Tokens) (name : List ℕ) → ts ≡ a ++ Mark sign.Less ∷ Word name ∷ Mark sign.Greater ∷ rest → leaf_named c.holes name ≡ None → ts ≡ b ++ ys → Begins c b
      → length b ≤ suc (length a)
  hole_first ts a b rest ys name e none f h = elim (cases_lt (suc (length a)) (length b)) [
    | inl lt ↦ absurd (unknown_stops c k a name none
        (front_begins (a ++ Mark sign.Less ∷ Word name ∷ []) b (Mark sign.Greater ∷ rest) ys ts (two_more a (Mark sign.Less) (Word name) (Mark sign.Greater ∷ rest) ts e) f
        (omega (arith, lt, length-append a (Mark sign.Less ∷ Word name ∷ []))) h))
    | inr le ↦ le
  ]

  -- the second token of a hole
  behind_less : (ts a b rest ys : Tokens) (name : List ℕ) → ts ≡ a ++ Mark sign.Less ∷ Word name ∷ Mark sign.Greater ∷ rest → ts ≡ b ++ ys → length b ≡ suc (length a)
      → (b ≡ a ++ Mark sign.Less ∷ []) × (ys ≡ Word name ∷ Mark sign.Greater ∷ rest)
  behind_less ts a b rest ys name e f n =
      let less : ts ≡ (a ++ Mark sign.Less ∷ []) ++ Word name ∷ Mark sign.Greater ∷ rest = one_more a (Mark sign.Less) (Word name ∷ Mark sign.Greater ∷ rest) ts e in
      let same : a ++ Mark sign.Less ∷ [] ≡ b = same_front (a ++ Mark sign.Less ∷ []) b (Word name ∷ Mark sign.Greater ∷ rest) ys ts less f (omega (arith, n, length-append a (Mark sign.Less ∷ []))) in
      (sym same, sym (append_cancel_left b (Word name ∷ Mark sign.Greater ∷ rest) ys (ap (λ l. l ++ Word name ∷ Mark sign.Greater ∷ rest) (sym same) ∙ sym less ∙ f)))

  bad_and_hole : (ts a b rest more : Tokens) (at : Token) (name : List ℕ) → FirstBad c ts a at rest → (IsNameOfUnknown c a at rest → ⊥)
      → ts ≡ b ++ Mark sign.Less ∷ Word name ∷ Mark sign.Greater ∷ more → leaf_named c.holes name ≡ None → Begins c b → a ≡ b
  bad_and_hole ts a b rest more at name bad plain e none h =
      let le : length b ≤ length a = bad_first ts a b rest (Mark sign.Less ∷ Word name ∷ Mark sign.Greater ∷ more) at bad e h in
      let most : length a ≤ suc (length b) = hole_first ts b a more (at ∷ rest) name e none bad.split bad.goes in
      elim (cases_lt (length b) (length a)) [
        | inl lt ↦ absurd (
            let p = behind_less ts b a more (at ∷ rest) name e bad.split (omega (arith, lt, most)) in
            plain (record { front = b; name = name; behind = more; left = p.0; is = cc; right = cc; unknown = none }))
        | inr ge ↦ same_front a b (at ∷ rest) (Mark sign.Less ∷ Word name ∷ Mark sign.Greater ∷ more) ts bad.split e (omega (arith, le, ge))
      ]

  hole_places : (ts a b xs ys : Tokens) (m n : List ℕ) → ts ≡ a ++ Mark sign.Less ∷ Word m ∷ Mark sign.Greater ∷ xs → leaf_named c.holes m ≡ None
      → ts ≡ b ++ Mark sign.Less ∷ Word n ∷ Mark sign.Greater ∷ ys → Begins c b → length b ≤ length a
  hole_places ts a b xs ys m n e none f h =
      let most : length b ≤ suc (length a) = hole_first ts a b xs (Mark sign.Less ∷ Word n ∷ Mark sign.Greater ∷ ys) m e none f h in
      elim (cases_lt (length a) (length b)) [
        | inl lt ↦ absurd (
            let p = behind_less ts a b xs (Mark sign.Less ∷ Word n ∷ Mark sign.Greater ∷ ys) m e f (omega (arith, lt, most)) in
            let wrong : Mark sign.Less ≡ Word m = cc in cc)
        | inr le ↦ le
      ]

  bad_once : (ts a b : Tokens) → BadFormAt c ts a → BadFormAt c ts b → a ≡ b
  bad_once ts a b (unexpected at rest bad plain) (unexpected au more worse plainer) =
      same_front a b (at ∷ rest) (au ∷ more) ts bad.split worse.split
      (omega (arith, bad_first ts a b rest (au ∷ more) at bad worse.split worse.goes, bad_first ts b a more (at ∷ rest) au worse bad.split bad.goes))
  bad_once ts a b (unexpected at rest bad plain) (unknown_hole name more e none h) = bad_and_hole ts a b rest more at name bad plain e none h
  bad_once ts a b (unknown_hole name more e none h) (unexpected at rest bad plain) = sym (bad_and_hole ts b a rest more at name bad plain e none h)
  bad_once ts a b (unknown_hole m xs e none h) (unknown_hole n ys f nope i) =
      same_front a b (Mark sign.Less ∷ Word m ∷ Mark sign.Greater ∷ xs) (Mark sign.Less ∷ Word n ∷ Mark sign.Greater ∷ ys) ts e f
      (omega (arith, hole_places ts a b xs ys m n e none f i, hole_places ts b a ys xs n m f nope e h))

  deep_once : (ts a b : Tokens) → TooDeepAt c ts a → TooDeepAt c ts b → a ≡ b
  deep_once ts a b h i =
      let x = too_deep_at c k ts a h in
      let y = too_deep_at c k ts b i in
      let same : x.0 ≡ y.0 = ap count_in (sym x.1 ∙ y.1) in
      same_front a b (h.at.token ∷ h.rest) (i.at.token ∷ i.rest) ts h.split i.split (omega (arith, x.2, y.2, same))

  -- a spelling within depth 32 has no fault
  spelled_begins : (ms : List Said) (ts : Tokens) → IsSpelled c ms ts → Begins c ts
  spelled_begins ms ts s = run_begins c k s.placed [] ts (transfer_run c k ms s.placed s.spells) s.tokens

  spelled_not_bad : (ms : List Said) (ts a : Tokens) → IsSpelled c ms ts → BadFormAt c ts a → ⊥
  spelled_not_bad ms ts a s (unexpected at rest bad plain) =
      let le = bad_first ts a ts rest [] at bad (sym (append-nil ts)) (spelled_begins ms ts s) in
      omega (arith, le, ap length bad.split, length-append a (at ∷ rest))
  spelled_not_bad ms ts a s (unknown_hole name rest e none h) =
      let le = hole_first ts a ts rest [] name e none (sym (append-nil ts)) (spelled_begins ms ts s) in
      omega (arith, le, ap length e, length-append a (Mark sign.Less ∷ Word name ∷ Mark sign.Greater ∷ rest))

  spelled_not_deep : (ms : List Said) (ts a : Tokens) → IsSpelled c ms ts → TooDeepAt c ts a → ⊥
  spelled_not_deep ms ts a s h =
      let x = too_deep_at c k ts a h in
      let through : follow c 32 start (tokens_in s.placed ++ []) ≡ gives tt [] =
      run_followed c 32 s.placed start [] [] (transfer_run c k ms s.placed s.spells) (within_to 32 s.placed s.within) in
      let wrong : gives tt [] ≡ deep_at x.0 = sym through ∙ ap (follow c 32 start) (append-nil (tokens_in s.placed) ∙ s.tokens) ∙ x.1 in
      absurd cc

  pub one_fault : (ts : Tokens) → OneFault c ts
  one_fault ts = record {
    form = λ a b h i. bad_once ts a b h.bad i.bad;
    depth = λ a b h i. deep_once ts a b h.deep i.deep;
    apart = λ a b h i. omega (arith, h.first b i.deep, i.first a h.bad);
    none = λ ms s. (λ a h. spelled_not_bad ms ts a s h.bad, λ a h. spelled_not_deep ms ts a s h.deep);
  }
