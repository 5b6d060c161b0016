-- The names of labels that were met in a part, a line further.
use Rattle.std.proofs.Common.{◌≡◌, ℕ, zero, suc, get_or, ◌+◌, ◌<◌, ◌⊎◌, inl, inr, true, List, [], ◌∷◌, ◌++◌, Some, Contains, refl, sym, ap, subst, ◌∙◌, arith, append_assoc}
use Rattle.std.proofs.lemmas.List.Elements.{Contains-append_cases}
use Rattle.asm_program.specs.declared.places.Part.{Part}
use Rattle.asm_program.specs.declared.places.Part.TheVariants.{Outside}
use Rattle.asm_program.specs.declared.places.Place.{Place}
use Rattle.asm_program.specs.TextLines.{Symbol, Said, Labelled}
use Rattle.asm_program.specs.Places.{Position, after, part_after, symbols_on}
use Rattle.asm_program.specs.Rules.{StandsAt}
use Rattle.asm_names.specs.LabelNames.{label_name, names_in, taken}
use Rattle.asm_names.proofs.Membership.{is_among, stays_among, is_added}

pub record HasStood (all : List Said) (line : ℕ) (x : List ℕ) : Type 0 where
  pub at : ℕ
  pub before : at < line
  pub stands : StandsAt all (Symbol x) at

pub record Listed (all : List Said) (p : Position) (wanted part : Part) (left : List Said) (ns : List (List ℕ)) : Type 0 where
  pub are : ns ++ names_in wanted part left ≡ names_in wanted Outside all
  pub earlier : (x : List ℕ) → Contains ns x → HasStood all p.line x
  pub met : (x : List ℕ) → Contains ns x → is_among p.names x ≡ true

same_line : (all : List Said) (x : List ℕ) (m n : ℕ) → StandsAt all (Symbol x) m → StandsAt all (Symbol x) n → m ≡ n
same_line all x m n a b = ap (λ (q : Place). q.line) (same_place _ _ (sym a.first ∙ b.first))
  where
    same_place : (p q : Place) → Some p ≡ Some q → p ≡ q
    same_place p q e = cc

-- a label that stands first here wasn't met
pub is_new : (all : List Said) (line : ℕ) (x : List ℕ) → StandsAt all (Symbol x) line → HasStood all line x → ⊥
is_new all line x s h = let e = same_line all x h.at line h.stands s in let b = h.before in omega (arith, e, b)

none_in : (x : List ℕ) → Contains [] x → ⊥
none_in x c = let h = c.1 in omega (arith, h)

pub starts : (all : List Said) (p : Position) (wanted : Part) → Listed all p wanted Outside all []
starts all p wanted = record { are = refl; earlier = λ x c. absurd (none_in x c); met = λ x c. absurd (none_in x c) }

only : (y x : List ℕ) → Contains (y ∷ []) x → y ≡ x
only y x c = by_index c.0 c.1 c.2
  where
    by_index : (k : ℕ) → k < 1 → get_or (y ∷ []) k x ≡ x → y ≡ x
    by_index zero h e = e
    by_index (suc k) h e = absurd (omega arith)

later : (all : List Said) (m n : ℕ) (x : List ℕ) → m < n → HasStood all m x → HasStood all n x
later all m n x h s = let b = s.before in record { at = s.at; before = omega (arith, h, b); stands = s.stands }

module _ (all : List Said) (wb : ℕ) (p : Position) (wanted part : Part) (s : Said) (ss : List Said) (ns new : List (List ℕ)) (h : Listed all p wanted part (s ∷ ss) ns) where
  pub listed_stays : new ≡ ns → taken wanted part (label_name s) (names_in wanted (part_after part s) ss) ≡ names_in wanted (part_after part s) ss
      → Listed all (after wb p s) wanted (part_after part s) ss new
  listed_stays e t =
      record {
        are = ap (λ (xs : List (List ℕ)). xs ++ names_in wanted (part_after part s) ss) e ∙ ap (λ (xs : List (List ℕ)). ns ++ xs) (sym t) ∙ h.are;
        earlier = λ x c. later all p.line (p.line + 1) x (omega arith) (h.earlier x (subst (λ (xs : List (List ℕ)). Contains xs x) e c));
        met = λ x c. stays_among (symbols_on s) p.names x (h.met x (subst (λ (xs : List (List ℕ)). Contains xs x) e c));
      }

  pub listed_adds : (y : List ℕ) → new ≡ ns ++ y ∷ [] → taken wanted part (label_name s) (names_in wanted (part_after part s) ss) ≡ y ∷ names_in wanted (part_after part s) ss
      → s ≡ Labelled (Symbol y) → StandsAt all (Symbol y) p.line → Listed all (after wb p s) wanted (part_after part s) ss new
  listed_adds y e t l st =
      record {
        are =
            ap (λ (xs : List (List ℕ)). xs ++ names_in wanted (part_after part s) ss) e
            ∙ append_assoc ns (y ∷ []) (names_in wanted (part_after part s) ss)
            ∙ ap (λ (xs : List (List ℕ)). ns ++ xs) (sym t)
            ∙ h.are;
        earlier = λ x c. by_earlier x (Contains-append_cases ns (y ∷ []) x (subst (λ (xs : List (List ℕ)). Contains xs x) e c));
        met = λ x c. by_met x (Contains-append_cases ns (y ∷ []) x (subst (λ (xs : List (List ℕ)). Contains xs x) e c));
      }
    where
      by_earlier : (x : List ℕ) → Contains ns x ⊎ Contains (y ∷ []) x → HasStood all (p.line + 1) x
      by_earlier x (inl c) = later all p.line (p.line + 1) x (omega arith) (h.earlier x c)
      by_earlier x (inr c) = subst (λ (z : List ℕ). HasStood all (p.line + 1) z) (only y x c) (record { at = p.line; before = omega arith; stands = st })

      by_met : (x : List ℕ) → Contains ns x ⊎ Contains (y ∷ []) x → is_among (after wb p s).names x ≡ true
      by_met x (inl c) = stays_among (symbols_on s) p.names x (h.met x c)
      by_met x (inr c) =
          subst (λ (z : List ℕ). is_among (after wb p s).names z ≡ true) (only y x c)
          (subst (λ (r : Said). is_among (after wb p r).names y ≡ true) (sym l) (is_added p.names y))
