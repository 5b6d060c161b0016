-- The values that stand in slots, one more.
use Rattle.std.proofs.Common.{◌≡◌, ℕ, ◌+◌, ◌<◌, ◌≤◌, List, [], ◌∷◌, ◌++◌, length, take, get_or, Option, Some, None, refl, sym, ap, arith, append-nil, length-append, ◌∙◌}
use Rattle.std.proofs.lemmas.List.{take_more}
use Rattle.md_rows.specs.declared.instance.Bound.{Bound}
use Rattle.md_match.specs.Slots.{Slots}
use Rattle.md_match.specs.Does.{known}

known_append : (s t : Slots) → known (s ++ t) ≡ known s ++ known t
known_append [] t = refl
known_append (Some v ∷ s) t = ap (λ (vs : List Bound). v ∷ vs) (known_append s t)
known_append (None ∷ s) t = known_append s t

known_next : (s : Slots) (n : ℕ) (o : Option Bound) → n < length s → get_or s n None ≡ o → known (take (n + 1) s) ≡ known (take n s) ++ known (o ∷ [])
known_next s n o l e =
    ap known (take_more s n None l) ∙ (known_append (take n s) (get_or s n None ∷ []) ∙ ap (λ (x : Option Bound). known (take n s) ++ known (x ∷ [])) e)

-- the values so far, of the first n slots, in a list that has room for eight
pub record HasKnown (s : Slots) (n : ℕ) (items : List Bound) (capacity : ℕ) : Type 0 where
  pub values : items ≡ known (take n s)
  pub few : length items ≤ n
  pub inline : capacity ≡ 8

pub one_known : (s : Slots) (n : ℕ) (v : Bound) (items more : List Bound) (c d : ℕ) → n < length s → get_or s n None ≡ Some v → HasKnown s n items c
    → more ≡ items ++ v ∷ [] → d ≡ c → HasKnown s (n + 1) more d
one_known s n v items more c d l e h m k = record {
  values = m ∙ ap (λ (vs : List Bound). vs ++ v ∷ []) h.values ∙ sym (known_next s n (Some v) l e);
  few = (let x = ap length m in let y = length-append items (v ∷ []) in let z = h.few in omega (arith, x, y, z));
  inline = k ∙ h.inline;
}

not_some : (o : Option Bound) → ((v : Bound) → o ≡ Some v → ⊥) → o ≡ None
not_some None f = refl
not_some (Some v) f = absurd (f v refl)

pub none_known : (s : Slots) (n : ℕ) (items : List Bound) (c : ℕ) → n < length s → ((v : Bound) → get_or s n None ≡ Some v → ⊥) → HasKnown s n items c
    → HasKnown s (n + 1) items c
none_known s n items c l f h = record {
  values = h.values ∙ sym (append-nil (known (take n s))) ∙ sym (known_next s n None l (not_some (get_or s n None) f));
  few = (let z = h.few in omega (arith, z));
  inline = h.inline;
}
