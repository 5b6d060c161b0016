-- The parts round the first byte of a value.
use Rattle.std.proofs.Common.{◌≡◌, ℕ, ◌+◌, ◌-◌, ◌<◌, suc, Bool, true, false, not, cond, ltb, eqb, Some, None, List, [], ◌∷◌, ◌++◌, length, get_or, take, drop, refl, sym, ap, ◌∙◌, arith, inl, inr, drop-cons, length-drop, add-one}
use Rattle.std.proofs.Math.Seq.{take-length}
use Rattle.std.proofs.lemmas.Bool.{eqb-true, lt-ltb, cases_Bool}
use Rattle.std.proofs.lemmas.List.{length-take, get_or-take, get_or_default, take-append-drop}
use Rattle.std.proofs.lemmas.List.Quantifiers.{position-Some}
use Rattle.std.proofs.lemmas.List.Sums.{list_all-from_AllPass}
use Rattle.std.specs.List.{position, position_or_len, AllPass}
use Rattle.md_text.specs.Lines.{lacks}
use Rattle.md_text.proofs.Bytes.{and_true}
use Rattle.md_text.proofs.Splits.{same_front}
use Rattle.md_lines.specs.Parts.{IsSplitAtByte}

other_passes : (r : Bool) → r ≡ false → not r ≡ true
other_passes r e = rw e refl

split_found : (b : ℕ) (t : List ℕ) (n : ℕ) → position (λ c. eqb c b) t ≡ Some n → IsSplitAtByte b t (take n t) (drop (suc n) t)
split_found b t n e =
    let at = position-Some (λ c. eqb c b) t n 0 e in
    let here : get_or t n 0 ≡ b = eqb-true (get_or t n 0) b at.1 in
    let free : AllPass (λ c. not (eqb c b)) (take n t) = λ k d l.
    let below : k < n = omega (arith, l, length-take n t) in
    let inside : k < length t = omega (arith, below, at.0) in
    rw (get_or-take n t k d below) (rw (get_or_default t k d 0 inside) (other_passes (eqb (get_or t k 0) b) (at.2 k below))) in
    record {
      text = sym (take-append-drop n t) ∙ ap (λ r. take n t ++ r) (drop-cons t n 0 at.0 ∙ ap (λ x. x ∷ drop (suc n) t) here);
      first = list_all-from_AllPass (λ c. not (eqb c b)) (take n t) free;
    }

-- what a slice from n + 1 on has
rest_from : (n : ℕ) (t : List ℕ) → take (length t - (n + 1)) (drop (n + 1) t) ≡ drop (suc n) t
rest_from n t =
    ap (λ k. take k (drop (n + 1) t)) (sym (length-drop (n + 1) t)) ∙ take-length (drop (n + 1) t) ∙ ap (λ k. drop k t) (add-one n)

pub split_at_place : (b : ℕ) (t : List ℕ) (n : ℕ) → Some n ≡ position (λ c. eqb c b) t → IsSplitAtByte b t (take n t) (take (length t - (n + 1)) (drop (n + 1) t))
split_at_place b t n e = rw (rest_from n t) (split_found b t n (sym e))

-- a slice from k on
pub tail_is : (k : ℕ) (t : List ℕ) → take (length t - k) (drop k t) ≡ drop k t
tail_is k t = ap (λ n. take n (drop k t)) (sym (length-drop k t)) ∙ take-length (drop k t)

-- a byte that has no place isn't there

no_place : (n m : ℕ) → cond (ltb n m) (Some n) None ≡ None → n < m → ⊥
no_place n m e l =
    let some : cond (ltb n m) (Some n) None ≡ Some n = rw (lt-ltb n m l) refl in
    let no : Some n ≡ None → ⊥ = λ q. cc in
    no (sym some ∙ e)

all_other : (b : ℕ) (t : List ℕ) → (position_or_len (λ c. eqb c b) t < length t → ⊥) → lacks b t ≡ true
all_other b [] h = refl
all_other b (c ∷ t) h = elim (cases_Bool (eqb c b)) [
  | inl e ↦ absurd (h (let at : position_or_len (λ d. eqb d b) (c ∷ t) ≡ 0 = rw e refl in omega (arith, at)))
  | inr e ↦
      let more : position_or_len (λ d. eqb d b) (c ∷ t) ≡ 1 + position_or_len (λ d. eqb d b) t = rw e refl in
      and_true (not (eqb c b)) (lacks b t) (other_passes (eqb c b) e) (all_other b t (λ l. h (omega (arith, more, l))))
]

pub lacks_unplaced : (b : ℕ) (t : List ℕ) → None ≡ position (λ c. eqb c b) t → lacks b t ≡ true
lacks_unplaced b t e = all_other b t (no_place (position_or_len (λ c. eqb c b) t) (length t) (sym e))

pub split_once : (b : ℕ) (t f k g m : List ℕ) → IsSplitAtByte b t f k → IsSplitAtByte b t g m → (f ≡ g) × (k ≡ m)
split_once b t f k g m p q = same_front b f g k m p.first q.first (sym p.text ∙ q.text)
