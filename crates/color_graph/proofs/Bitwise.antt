-- Words with a bit less, and the bits that two rows share.
use Rattle.std.proofs.Common.{◌≡◌, ◌≢◌, ◌⊎◌, inl, inr, ℕ, ◌+◌, ◌/◌, ◌%◌, ◌*◌, ◌-◌, ◌^◌, ◌<◌, ◌≤◌, Bool, true, false, not, List, length, replicate, refl, sym, ap, ◌∙◌, arith, length-set}
use Rattle.std.specs.Prelude.{◌&&◌, ◌==◌, bit_and, slice_index, slice_set}
use Rattle.std.proofs.Math.Nat.{mod-lt, div-add-mod}
use Rattle.std.proofs.lemmas.Bool.{eqb-true, eqb-false, eq-eqb, ne_eqb, cases_lt, cases_order}
use Rattle.std.proofs.lemmas.Nat.Bits.{bit_at-zero, bit_at_ones}
use Rattle.std.proofs.lemmas.List.{get_or-set_same, get_or-set_other, get_or_past, get_or-replicate}
use Rattle.flow_live.specs.Rows.{has_bit, has_temporary}
use Rattle.flow_live.proofs.Bits.{and_true, both_bits}

-- bits behind the last word are none
pub has_past : (words : List ℕ) (k : ℕ) → length words ≤ k / 64 → has_temporary words k ≡ false
has_past words k l = ap (λ (x : ℕ). has_bit x (k % 64)) (get_or_past words (k / 64) 0 l) ∙ ap (λ (x : ℕ). x == 1) (bit_at-zero (k % 64))

same_place : (k n : ℕ) → k / 64 ≡ n / 64 → (k % 64 == n % 64) ≡ (k == n)
same_place k n e = by (k == n) refl
  where
    whole : k % 64 ≡ n % 64 → k ≡ n
    whole f = sym (div-add-mod k 64) ∙ ap (λ (x : ℕ). 64 * x + k % 64) e ∙ ap (λ (x : ℕ). 64 * (n / 64) + x) f ∙ div-add-mod n 64

    by : (b : Bool) → (k == n) ≡ b → (k % 64 == n % 64) ≡ b
    by true f = eq-eqb (k % 64) (n % 64) (ap (λ (x : ℕ). x % 64) (eqb-true k n f))
    by false f = ne_eqb (k % 64) (n % 64) (λ h. eqb-false k n f (whole h))

no_more : (words : List ℕ) (k n : ℕ) → k ≢ n → has_temporary words k ≡ (has_temporary words k && not (k == n))
no_more words k n ne = sym (ap (λ (b : Bool). has_temporary words k && not b) (ne_eqb k n ne) ∙ and_true (has_temporary words k))

-- one bit is taken out of its word
pub removed : (old : List ℕ) (n y : ℕ) → n / 64 < length old → ((j : ℕ) → j < 64 → has_bit y j ≡ (has_bit (slice_index old (n / 64)) j && not (j == n % 64)))
    → (k : ℕ) → has_temporary (slice_set old (n / 64) y) k ≡ (has_temporary old k && not (k == n))
removed old n y l h k = by (cases_order (k / 64) (n / 64))
  where
    here : k / 64 ≡ n / 64 → has_temporary (slice_set old (n / 64) y) k ≡ (has_temporary old k && not (k == n))
    here e =
        ap (λ (x : ℕ). has_bit (slice_index (slice_set old (n / 64) y) x) (k % 64)) e
        ∙ ap (λ (x : ℕ). has_bit x (k % 64)) (get_or-set_same old (n / 64) y 0 l)
        ∙ h (k % 64) (mod-lt k {m = 64} (omega arith))
        ∙ ap (λ (x : ℕ). has_bit (slice_index old x) (k % 64) && not (k % 64 == n % 64)) (sym e)
        ∙ ap (λ (b : Bool). has_temporary old k && not b) (same_place k n e)

    there : k / 64 ≢ n / 64 → has_temporary (slice_set old (n / 64) y) k ≡ (has_temporary old k && not (k == n))
    there ne =
        ap (λ (x : ℕ). has_bit x (k % 64)) (get_or-set_other old (n / 64) (k / 64) y 0 ne)
        ∙ no_more old k n (λ e. ne (ap (λ (x : ℕ). x / 64) e))

    by : (k / 64 ≡ n / 64) ⊎ ((k / 64 < n / 64) ⊎ (n / 64 < k / 64)) → has_temporary (slice_set old (n / 64) y) k ≡ (has_temporary old k && not (k == n))
    by (inl e) = here e
    by (inr (inl m)) = there (λ e. omega (arith, e, m))
    by (inr (inr m)) = there (λ e. omega (arith, e, m))

-- it has no word
pub not_there : (old : List ℕ) (n : ℕ) → length old ≤ n / 64 → (k : ℕ) → has_temporary old k ≡ (has_temporary old k && not (k == n))
not_there old n l k = by (k == n) refl
  where
    by : (b : Bool) → (k == n) ≡ b → has_temporary old k ≡ (has_temporary old k && not b)
    by true e =
        let none : has_temporary old k ≡ false = ap (has_temporary old) (eqb-true k n e) ∙ has_past old n l in
        none ∙ sym (ap (λ (b : Bool). b && false) none)
    by false e = sym (and_true (has_temporary old k))

-- the first i words hold what both have
pub record KeepsTo (i : ℕ) (old other now : List ℕ) : Type 0 where
  pub long : length now ≡ length old
  pub done : (j : ℕ) → j < i → slice_index now j ≡ bit_and (slice_index old j) (slice_index other j)
  pub rest : (j : ℕ) → i ≤ j → slice_index now j ≡ slice_index old j

pub keeps_none : (old other : List ℕ) → KeepsTo 0 old other old
keeps_none old other = record { long = refl; done = λ j l. absurd (omega (arith, l)); rest = λ j l. refl }

pub keeps_next : (old other now : List ℕ) (i y : ℕ) → i < length now → y ≡ bit_and (slice_index now i) (slice_index other i) → KeepsTo i old other now
    → KeepsTo (i + 1) old other (slice_set now i y)
keeps_next old other now i y l is k = record { long = length-set now i y ∙ k.long; done = done; rest = rest }
  where
    done : (j : ℕ) → j < i + 1 → slice_index (slice_set now i y) j ≡ bit_and (slice_index old j) (slice_index other j)
    done j m = at (cases_order j i)
      where
        at : (j ≡ i) ⊎ ((j < i) ⊎ (i < j)) → slice_index (slice_set now i y) j ≡ bit_and (slice_index old j) (slice_index other j)
        at (inl e) =
            ap (slice_index (slice_set now i y)) e ∙ get_or-set_same now i y 0 l ∙ is
            ∙ ap (λ (x : ℕ). bit_and x (slice_index other i)) (k.rest i (omega arith)) ∙ ap (λ (x : ℕ). bit_and (slice_index old x) (slice_index other x)) (sym e)
        at (inr (inl h)) = get_or-set_other now i j y 0 (λ e. omega (arith, e, h)) ∙ k.done j h
        at (inr (inr h)) = absurd (omega (arith, h, m))

    rest : (j : ℕ) → i + 1 ≤ j → slice_index (slice_set now i y) j ≡ slice_index old j
    rest j m = get_or-set_other now i j y 0 (λ e. omega (arith, e, m)) ∙ k.rest j (omega (arith, m))

pub keeps_all : (old other now : List ℕ) (n : ℕ) → length old ≤ n → KeepsTo n old other now
    → (k : ℕ) → has_temporary now k ≡ (has_temporary old k && has_temporary other k)
keeps_all old other now n e kept k = by (cases_lt (k / 64) n)
  where
    by : (k / 64 < n) ⊎ (n ≤ k / 64) → has_temporary now k ≡ (has_temporary old k && has_temporary other k)
    by (inl l) = ap (λ (x : ℕ). has_bit x (k % 64)) (kept.done (k / 64) l) ∙ both_bits (slice_index old (k / 64)) (slice_index other (k / 64)) (k % 64)
    by (inr l) =
        let none : has_temporary old k ≡ false = has_past old k (omega (arith, l, e)) in
        ap (λ (x : ℕ). has_bit x (k % 64)) (kept.rest (k / 64) l) ∙ none ∙ sym (ap (λ (b : Bool). b && has_temporary other k) none)

-- words of ones have all bits
pub full_bits : (n k : ℕ) → k / 64 < n → has_temporary (replicate n (2 ^ 64 - 1)) k ≡ true
full_bits n k l =
    ap (λ (x : ℕ). has_bit x (k % 64)) (get_or-replicate n (k / 64) (2 ^ 64 - 1) 0 l)
    ∙ ap (λ (x : ℕ). x == 1) (bit_at_ones 64 (k % 64) (mod-lt k {m = 64} (omega arith)))
