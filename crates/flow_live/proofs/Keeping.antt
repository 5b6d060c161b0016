-- What two rows share.
use Rattle.std.proofs.Common.{◌≡◌, ◌⊎◌, inl, inr, ℕ, zero, suc, ◌+◌, ◌/◌, ◌%◌, ◌<◌, ◌≤◌, Bool, true, false, not, List, [], ◌∷◌, length, refl, sym, ap, subst, ◌∙◌, arith, length-set}
use Rattle.std.specs.Prelude.{◌&&◌, ◌||◌, ◌==◌, bit_and, slice_index, slice_set}
use Rattle.std.proofs.lemmas.Bool.{true≢false, false≢true, eqb-true, eqb-false, cases_lt, cases_order, and_left}
use Rattle.std.proofs.lemmas.Nat.{and_le_l}
use Rattle.std.proofs.lemmas.Nat.Bits.{bit_at-zero}
use Rattle.std.proofs.lemmas.List.{get_or-set_same, get_or-set_other, set-get_or, get_or_past}
use Rattle.rtl_tree.specs.declared.cells.Cell.{Cell}
use Rattle.rtl_tree.specs.declared.cells.Cell.TheVariants.{Hard, Temp, Flag, Pc, Input, Output, Halt, Hole}
use Rattle.rtl_tree.specs.Sets.{CellBits, has_cell}
use Rattle.flow_live.specs.Rows.{Becomes, added, has_bit, has_temporary, is_held}
use Rattle.flow_live.proofs.Bits.{both_bits}

added_set : (xs : List ℕ) (i y : ℕ) → i < length xs → added (slice_set xs i y) + slice_index xs i ≡ added xs + y
added_set [] i y l = absurd (omega (arith, l))
added_set (x ∷ xs) zero y l = omega arith
added_set (x ∷ xs) (suc i) y l = let h : added (slice_set xs i y) + slice_index xs i ≡ added xs + y = added_set xs i y (omega (arith, l)) in omega (arith, h)

-- the first i words hold what both have
pub record KeepsTo (i : ℕ) (old other now : List ℕ) (fell : Bool) : Type 0 where
  pub long : length now ≡ length old
  pub done : (j : ℕ) → j < i → slice_index now j ≡ bit_and (slice_index old j) (slice_index other j)
  pub rest : (j : ℕ) → i ≤ j → slice_index now j ≡ slice_index old j
  pub falls : fell ≡ true → added now < added old
  pub same : fell ≡ false → now ≡ old

pub keeps_none : (old other : List ℕ) → KeepsTo 0 old other old false
keeps_none old other = record { long = refl; done = λ j l. absurd (omega (arith, l)); rest = λ j l. refl; falls = λ e. absurd (false≢true e); same = λ e. refl }

at_most : (old other now : List ℕ) (i : ℕ) (fell : Bool) → KeepsTo i old other now fell → added now ≤ added old
at_most old other now i fell k = by fell refl
  where
    by : (b : Bool) → fell ≡ b → added now ≤ added old
    by true e = let h = k.falls e in omega (arith, h)
    by false e = let h : added now ≡ added old = ap added (k.same e) in omega (arith, h)

-- one word more
pub keeps_next : (old other now : List ℕ) (i : ℕ) (fell : Bool) → i < length now → KeepsTo i old other now fell
    → KeepsTo (i + 1) old other (slice_set now i (bit_and (slice_index now i) (slice_index other i))) (fell || not (bit_and (slice_index now i) (slice_index other i) == slice_index now i))
keeps_next old other now i fell l k = by (bit_and (slice_index now i) (slice_index other i) == slice_index now i) refl
  where
    long : length (slice_set now i (bit_and (slice_index now i) (slice_index other i))) ≡ length old
    long = length-set now i (bit_and (slice_index now i) (slice_index other i)) ∙ k.long

    here_now : slice_index now i ≡ slice_index old i
    here_now = k.rest i (omega arith)

    done : (j : ℕ) → j < i + 1 → slice_index (slice_set now i (bit_and (slice_index now i) (slice_index other i))) j ≡ bit_and (slice_index old j) (slice_index other j)
    done j m = at (cases_order j i)
      where
        at : (j ≡ i) ⊎ ((j < i) ⊎ (i < j)) → slice_index (slice_set now i (bit_and (slice_index now i) (slice_index other i))) j ≡ bit_and (slice_index old j) (slice_index other j)
        at (inl e) =
            ap (slice_index (slice_set now i (bit_and (slice_index now i) (slice_index other i)))) e ∙ get_or-set_same now i (bit_and (slice_index now i) (slice_index other i)) 0 l
            ∙ ap (λ (x : ℕ). bit_and x (slice_index other i)) here_now ∙ ap (λ (x : ℕ). bit_and (slice_index old x) (slice_index other x)) (sym e)
        at (inr (inl h)) = get_or-set_other now i j (bit_and (slice_index now i) (slice_index other i)) 0 (λ e. omega (arith, e, h)) ∙ k.done j h
        at (inr (inr h)) = absurd (omega (arith, h, m))

    rest : (j : ℕ) → i + 1 ≤ j → slice_index (slice_set now i (bit_and (slice_index now i) (slice_index other i))) j ≡ slice_index old j
    rest j m = get_or-set_other now i j (bit_and (slice_index now i) (slice_index other i)) 0 (λ e. omega (arith, e, m)) ∙ k.rest j (omega (arith, m))

    by : (b : Bool) → (bit_and (slice_index now i) (slice_index other i) == slice_index now i) ≡ b
        → KeepsTo (i + 1) old other (slice_set now i (bit_and (slice_index now i) (slice_index other i))) (fell || not b)
    by true e = record { long = long; done = done; rest = rest; falls = fallen; same = still }
      where
        unchanged : slice_set now i (bit_and (slice_index now i) (slice_index other i)) ≡ now
        unchanged = ap (slice_set now i) (eqb-true (bit_and (slice_index now i) (slice_index other i)) (slice_index now i) e) ∙ set-get_or now i 0

        plain : (b : Bool) → (b || false) ≡ b
        plain true = refl
        plain false = refl

        fallen : (fell || false) ≡ true → added (slice_set now i (bit_and (slice_index now i) (slice_index other i))) < added old
        fallen f = subst (λ (xs : List ℕ). added xs < added old) (sym unchanged) (k.falls (sym (plain fell) ∙ f))

        still : (fell || false) ≡ false → slice_set now i (bit_and (slice_index now i) (slice_index other i)) ≡ old
        still f = unchanged ∙ k.same (sym (plain fell) ∙ f)
    by false e = record { long = long; done = done; rest = rest; falls = λ f. less; same = λ f. absurd (ever fell f) }
      where
        ever : (b : Bool) → (b || true) ≡ false → ⊥
        ever true f = true≢false f
        ever false f = true≢false f

        less : added (slice_set now i (bit_and (slice_index now i) (slice_index other i))) < added old
        less =
            let ne = eqb-false (bit_and (slice_index now i) (slice_index other i)) (slice_index now i) e in
            let le = and_le_l (slice_index now i) (slice_index other i) in
            let sum = added_set now i (bit_and (slice_index now i) (slice_index other i)) l in
            let before = at_most old other now i fell k in
            omega (arith, ne, le, sum, before)

-- all words
pub kept_temporaries : (old other now : List ℕ) (n : ℕ) (fell : Bool) → n ≡ length old → KeepsTo n old other now fell
    → (k : ℕ) → has_temporary now k ≡ (has_temporary old k && has_temporary other k)
kept_temporaries old other now n fell e kept k = by (cases_lt (k / 64) n)
  where
    by : (k / 64 < n) ⊎ (n ≤ k / 64) → has_temporary now k ≡ (has_temporary old k && has_temporary other k)
    by (inl l) = ap (λ (x : ℕ). has_bit x (k % 64)) (kept.done (k / 64) l) ∙ both_bits (slice_index old (k / 64)) (slice_index other (k / 64)) (k % 64)
    by (inr l) =
        let none : has_temporary old k ≡ false = ap (λ (x : ℕ). has_bit x (k % 64)) (get_or_past old (k / 64) 0 (omega (arith, l, e))) ∙ ap (λ (x : ℕ). x == 1) (bit_at-zero (k % 64)) in
        ap (λ (x : ℕ). has_bit x (k % 64)) (kept.rest (k / 64) l) ∙ none ∙ sym (and_left (has_temporary old k) (has_temporary other k) none)

-- whole rows

pub kept_cells : (s z u : CellBits) → ((n : ℕ) → has_bit u.hard n ≡ (has_bit s.hard n && has_bit z.hard n)) → ((n : ℕ) → has_bit u.flags n ≡ (has_bit s.flags n && has_bit z.flags n))
    → length u.temps ≡ length s.temps → ((n : ℕ) → has_temporary u.temps n ≡ (has_temporary s.temps n && has_temporary z.temps n))
    → Becomes (λ c. has_cell s c && has_cell z c) s u
kept_cells s z u hards flags words temps = record { words = words; cells = cells }
  where
    cells : (c : Cell) → is_held (length s.temps) c ≡ true → has_cell u c ≡ (has_cell s c && has_cell z c)
    cells (Hard n) h = hards n
    cells (Flag n) h = flags n
    cells (Temp n) h = temps n
    cells Pc h = refl
    cells Input h = refl
    cells Output h = refl
    cells Halt h = refl
    cells (Hole n) h = refl
