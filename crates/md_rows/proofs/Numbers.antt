-- A number hole prints the number of its range that has the value.
use Rattle.std.proofs.Common.{◌≡◌, ℕ, suc, ◌+◌, ◌-◌, ◌^◌, ◌%◌, ◌≤◌, ◌<◌, ◌⊎◌, inl, inr, ℤ, pos, negsuc, Bool, true, false, cond, leb, Some, None, refl, sym, ap, subst, ◌∙◌, arith}
use Rattle.std.proofs.Math.Nat.{mod-eq_of_lt}
use Rattle.std.proofs.lemmas.Bool.{and_parts, leb-true, lt-leb}
use Rattle.std.specs.Prelude.{int_le}
use Rattle.rtl_word.specs.Words.{IsWordSize}
use Rattle.md_rows.specs.Fits.{within, turned, below_zero, word_of, printed}
use Rattle.md_rows.specs.Printing.{IsLegalRange, IsNumberOf}

-- half the words are below zero as signed numbers

some_words : (w : ℕ) → IsWordSize w → 0 < 2 ^ (w - 1)
some_words w (inl e) = subst (λ x. 0 < 2 ^ (x - 1)) (sym e) (omega arith)
some_words w (inr e) = subst (λ x. 0 < 2 ^ (x - 1)) (sym e) (omega arith)

half_of_words : (w : ℕ) → IsWordSize w → 2 ^ (w - 1) + 2 ^ (w - 1) ≡ 2 ^ w
half_of_words w (inl e) = subst (λ x. 2 ^ (x - 1) + 2 ^ (x - 1) ≡ 2 ^ x) (sym e) refl
half_of_words w (inr e) = subst (λ x. 2 ^ (x - 1) + 2 ^ (x - 1) ≡ 2 ^ x) (sym e) refl

-- the complement of the complement

turned_is_word : (w : ℕ) (inverted : Bool) (v : ℕ) → v < 2 ^ w → turned w inverted v < 2 ^ w
turned_is_word w true v h = omega arith
turned_is_word w false v h = h

turned_back : (w : ℕ) (inverted : Bool) (v x : ℕ) → v < 2 ^ w → x ≡ turned w inverted v → cond inverted (2 ^ w - 1 - x) x ≡ v
turned_back w true v x h e = omega (arith, e)
turned_back w false v x h e = e

turned_from : (w : ℕ) (inverted : Bool) (v x : ℕ) → x < 2 ^ w → cond inverted (2 ^ w - 1 - x) x ≡ v → x ≡ turned w inverted v
turned_from w true v x h e = omega (arith, e)
turned_from w false v x h e = e

-- which of the two is printed

chosen : (b c : Bool) (t k : ℕ) (p : ℤ) → cond b (Some (pos t)) (cond c (Some (negsuc k)) None) ≡ Some p
    → ((b ≡ true) × (pos t ≡ p)) ⊎ ((c ≡ true) × (negsuc k ≡ p))
chosen true c t k p e = inl (refl, cc)
chosen false true t k p e = inr (refl, cc)
chosen false false t k p e = cc

first_chosen : (b c : Bool) (t k : ℕ) → b ≡ true → cond b (Some (pos t)) (cond c (Some (negsuc k)) None) ≡ Some (pos t)
first_chosen b c t k h = ap (λ x. cond x (Some (pos t)) (cond c (Some (negsuc k)) None)) h

second_chosen : (b c : Bool) (t k : ℕ) → b ≡ false → c ≡ true → cond b (Some (pos t)) (cond c (Some (negsuc k)) None) ≡ Some (negsuc k)
second_chosen b c t k h g =
    ap (λ x. cond x (Some (pos t)) (cond c (Some (negsuc k)) None)) h ∙ ap (λ x. cond x (Some (negsuc k)) None) g

-- the numbers of a legal range

positive_is_word : (w : ℕ) (low high : ℤ) (n : ℕ) → IsWordSize w → IsLegalRange w low high → within low high (pos n) ≡ true → n < 2 ^ w
positive_is_word w low (pos b) n size range h =
    let some = some_words w size in
    let half = half_of_words w size in
    let above : n ≤ b = leb-true n b (and_parts (int_le low (pos n)) (leb n b) h).1 in
    let most : b ≤ 2 ^ w - 1 = leb-true b (2 ^ w - 1) range.most in
    omega arith
positive_is_word w low (negsuc b) n size range h = let no : false ≡ true = (and_parts (int_le low (pos n)) false h).1 in cc

negative_is_word : (w : ℕ) (low high : ℤ) (n : ℕ) → IsWordSize w → IsLegalRange w low high → within low high (negsuc n) ≡ true → n < 2 ^ w
negative_is_word w (pos a) high n size range h = let no : false ≡ true = (and_parts false (int_le (negsuc n) high) h).0 in cc
negative_is_word w (negsuc a) high n size range h =
    let some = some_words w size in
    let half = half_of_words w size in
    let below : n ≤ a = leb-true n a (and_parts (leb n a) (int_le (negsuc n) high) h).0 in
    let least : a ≤ 2 ^ (w - 1) - 1 = leb-true a (2 ^ (w - 1) - 1) range.least in
    omega arith

-- two numbers with one word are not both in it
other_outside : (w : ℕ) (low high : ℤ) (n t : ℕ) → IsLegalRange w low high → n < 2 ^ w → t ≡ 2 ^ w - 1 - n → within low high (negsuc n) ≡ true
    → within low high (pos t) ≡ false
other_outside w (pos a) high n t range l e h = let no : false ≡ true = (and_parts false (int_le (negsuc n) high) h).0 in cc
other_outside w (negsuc a) (negsuc b) n t range l e h = refl
other_outside w (negsuc a) (pos b) n t range l e h =
    let below : n ≤ a = leb-true n a (and_parts (leb n a) true h).0 in
    let few : a + 1 + b < 2 ^ w = range.few in
    lt-leb t b (omega (arith, e))

module _ (w : ℕ) (low high : ℤ) (inverted : Bool) (v : ℕ) (size : IsWordSize w) (range : IsLegalRange w low high) (word : v < 2 ^ w) where
  abbrev t : ℕ
  t = turned w inverted v

  below : t < 2 ^ w
  below = turned_is_word w inverted v word

  positive_is : within low high (pos t) ≡ true → IsNumberOf w low high inverted v (pos t)
  positive_is h = record { in_range = h; value = turned_back w inverted v (t % 2 ^ w) word (mod-eq_of_lt below) }

  negative_word : word_of w (below_zero w t) ≡ t
  negative_word =
      let less : 2 ^ w - suc t < 2 ^ w = omega (arith, below) in
      ap (λ x. 2 ^ w - 1 - x) (mod-eq_of_lt less) ∙ (omega (arith, below))

  negative_is : within low high (below_zero w t) ≡ true → IsNumberOf w low high inverted v (below_zero w t)
  negative_is h = record { in_range = h; value = turned_back w inverted v (word_of w (below_zero w t)) word negative_word }

  printed_is : (p : ℤ) → printed w low high inverted v ≡ Some p → IsNumberOf w low high inverted v p
  printed_is p e =
      elim (chosen (within low high (pos t)) (within low high (below_zero w t)) t (2 ^ w - suc t) p e) [
        | inl h ↦ subst (IsNumberOf w low high inverted v) h.1 (positive_is h.0)
        | inr h ↦ subst (IsNumberOf w low high inverted v) h.1 (negative_is h.0)
      ]

  is_printed : (p : ℤ) → IsNumberOf w low high inverted v p → printed w low high inverted v ≡ Some p
  is_printed (pos n) h =
      let small : n < 2 ^ w = positive_is_word w low high n size range h.in_range in
      let itself : n % 2 ^ w ≡ n = mod-eq_of_lt small in
      let same : n ≡ t = sym itself ∙ turned_from w inverted v (n % 2 ^ w) (omega (arith, itself)) h.value in
      first_chosen (within low high (pos t)) (within low high (below_zero w t)) t (2 ^ w - suc t) (subst (λ x. within low high (pos x) ≡ true) same h.in_range)
      ∙ ap (λ x. Some (pos x)) (sym same)
  is_printed (negsuc n) h =
      let small : n < 2 ^ w = negative_is_word w low high n size range h.in_range in
      let reading : word_of w (negsuc n) ≡ 2 ^ w - 1 - n = ap (λ x. 2 ^ w - 1 - x) (mod-eq_of_lt small) in
      let same : 2 ^ w - 1 - n ≡ t = sym reading ∙ turned_from w inverted v (word_of w (negsuc n)) (omega (arith, reading, small)) h.value in
      let number : n ≡ 2 ^ w - suc t = omega (arith, same, small) in
      second_chosen (within low high (pos t)) (within low high (below_zero w t)) t (2 ^ w - suc t)
      (other_outside w low high n t range small (sym same) h.in_range) (subst (λ x. within low high (negsuc x) ≡ true) number h.in_range)
      ∙ ap (λ x. Some (negsuc x)) (sym number)

pub prints_number_of : (w : ℕ) (low high : ℤ) (inverted : Bool) (v : ℕ) (p : ℤ) → IsWordSize w → IsLegalRange w low high → v < 2 ^ w
    → (printed w low high inverted v ≡ Some p → IsNumberOf w low high inverted v p)
    × (IsNumberOf w low high inverted v p → printed w low high inverted v ≡ Some p)
prints_number_of w low high inverted v p size range word = (printed_is w low high inverted v size range word p, is_printed w low high inverted v size range word p)
