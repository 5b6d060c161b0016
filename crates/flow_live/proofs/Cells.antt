-- Rows with a cell more or less.
use Rattle.std.proofs.Common.{◌≡◌, ◌⊎◌, inl, inr, ℕ, ◌-◌, ◌/◌, ◌%◌, ◌^◌, ◌<◌, Bool, true, false, not, List, length, refl, sym, ap, subst, ◌∙◌, arith, get_or}
use Rattle.std.specs.Prelude.{◌&&◌, ◌||◌, ◌==◌, nat_lt, bit_and, bit_or, slice_index, slice_set, replicate}
use Rattle.std.specs.Int.{w64}
use Rattle.std.proofs.lemmas.Bool.{false≢true, ltb-true, ne_eqb, or_right, eqb-true, eqb-false, eq-eqb, cases_eq}
use Rattle.std.proofs.lemmas.Nat.Bits.{bit_at_ones}
use Rattle.std.proofs.lemmas.List.{get_or-set_same, get_or-set_other, get_or-replicate, length-replicate}
use Rattle.rtl_tree.specs.declared.cells.Cell.{Cell}
use Rattle.rtl_tree.specs.declared.cells.Cell.TheVariants.{Hard, Temp, Flag, Pc, Input, Output, Halt, Hole}
use Rattle.rtl_tree.specs.Same.{same_cell}
use Rattle.rtl_tree.specs.Sets.{CellBits, has_cell}
use Rattle.flow_live.specs.Rows.{Becomes, has_bit, has_temporary, is_held, is_lost, is_masked}
use Rattle.flow_live.proofs.Bits.{or_false, and_true, without_mask, with_others}

-- a row of these parts

abbrev row : ℕ → ℕ → List ℕ → CellBits
row hard flags temps = record { hard = hard; flags = flags; temps = temps }

-- A new row is as the cells of each kind say.
by_kind : (d : Cell → Bool) (old new : CellBits) → length new.temps ≡ length old.temps
    → ((n : ℕ) → n < 64 → has_bit new.hard n ≡ d (Hard n)) → ((n : ℕ) → n < 8 → has_bit new.flags n ≡ d (Flag n))
    → ((n : ℕ) → n / 64 < length old.temps → has_temporary new.temps n ≡ d (Temp n)) → Becomes d old new
by_kind d old new words hards flags temps = record { words = words; cells = cells }
  where
    cells : (c : Cell) → is_held (length old.temps) c ≡ true → has_cell new c ≡ d c
    cells (Hard n) h = hards n (ltb-true n 64 h)
    cells (Flag n) h = flags n (ltb-true n 8 h)
    cells (Temp n) h = temps n (ltb-true (n / 64) (length old.temps) h)
    cells Pc h = absurd (false≢true h)
    cells Input h = absurd (false≢true h)
    cells Output h = absurd (false≢true h)
    cells Halt h = absurd (false≢true h)
    cells (Hole n) h = absurd (false≢true h)

pub unmasked : (hard flags mask : ℕ) (temps : List ℕ) → mask < 2 ^ 64
    → Becomes (λ c. has_cell (row hard flags temps) c && not (is_masked mask c)) (row hard flags temps) (row (bit_and hard (2 ^ 64 - 1 - mask)) flags temps)
unmasked hard flags mask temps l = by_kind (λ c. has_cell (row hard flags temps) c && not (is_masked mask c)) _ _ refl
    (λ n m. without_mask w64 hard mask n l m) (λ n m. sym (and_true (has_bit flags n))) (λ n m. sym (and_true (has_temporary temps n)))

pub lost : (hard flags spared : ℕ) (temps : List ℕ) → spared < 2 ^ 64
    → Becomes (λ c. has_cell (row hard flags temps) c || is_lost spared c) (row hard flags temps) (row (bit_or hard (2 ^ 64 - 1 - spared)) 255 temps)
lost hard flags spared temps l = by_kind (λ c. has_cell (row hard flags temps) c || is_lost spared c) _ _ refl
    (λ n m. with_others w64 hard spared n l m) (λ n m. ap (λ (x : ℕ). x == 1) (bit_at_ones 8 n m) ∙ sym (or_right (has_bit flags n) true refl))
    (λ n m. sym (or_false (has_temporary temps n)))

pub filled : (s : CellBits) (temps : List ℕ) → length temps ≡ length s.temps → ((n : ℕ) → n / 64 < length temps → has_temporary temps n ≡ true)
    → Becomes (λ c. true) s (row (2 ^ 64 - 1) 255 temps)
filled s temps same full = by_kind (λ c. true) s (row (2 ^ 64 - 1) 255 temps) same
    (λ n m. ap (λ (x : ℕ). x == 1) (bit_at_ones 64 n m)) (λ n m. ap (λ (x : ℕ). x == 1) (bit_at_ones 8 n m))
    (λ n m. full n (subst (λ (k : ℕ). n / 64 < k) (sym same) m))

pub filled_by : (s : CellBits) (temps : List ℕ) → length temps ≡ length s.temps → ((k d : ℕ) → k < length temps → get_or temps k d ≡ 2 ^ 64 - 1)
    → Becomes (λ c. true) s (row (2 ^ 64 - 1) 255 temps)
filled_by s temps same is =
    filled s temps same (λ n l. ap (λ (x : ℕ). has_bit x (n % 64)) (is (n / 64) 0 l) ∙ ap (λ (x : ℕ). x == 1) (bit_at_ones 64 (n % 64) (omega arith)))

-- one cell more

pub put_register : (hard flags n word : ℕ) (temps : List ℕ) → ((k : ℕ) → k < 64 → has_bit word k ≡ (has_bit hard k || (k == n)))
    → Becomes (λ c. has_cell (row hard flags temps) c || same_cell c (Hard n)) (row hard flags temps) (row word flags temps)
put_register hard flags n word temps f = by_kind (λ c. has_cell (row hard flags temps) c || same_cell c (Hard n)) _ _ refl
    f (λ k m. sym (or_false (has_bit flags k))) (λ k m. sym (or_false (has_temporary temps k)))

pub put_flag : (hard flags n word : ℕ) (temps : List ℕ) → ((k : ℕ) → k < 8 → has_bit word k ≡ (has_bit flags k || (k == n)))
    → Becomes (λ c. has_cell (row hard flags temps) c || same_cell c (Flag n)) (row hard flags temps) (row hard word temps)
put_flag hard flags n word temps f = by_kind (λ c. has_cell (row hard flags temps) c || same_cell c (Flag n)) _ _ refl
    (λ k m. sym (or_false (has_bit hard k))) f (λ k m. sym (or_false (has_temporary temps k)))

pub put_temporary : (hard flags n : ℕ) (temps words : List ℕ) → length words ≡ length temps
    → ((k : ℕ) → k / 64 < length temps → has_temporary words k ≡ (has_temporary temps k || (k == n)))
    → Becomes (λ c. has_cell (row hard flags temps) c || same_cell c (Temp n)) (row hard flags temps) (row hard flags words)
put_temporary hard flags n temps words same f = by_kind (λ c. has_cell (row hard flags temps) c || same_cell c (Temp n)) _ _ same
    (λ k m. sym (or_false (has_bit hard k))) (λ k m. sym (or_false (has_bit flags k))) f

-- one cell less

pub remove_register : (hard flags n word : ℕ) (temps : List ℕ) → ((k : ℕ) → k < 64 → has_bit word k ≡ (has_bit hard k && not (k == n)))
    → Becomes (λ c. has_cell (row hard flags temps) c && not (same_cell c (Hard n))) (row hard flags temps) (row word flags temps)
remove_register hard flags n word temps f = by_kind (λ c. has_cell (row hard flags temps) c && not (same_cell c (Hard n))) _ _ refl
    f (λ k m. sym (and_true (has_bit flags k))) (λ k m. sym (and_true (has_temporary temps k)))

pub remove_flag : (hard flags n word : ℕ) (temps : List ℕ) → ((k : ℕ) → k < 8 → has_bit word k ≡ (has_bit flags k && not (k == n)))
    → Becomes (λ c. has_cell (row hard flags temps) c && not (same_cell c (Flag n))) (row hard flags temps) (row hard word temps)
remove_flag hard flags n word temps f = by_kind (λ c. has_cell (row hard flags temps) c && not (same_cell c (Flag n))) _ _ refl
    (λ k m. sym (and_true (has_bit hard k))) f (λ k m. sym (and_true (has_temporary temps k)))

pub remove_temporary : (hard flags n : ℕ) (temps words : List ℕ) → length words ≡ length temps
    → ((k : ℕ) → k / 64 < length temps → has_temporary words k ≡ (has_temporary temps k && not (k == n)))
    → Becomes (λ c. has_cell (row hard flags temps) c && not (same_cell c (Temp n))) (row hard flags temps) (row hard flags words)
remove_temporary hard flags n temps words same f = by_kind (λ c. has_cell (row hard flags temps) c && not (same_cell c (Temp n))) _ _ same
    (λ k m. sym (and_true (has_bit hard k))) (λ k m. sym (and_true (has_bit flags k))) f

-- a cell without a bit

-- it is none of those that have one
apart : (words : ℕ) (x c : Cell) → is_held words x ≡ false → is_held words c ≡ true → same_cell c x ≡ false
apart words x (Hard n) f h = hards n x f h
  where
    hards : (n : ℕ) (x : Cell) → is_held words x ≡ false → nat_lt n 64 ≡ true → same_cell (Hard n) x ≡ false
    hards n (Hard k) f h = ne_eqb n k (λ e. false≢true (sym f ∙ subst (λ (j : ℕ). nat_lt j 64 ≡ true) e h))
    hards n (Temp k) f h = refl
    hards n (Flag k) f h = refl
    hards n Pc f h = refl
    hards n Input f h = refl
    hards n Output f h = refl
    hards n Halt f h = refl
    hards n (Hole k) f h = refl
apart words x (Flag n) f h = flags n x f h
  where
    flags : (n : ℕ) (x : Cell) → is_held words x ≡ false → nat_lt n 8 ≡ true → same_cell (Flag n) x ≡ false
    flags n (Hard k) f h = refl
    flags n (Temp k) f h = refl
    flags n (Flag k) f h = ne_eqb n k (λ e. false≢true (sym f ∙ subst (λ (j : ℕ). nat_lt j 8 ≡ true) e h))
    flags n Pc f h = refl
    flags n Input f h = refl
    flags n Output f h = refl
    flags n Halt f h = refl
    flags n (Hole k) f h = refl
apart words x (Temp n) f h = temps n x f h
  where
    temps : (n : ℕ) (x : Cell) → is_held words x ≡ false → nat_lt (n / 64) words ≡ true → same_cell (Temp n) x ≡ false
    temps n (Hard k) f h = refl
    temps n (Temp k) f h = ne_eqb n k (λ e. false≢true (sym f ∙ subst (λ (j : ℕ). nat_lt (j / 64) words ≡ true) e h))
    temps n (Flag k) f h = refl
    temps n Pc f h = refl
    temps n Input f h = refl
    temps n Output f h = refl
    temps n Halt f h = refl
    temps n (Hole k) f h = refl
apart words x Pc f h = absurd (false≢true h)
apart words x Input f h = absurd (false≢true h)
apart words x Output f h = absurd (false≢true h)
apart words x Halt f h = absurd (false≢true h)
apart words x (Hole n) f h = absurd (false≢true h)

pub put_none : (s : CellBits) (x : Cell) → is_held (length s.temps) x ≡ false → Becomes (λ c. has_cell s c || same_cell c x) s s
put_none s x f = record { words = refl; cells = λ c h. sym (ap (λ (b : Bool). has_cell s c || b) (apart (length s.temps) x c f h) ∙ or_false (has_cell s c)) }

pub remove_none : (s : CellBits) (x : Cell) → is_held (length s.temps) x ≡ false → Becomes (λ c. has_cell s c && not (same_cell c x)) s s
remove_none s x f = record { words = refl; cells = λ c h. sym (ap (λ (b : Bool). has_cell s c && not b) (apart (length s.temps) x c f h) ∙ and_true (has_cell s c)) }

-- words of temporaries

-- a number is that of its word and its bit
same_parts : (k n : ℕ) → k / 64 ≡ n / 64 → k % 64 ≡ n % 64 → k ≡ n
same_parts k n e f = omega (arith, e, f)

parts : (k n : ℕ) → k / 64 ≡ n / 64 → (k % 64 == n % 64) ≡ (k == n)
parts k n e = by (k == n) refl
  where
    by : (b : Bool) → (k == n) ≡ b → (k % 64 == n % 64) ≡ b
    by true f = ap (λ (j : ℕ). j % 64 == n % 64) (eqb-true k n f) ∙ same (n % 64)
      where
        same : (j : ℕ) → (j == j) ≡ true
        same j = eq-eqb j j refl
    by false f = ne_eqb (k % 64) (n % 64) (λ g. eqb-false k n f (same_parts k n e g))

other_word : (k n : ℕ) → (k / 64 ≡ n / 64 → ⊥) → (k == n) ≡ false
other_word k n ne = ne_eqb k n (λ e. ne (ap (λ (j : ℕ). j / 64) e))

-- the word of temporary n becomes another one
pub set_word : (op : Bool → Bool → Bool) (still : (b : Bool) → op b false ≡ b) (words : List ℕ) (n word : ℕ) → n / 64 < length words
    → ((k : ℕ) → k < 64 → has_bit word k ≡ op (has_bit (slice_index words (n / 64)) k) (k == n % 64))
    → (k : ℕ) → has_temporary (slice_set words (n / 64) word) k ≡ op (has_temporary words k) (k == n)
set_word op still words n word l f k = by (cases_eq (k / 64) (n / 64))
  where
    by : (k / 64 ≡ n / 64) ⊎ (k / 64 ≡ n / 64 → ⊥) → has_temporary (slice_set words (n / 64) word) k ≡ op (has_temporary words k) (k == n)
    by (inl e) =
        ap (λ (x : ℕ). has_bit x (k % 64)) (ap (slice_index (slice_set words (n / 64) word)) e ∙ get_or-set_same words (n / 64) word 0 l)
        ∙ f (k % 64) (omega arith)
        ∙ ap (λ (b : Bool). op (has_bit (slice_index words (n / 64)) (k % 64)) b) (parts k n e)
        ∙ ap (λ (j : ℕ). op (has_bit (slice_index words j) (k % 64)) (k == n)) (sym e)
    by (inr ne) =
        ap (λ (x : ℕ). has_bit x (k % 64)) (get_or-set_other words (n / 64) (k / 64) word 0 ne)
        ∙ sym (ap (op (has_temporary words k)) (other_word k n ne) ∙ still (has_temporary words k))

all_bits : (n k : ℕ) → k / 64 < n → has_temporary (replicate n (2 ^ 64 - 1)) k ≡ true
all_bits n k l = ap (λ (x : ℕ). has_bit x (k % 64)) (get_or-replicate n (k / 64) (2 ^ 64 - 1) 0 l) ∙ ap (λ (x : ℕ). x == 1) (bit_at_ones 64 (k % 64) (omega arith))

pub full : (s : CellBits) (n : ℕ) → n ≡ length s.temps → Becomes (λ c. true) s (row (2 ^ 64 - 1) 255 (replicate n (2 ^ 64 - 1)))
full s n e = filled s (replicate n (2 ^ 64 - 1)) (length-replicate n (2 ^ 64 - 1) ∙ e)
    (λ k l. all_bits n k (subst (λ (m : ℕ). k / 64 < m) (length-replicate n (2 ^ 64 - 1)) l))
