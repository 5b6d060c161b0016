-- Which rule is told, and what is accepted where none is.
use Rattle.std.proofs.Common.{◌≡◌, ℕ, zero, suc, ◌+◌, ◌<◌, ◌≤◌, List, [], ◌∷◌, map, slice_get, Some, None, inl, inr, refl, sym, subst, arith}
use Rattle.md_rows.specs.declared.description.RawDescription.{RawDescription}
use Rattle.md_rows.specs.declared.row.Row.{Row}
use Rattle.md_overlap.specs.declared.told.Overlapping.{Overlapping as Lines}
use Rattle.md_overlap.specs.Overlap.{HasOverlap}
use Rattle.md_overlap.specs.Least.{IsLeastPair, NoLater}
use Rattle.md_covers.specs.Covers.{IsReadRow}
use Rattle.md_said.specs.Sound.{IsSoundRow, SaidIsSound}
use Rattle.md_check.specs.Accepted.{Rule, Overlapping, FewRegisters, MissingShape, number_of, Breaks, Told, MissesShape, general_count, most_registers, normalised, normalised_row}
use Rattle.md_check.specs.Checking.{IsLeast, AreReadRows, IsChecked}

below : (m n : ℕ) → m < n → n ≤ m → ⊥
below m n h k = omega arith

no_less : (r : Rule) → number_of r < 15 → ⊥
no_less Overlapping h = below 15 15 h (omega arith)
no_less FewRegisters h = below 16 15 h (omega arith)
no_less MissingShape h = below 17 15 h (omega arith)

line_of : (a b c d : ℕ) → NoLater a b c d → a ≤ c
line_of a b c d h = elim h [ inl x ↦ omega arith | inr y ↦ (let z = y.0 in omega arith) ]

detail_of : (a b d : ℕ) → NoLater a b a d → b ≤ d
detail_of a b d h = elim h [ inl x ↦ absurd (below a a x (omega arith)) | inr y ↦ y.1 ]

pub told_overlap : (d : RawDescription) (o : Lines) → IsLeastPair (HasOverlap d) (Some o) → Told d Overlapping o.line o.earlier
told_overlap d o h = record {
  broken = h.0;
  least_rule = λ r l e k b. no_less r k;
  least_line = λ l e b. line_of o.line o.earlier l e (h.1 l e b);
  least_detail = λ e b. detail_of o.line o.earlier e (h.1 o.line e b);
}

equal_le : (m n : ℕ) → n ≡ m → m ≤ n
equal_le m n e = omega arith

missing_least : (d : RawDescription) → ((l e : ℕ) → HasOverlap d l e → ⊥) → (general_count d.registers < most_registers d.rows + 1 → ⊥)
    → (r : Rule) (l e : ℕ) → number_of r < 17 → Breaks r d l e → ⊥
missing_least d h k Overlapping l e n b = h l e b
missing_least d h k FewRegisters l e n b = k b.few
missing_least d h k MissingShape l e n b = below 17 17 n (omega arith)

pub told_missing : (d : RawDescription) (n : ℕ) → ((l e : ℕ) → HasOverlap d l e → ⊥) → (general_count d.registers < most_registers d.rows + 1 → ⊥)
    → IsLeast (MissesShape (normalised d)) (Some n) → Told d MissingShape d.last n
told_missing d n h k m = record {
  broken = record { misses = m.0; last = refl };
  least_rule = missing_least d h k;
  least_line = λ l e b. equal_le d.last l b.last;
  least_detail = λ e b. m.1 e b.misses;
}

-- rows with their normal forms are such as can be compared with shapes

pub read_row : (w : ℕ) (r : Row) → IsSoundRow w r → IsReadRow w (normalised_row w r)
read_row w r s = record { effects = s.effects; normal = refl }

no_some : {A : Type 0} (x : A) → None ≡ Some x → ⊥
no_some x e = cc

some_same : {A : Type 0} (x y : A) → Some x ≡ Some y → x ≡ y
some_same x y e = cc

read_at : (w : ℕ) (rows : List Row) → ((i : ℕ) (row : Row) → slice_get rows i ≡ Some row → IsSoundRow w row) → (i : ℕ) (row : Row)
    → slice_get (map (normalised_row w) rows) i ≡ Some row → IsReadRow w row
read_at w [] h i row e = absurd (no_some row e)
read_at w (r ∷ rows) h zero row e = subst (IsReadRow w) (some_same (normalised_row w r) row e) (read_row w r (h zero r refl))
read_at w (r ∷ rows) h (suc i) row e = read_at w rows (λ j x k. h (suc j) x k) i row e

pub read_rows : (w : ℕ) (d : RawDescription) → d.word ≡ w → ((i : ℕ) (row : Row) → slice_get d.rows i ≡ Some row → IsSoundRow d.word row)
    → AreReadRows w (normalised d).rows
read_rows w d e h = subst (λ (v : ℕ). AreReadRows v (normalised d).rows) e (read_at d.word d.rows h)

pub sound_rows : (w : ℕ) (d : RawDescription) → d.word ≡ w → ((i : ℕ) (row : Row) → slice_get d.rows i ≡ Some row → IsSoundRow d.word row)
    → (i : ℕ) (row : Row) → slice_get d.rows i ≡ Some row → IsSoundRow w row
sound_rows w d e h i row k = subst (λ (v : ℕ). IsSoundRow v row) e (h i row k)

-- so are those of a description that was checked
pub checked_rows : (w : ℕ) (d : RawDescription) → SaidIsSound → IsChecked w d → AreReadRows w d.rows
checked_rows w d sound c =
    subst (λ (e : RawDescription). AreReadRows w e.rows) (sym c.normal)
    (read_rows w c.said c.word (sound c.text c.said c.accepted.says).rows)
