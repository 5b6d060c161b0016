-- A row of an accepted description as a search has it, and what the search then finds.
use Rattle.std.proofs.Common.{◌≡◌, ℕ, ◌+◌, ◌<◌, ◌≤◌, Bool, true, nat_le, List, length, slice_get, Some, inl, inr, sym, subst, ap, arith, ◌∙◌}
use Rattle.std.proofs.lemmas.Bool.Decides.{nat_tests}
use Rattle.rtl_tree.specs.Moves.{Move}
use Rattle.md_rows.specs.declared.description.RawDescription.{RawDescription}
use Rattle.md_rows.specs.declared.row.Row.{Row}
use Rattle.md_rows.specs.declared.row.Hole.{Hole}
use Rattle.md_rows.specs.declared.instance.Bound.{Bound}
use Rattle.md_rows.specs.Instances.{general_set}
use Rattle.md_rows.specs.Lines.{longest_line}
use Rattle.md_match.specs.Does.{IsRow}
use Rattle.md_covers.proofs.Normal.{normal_row, is_row}
use Rattle.md_check.proofs.Rows.{earlier_one}
use Rattle.recogniser.specs.Searching.{IsSoundRow, IsFirstBinding, IsDoneFirstBy}

pub sound_row : (w : ℕ) (row : Row) (holes : List Hole) (moves : List Move) → IsSoundRow w row → holes ≡ row.holes → moves ≡ row.normal → length moves ≤ 6
    → IsRow holes moves
sound_row w row holes moves s h m six =
    subst (λ (hs : List Hole). IsRow hs moves) (sym h)
    (subst (λ (ms : List Move). IsRow row.holes ms) (sym m)
    (is_row row.holes row.normal s.few_holes (subst (λ (ms : List Move). length ms ≤ 6) m six)
    (normal_row row.holes w row.effects row.normal s.read.effects s.read.normal)))

pub short_by : (n : ℕ) → nat_le n 640 ≡ true → n ≤ 640
short_by n e = grind (arith, nat_tests)

pub found_by : (d : RawDescription) (general : ℕ) (idle : Move → Bool) (row : Row) (holes : List Hole) (moves goal es : List Move) (b c : List Bound)
    → general ≡ general_set d.registers → holes ≡ row.holes → moves ≡ row.normal → goal ≡ es → c ≡ b
    → longest_line d.registers row.holes row.text ≤ 640 → IsFirstBinding d.word general holes idle moves goal b → IsDoneFirstBy d idle es row c
found_by d general idle row holes moves goal es b c g h m e k short f = record {
  short = short;
  first = subst (λ (z : List Bound). IsFirstBinding d.word (general_set d.registers) row.holes idle row.normal es z) (sym k)
      (subst (λ (z : List Move). IsFirstBinding d.word (general_set d.registers) row.holes idle row.normal z b) e
      (subst (λ (z : List Move). IsFirstBinding d.word (general_set d.registers) row.holes idle z goal b) m
      (subst (λ (z : List Hole). IsFirstBinding d.word (general_set d.registers) z idle moves goal b) h
      (subst (λ (z : ℕ). IsFirstBinding d.word z holes idle moves goal b) g f))));
}

some_same : {A : Type 0} (x y : A) → Some x ≡ Some y → x ≡ y
some_same x y e = cc

pub one_more_row : (rows : List Row) (P : Row → Type 0) (n : ℕ) (row : Row) → slice_get rows n ≡ Some row → P row
    → ((k : ℕ) (r : Row) → k < n → slice_get rows k ≡ Some r → P r) → (k : ℕ) (r : Row) → k < n + 1 → slice_get rows k ≡ Some r → P r
one_more_row rows P n row has p before k r l is = elim (earlier_one k n l) [
  | inl m ↦ before k r m is
  | inr e ↦ subst P (some_same row r (sym has ∙ (sym (ap (slice_get rows) e) ∙ is))) p
]
