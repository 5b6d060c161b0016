-- The least of what was seen and what is new.
use Rattle.std.proofs.Common.{◌≡◌, ◌⊎◌, ℕ, ◌+◌, ◌<◌, ◌≤◌, Bool, true, false, nat_lt, List, slice_get, get_or, length, Option, Some, None, inl, inr, refl, sym, subst, ap, arith, ◌∙◌}
use Rattle.std.proofs.lemmas.Bool.Decides.{nat_tests}
use Rattle.std.proofs.lemmas.Option.{slice_get_read}
use Rattle.md_rows.specs.declared.description.RawDescription.{RawDescription}
use Rattle.md_rows.specs.declared.row.Row.{Row}
use Rattle.md_overlap.specs.declared.told.Overlapping.{Overlapping}
use Rattle.md_overlap.specs.Overlap.{Overlap, OverlapsBefore, HasOverlapBefore}
use Rattle.md_overlap.specs.Least.{IsLeast, IsLeastPair, NoLater}

no_some : {A : Type 0} (x : A) → None ≡ Some x → ⊥
no_some x e = cc

-- the one that is told, of what was seen and what is new, is the least of all
least_of_both : (P Q R : ℕ → Type 0) (best result : Option ℕ) → IsLeast P best → IsLeast (λ l. (best ≡ Some l) ⊎ Q l) result
    → ((l : ℕ) → R l → P l ⊎ Q l) → ((l : ℕ) → P l → R l) → ((l : ℕ) → Q l → R l) → IsLeast R result
least_of_both P Q R None None p q f g h = λ n r. elim (f n r) [ inl x ↦ p n x | inr y ↦ q n (inr y) ]
least_of_both P Q R None (Some m) p q f g h = (
  elim q.0 [ inl e ↦ absurd (no_some m e) | inr y ↦ h m y ],
  λ n r. elim (f n r) [ inl x ↦ absurd (p n x) | inr y ↦ q.1 n (inr y) ],
)
least_of_both P Q R (Some b) None p q f g h = absurd (q b (inl refl))
least_of_both P Q R (Some b) (Some m) p q f g h =
    let below : m ≤ b = q.1 b (inl refl) in (
      elim q.0 [ inl e ↦ (let same : b ≡ m = cc in g m (subst P same p.0)) | inr y ↦ h m y ],
      λ n r. elim (f n r) [ inl x ↦ (let k : b ≤ n = p.1 n x in omega arith) | inr y ↦ q.1 n (inr y) ],
    )

earlier_by : (n i : ℕ) (b : Bool) → nat_lt n i ≡ b → n < i + 1 → (n < i) ⊎ (n ≡ i)
earlier_by n i true e h = inl (grind (arith, nat_tests))
earlier_by n i false e h = inr (grind (arith, nat_tests))

earlier_one : (n i : ℕ) → n < i + 1 → (n < i) ⊎ (n ≡ i)
earlier_one n i h = earlier_by n i (nat_lt n i) refl h

some_same : {A : Type 0} (x y : A) → Some x ≡ Some y → x ≡ y
some_same x y e = cc

pub before_next : (d : RawDescription) (r : Row) (i : ℕ) (other : Row) (best result : Option ℕ) → slice_get d.rows i ≡ Some other
    → IsLeast (OverlapsBefore d r i) best → IsLeast (λ l. (best ≡ Some l) ⊎ (Overlap d r other × (other.line ≡ l))) result
    → IsLeast (OverlapsBefore d r (i + 1)) result
before_next d r i other best result e p q =
    least_of_both (OverlapsBefore d r i) (λ l. Overlap d r other × (other.line ≡ l)) (OverlapsBefore d r (i + 1)) best result p q
    (λ l x. elim (earlier_one x.at i x.before) [
      | inl k ↦ inl (record { at = x.at; before = k; other = x.other; has = x.has; overlap = x.overlap; line_is = x.line_is })
      | inr k ↦ (let same : x.other ≡ other = some_same x.other other (sym x.has ∙ (ap (λ (n : ℕ). slice_get d.rows n) k ∙ e)) in
          inr (subst (λ (z : Row). Overlap d r z) same x.overlap, ap (λ (z : Row). z.line) (sym same) ∙ x.line_is))
    ])
    (λ l x. record { at = x.at; before = (let k = x.before in omega arith); other = x.other; has = x.has; overlap = x.overlap; line_is = x.line_is })
    (λ l x. record { at = i; before = omega arith; other = other; has = e; overlap = x.0; line_is = x.1 })

-- pairs

later_still : (a b c d e f : ℕ) → NoLater a b c d → NoLater c d e f → NoLater a b e f
later_still a b c d e f h k = elim h [
  | inl x ↦ elim k [ inl y ↦ inl (omega arith) | inr y ↦ inl (let z = y.0 in omega arith) ]
  | inr x ↦ elim k [
    | inl y ↦ inl (let z = x.0 in omega arith)
    | inr y ↦ (let z = x.0 in let u = y.0 in let v = x.1 in let w = y.1 in inr (omega arith, omega arith))
  ]
]

abbrev pair_of : ℕ → ℕ → Overlapping
pair_of l e = record { line = l; earlier = e }

-- a pair that Q has with the first number, and a second one that is no greater
record HasLesser (Q : ℕ → ℕ → Type 0) (l e : ℕ) : Type 0 where
  earlier : ℕ
  is : Q l earlier
  lesser : earlier ≤ e

no_later : (o : Overlapping) (Q : ℕ → ℕ → Type 0) (l e : ℕ) → ((m f : ℕ) → Q m f → NoLater o.line o.earlier m f) → HasLesser Q l e
    → NoLater o.line o.earlier l e
no_later o Q l e h x = later_still o.line o.earlier l x.earlier l e (h l x.earlier x.is) (inr (refl, x.lesser))

least_pair_of_both : (P Q R : ℕ → ℕ → Type 0) (best result : Option Overlapping) → IsLeastPair P best
    → IsLeastPair (λ l e. (best ≡ Some (pair_of l e)) ⊎ Q l e) result
    → ((l e : ℕ) → R l e → P l e ⊎ HasLesser Q l e) → ((l e : ℕ) → P l e → R l e) → ((l e : ℕ) → Q l e → R l e) → IsLeastPair R result
least_pair_of_both P Q R None None p q f g h = λ n e r. elim (f n e r) [ inl x ↦ p n e x | inr y ↦ q n y.earlier (inr y.is) ]
least_pair_of_both P Q R None (Some m) p q f g h = (
  elim q.0 [ inl e ↦ absurd (no_some (pair_of m.line m.earlier) e) | inr y ↦ h m.line m.earlier y ],
  λ n e r. elim (f n e r) [ inl x ↦ absurd (p n e x) | inr y ↦ no_later m Q n e (λ l d z. q.1 l d (inr z)) y ],
)
least_pair_of_both P Q R (Some b) None p q f g h = absurd (q b.line b.earlier (inl refl))
least_pair_of_both P Q R (Some b) (Some m) p q f g h =
    let below : NoLater m.line m.earlier b.line b.earlier = q.1 b.line b.earlier (inl refl) in (
      elim q.0 [
        | inl e ↦ (let same : b ≡ pair_of m.line m.earlier = some_same b (pair_of m.line m.earlier) e in
            g m.line m.earlier (subst (λ (z : Overlapping). P z.line z.earlier) same p.0))
        | inr y ↦ h m.line m.earlier y
      ],
      λ n e r. elim (f n e r) [
        | inl x ↦ later_still m.line m.earlier b.line b.earlier n e below (p.1 n e x)
        | inr y ↦ no_later m Q n e (λ l d z. q.1 l d (inr z)) y
      ],
    )

lesser_by : (d : RawDescription) (row : Row) (i l e : ℕ) (earlier : Option ℕ) → IsLeast (OverlapsBefore d row i) earlier → row.line ≡ l
    → OverlapsBefore d row i e → HasLesser (λ m f. (row.line ≡ m) × (earlier ≡ Some f)) l e
lesser_by d row i l e None q k x = absurd (q e x)
lesser_by d row i l e (Some f) q k x = record { earlier = f; is = (k, refl); lesser = q.1 e x }

found_by : (d : RawDescription) (row : Row) (i e : ℕ) (earlier : Option ℕ) → IsLeast (OverlapsBefore d row i) earlier → earlier ≡ Some e
    → OverlapsBefore d row i e
found_by d row i e None q k = absurd (no_some e k)
found_by d row i e (Some f) q k = subst (OverlapsBefore d row i) (some_same f e k) q.0

pub overlap_next : (d : RawDescription) (i : ℕ) (row : Row) (earlier : Option ℕ) (best result : Option Overlapping) → slice_get d.rows i ≡ Some row
    → IsLeastPair (HasOverlapBefore d i) best → IsLeast (OverlapsBefore d row i) earlier
    → IsLeastPair (λ l e. (best ≡ Some (pair_of l e)) ⊎ ((row.line ≡ l) × (earlier ≡ Some e))) result
    → IsLeastPair (HasOverlapBefore d (i + 1)) result
overlap_next d i row earlier best result is p q s =
    least_pair_of_both (HasOverlapBefore d i) (λ l e. (row.line ≡ l) × (earlier ≡ Some e)) (HasOverlapBefore d (i + 1)) best result p s
    (λ l e x. elim (earlier_one x.at i x.before) [
      | inl k ↦ inl (record { at = x.at; before = k; row = x.row; has = x.has; overlap = x.overlap; line_is = x.line_is })
      | inr k ↦ (let same : x.row ≡ row = some_same x.row row (sym x.has ∙ (ap (λ (n : ℕ). slice_get d.rows n) k ∙ is)) in
          inr (lesser_by d row i l e earlier q (ap (λ (z : Row). z.line) (sym same) ∙ x.line_is)
          (subst (λ (n : ℕ). OverlapsBefore d row n e) k (subst (λ (z : Row). OverlapsBefore d z x.at e) same x.overlap))))
    ])
    (λ l e x. record { at = x.at; before = (let k = x.before in omega arith); row = x.row; has = x.has; overlap = x.overlap; line_is = x.line_is })
    (λ l e x. record { at = i; before = omega arith; row = row; has = is; overlap = found_by d row i e earlier q x.1; line_is = x.0 })

-- nothing stands before the first

pub row_at : (d : RawDescription) (i : ℕ) (rows : List Row) (row : Row) → rows ≡ d.rows → i < length rows → row ≡ get_or rows i row
    → slice_get d.rows i ≡ Some row
row_at d i rows row e h r = subst (λ (z : List Row). slice_get z i ≡ Some row) e (slice_get_read rows (length rows) i row refl h r)

pub at_row : (d : RawDescription) (i : ℕ) (row other : Row) (best : Option ℕ) → slice_get d.rows i ≡ Some row → slice_get d.rows i ≡ Some other
    → IsLeast (OverlapsBefore d row i) best → IsLeast (OverlapsBefore d other i) best
at_row d i row other best e k h = subst (λ (z : Row). IsLeast (OverlapsBefore d z i) best) (some_same row other (sym e ∙ k)) h
