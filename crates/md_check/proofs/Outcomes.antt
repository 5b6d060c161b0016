-- A text has at most one outcome.
use Rattle.std.proofs.Common.{◌≡◌, ◌⊎◌, ℕ, ◌<◌, ◌≤◌, Bool, true, false, nat_lt, List, inl, inr, refl, sym, subst, ap, arith, ◌∙◌}
use Rattle.std.proofs.lemmas.Bool.Decides.{nat_tests}
use Rattle.md_rows.specs.declared.description.RawDescription.{RawDescription}
use Rattle.md_text.specs.Accepted.{Says, Rule as TextRule, number_of as text_rule_number, Told as TextTold}
use Rattle.md_text.specs.Laws.{AtMostOneTold, AtMostOneDescription}
use Rattle.md_check.specs.Accepted.{Rule, Overlapping, FewRegisters, MissingShape, number_of, Breaks, Told, IsAcceptedText, IsRefusedText, by_text, by_whole}
use Rattle.md_check.specs.Laws.{Accepted, Refused, AtMostOneOutcome}

least_same : (a b : ℕ) → a ≤ b → b ≤ a → a ≡ b
least_same a b h k = omega arith

-- of two rules one has the lesser number, or they are one
compared_by : (m n : ℕ) (b c : Bool) → nat_lt m n ≡ b → nat_lt n m ≡ c → (m < n) ⊎ ((n < m) ⊎ (m ≡ n))
compared_by m n true c h k = inl (grind (arith, nat_tests))
compared_by m n false true h k = inr (inl (grind (arith, nat_tests)))
compared_by m n false false h k = inr (inr (grind (arith, nat_tests)))

same_rule : (r s : Rule) → number_of r ≡ number_of s → r ≡ s
same_rule Overlapping Overlapping e = refl
same_rule FewRegisters FewRegisters e = refl
same_rule MissingShape MissingShape e = refl
same_rule Overlapping FewRegisters e = absurd (let q : 15 ≡ 16 = e in omega arith)
same_rule Overlapping MissingShape e = absurd (let q : 15 ≡ 17 = e in omega arith)
same_rule FewRegisters Overlapping e = absurd (let q : 16 ≡ 15 = e in omega arith)
same_rule FewRegisters MissingShape e = absurd (let q : 16 ≡ 17 = e in omega arith)
same_rule MissingShape Overlapping e = absurd (let q : 17 ≡ 15 = e in omega arith)
same_rule MissingShape FewRegisters e = absurd (let q : 17 ≡ 16 = e in omega arith)

told_rule : (d : RawDescription) (r s : Rule) (l m e f : ℕ) → Told d r l e → Told d s m f → r ≡ s
told_rule d r s l m e f x y = elim (compared_by (number_of r) (number_of s) (nat_lt (number_of r) (number_of s)) (nat_lt (number_of s) (number_of r)) refl refl) [
  | inl h ↦ absurd (y.least_rule r l e h x.broken)
  | inr k ↦ elim k [
    | inl h ↦ absurd (x.least_rule s m f h y.broken)
    | inr h ↦ same_rule r s h
  ]
]

told_line : (d : RawDescription) (r : Rule) (l m e f : ℕ) → Told d r l e → Told d r m f → l ≡ m
told_line d r l m e f x y = least_same l m (x.least_line m f y.broken) (y.least_line l e x.broken)

told_detail : (d : RawDescription) (r : Rule) (l e f : ℕ) → Told d r l e → Told d r l f → e ≡ f
told_detail d r l e f x y = least_same e f (x.least_detail f y.broken) (y.least_detail e x.broken)

told_same : (d : RawDescription) (r s : Rule) (l m e f : ℕ) → Told d r l e → Told d s m f → Refused l (number_of r) e ≡ Refused m (number_of s) f
told_same d r s l m e f x y =
    let p = told_rule d r s l m e f x y in
    let z = subst (λ (t : Rule). Told d t m f) (sym p) y in
    let q = told_line d r l m e f x z in
    let u = subst (λ (n : ℕ). Told d r n f) (sym q) z in
    let t = told_detail d r l e f x u in
    ap (λ (n : ℕ). Refused n (number_of r) e) q ∙ (ap (λ (t : Rule). Refused m (number_of t) e) p ∙ ap (λ (n : ℕ). Refused m (number_of s) n) t)

text_told_not_said : (text : List ℕ) (d : RawDescription) (r : TextRule) (l : ℕ) → TextTold text r l → Says text d → ⊥
text_told_not_said text d r l t s = s.accepted r l t.broken

refused_same : AtMostOneTold → AtMostOneDescription → (text : List ℕ) (l r e m s f : ℕ) → IsRefusedText text l r e → IsRefusedText text m s f
    → Refused l r e ≡ Refused m s f
refused_same told described text l r e m s f (by_text a _ x) (by_text b _ y) =
    let p = told text a b l m x y in
    ap (λ (n : ℕ). Refused n (text_rule_number a) 0) p.1 ∙ ap (λ (t : TextRule). Refused m (text_rule_number t) 0) p.0
refused_same told described text l r e m s f (by_text a _ x) (by_whole d b _ _ y z) = absurd (text_told_not_said text d a l x y)
refused_same told described text l r e m s f (by_whole d a _ _ y z) (by_text b _ x) = absurd (text_told_not_said text d b m x y)
refused_same told described text l r e m s f (by_whole d a _ _ x y) (by_whole c b _ _ u v) =
    told_same d a b l m e f y (subst (λ (z : RawDescription). Told z b m f) (described text c d u x) v)

not_both : AtMostOneDescription → (text : List ℕ) (d : RawDescription) (l r e : ℕ) → IsAcceptedText text d → IsRefusedText text l r e → ⊥
not_both described text d l r e a (by_text b _ x) = text_told_not_said text d b l x a.says
not_both described text d l r e a (by_whole c b _ _ x y) =
    a.whole b l e (subst (λ (z : RawDescription). Breaks b z l e) (described text c d x a.says) y.broken)

pub one_outcome : AtMostOneTold → AtMostOneDescription → AtMostOneOutcome
one_outcome told described text (Accepted d) (Accepted c) x y = ap Accepted (described text d c x.says y.says)
one_outcome told described text (Accepted d) (Refused l r e) x y = absurd (not_both described text d l r e x y)
one_outcome told described text (Refused l r e) (Accepted d) x y = absurd (not_both described text d l r e y x)
one_outcome told described text (Refused l r e) (Refused m s f) x y = refused_same told described text l r e m s f x y
