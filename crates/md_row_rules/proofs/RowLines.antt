-- The least line among rows that break a rule.
use Rattle.std.proofs.Common.{◌≡◌, ℕ, zero, suc, ◌+◌, ◌<◌, ◌≤◌, ◌⊎◌, inl, inr, min, List, [], ◌∷◌, ◌++◌, take, length, get_or, refl, sym, ap, ◌∙◌, subst, arith}
use Rattle.std.specs.Prelude.{Contains}
use Rattle.std.specs.declared.option.Option.{Option}
use Rattle.std.specs.declared.option.Option.TheVariants.{Some, None}
use Rattle.std.proofs.lemmas.List.Elements.{Contains-append_left, Contains-append_right, Contains-append_cases}
use Rattle.md_text.specs.Expansion.{Expanded as Row}
use Rattle.md_expand.specs.declared.expanded.Expanded.{Expanded}
use Rattle.md_expand.specs.Expanded.{IsExpanded, AllExpanded}
use Rattle.md_rules.specs.Least.{IsLeast}
use Rattle.md_row_rules.specs.declared.row_rules.RowRule.{RowRule}
use Rattle.md_row_rules.specs.RowRules.{IsBroken, HasBrokenAmong, sooner}

-- the row that comes next, with the row of the program that stands for it
record Next (rs : List Row) (i : ℕ) (e : Expanded) : Type 0 where
  pub row : Row
  pub split : take (suc i) rs ≡ take i rs ++ row ∷ []
  pub expanded : IsExpanded row e

next_row : (rs : List Row) (es : List Expanded) (i : ℕ) (e : Expanded) → i < length es → e ≡ get_or es i e → AllExpanded rs es → Next rs i e
next_row [] [] i e lt at a = absurd (omega (arith, lt))
next_row [] (x ∷ es) i e lt at a = absurd a
next_row (r ∷ rs) [] i e lt at a = absurd a
next_row (r ∷ rs) (x ∷ es) zero e lt at a = record { row = r; split = refl; expanded = subst (IsExpanded r) (sym at) a.0 }
next_row (r ∷ rs) (x ∷ es) (suc i) e lt at a =
    let n = next_row rs es i e (omega (arith, lt)) at a.1 in
    record { row = n.row; split = ap (λ ys. r ∷ ys) n.split; expanded = n.expanded }

pub all_taken : (rs : List Row) (es : List Expanded) (i : ℕ) → length es ≤ i → AllExpanded rs es → take i rs ≡ rs
all_taken [] [] zero l a = refl
all_taken [] [] (suc i) l a = refl
all_taken [] (x ∷ es) i l a = absurd a
all_taken (r ∷ rs) [] i l a = absurd a
all_taken (r ∷ rs) (x ∷ es) zero l a = absurd (omega (arith, l))
all_taken (r ∷ rs) (x ∷ es) (suc i) l a = ap (λ ys. r ∷ ys) (all_taken rs es i (omega (arith, l)) a.1)

alone : (r s : Row) → Contains (r ∷ []) s → r ≡ s
alone r s (zero, lt, e) = e
alone r s (suc k, lt, e) = absurd (omega (arith, lt))

wider : (rule : RowRule) (xs : List Row) (r : Row) (line : ℕ) → HasBrokenAmong rule xs line → HasBrokenAmong rule (xs ++ r ∷ []) line
wider rule xs r line h = record { row = h.row; among = Contains-append_left xs (r ∷ []) h.row h.among; at = h.at; breaks = h.breaks }

last : (rule : RowRule) (xs : List Row) (r : Row) (line : ℕ) → line ≡ r.line → IsBroken rule r → HasBrokenAmong rule (xs ++ r ∷ []) line
last rule xs r line e b = record { row = r; among = Contains-append_right xs (r ∷ []) r (0, omega arith, refl); at = sym e; breaks = b }

-- a broken row is one of the first or the last
split_broken : (rule : RowRule) (xs : List Row) (r : Row) (line : ℕ) → HasBrokenAmong rule (xs ++ r ∷ []) line → HasBrokenAmong rule xs line ⊎ ((line ≡ r.line) × IsBroken rule r)
split_broken rule xs r line h = by (Contains-append_cases xs (r ∷ []) h.row h.among)
  where
    by : Contains xs h.row ⊎ Contains (r ∷ []) h.row → HasBrokenAmong rule xs line ⊎ ((line ≡ r.line) × IsBroken rule r)
    by (inl c) = inl (record { row = h.row; among = c; at = h.at; breaks = h.breaks })
    by (inr c) =
        let same : r ≡ h.row = alone r h.row c in
        inr (sym h.at ∙ ap (λ x. x.line) (sym same), subst (IsBroken rule) (sym same) h.breaks)

min_of : (m n : ℕ) → (min m n ≡ m) ⊎ (min m n ≡ n)
min_of m n = grind arith

pub least_with :
    (rule : RowRule) (xs : List Row) (r : Row) (line : ℕ) (least : Option ℕ) → line ≡ r.line → IsBroken rule r → IsLeast (HasBrokenAmong rule xs) least
    → IsLeast (HasBrokenAmong rule (xs ++ r ∷ [])) (Some (sooner least line))
least_with rule xs r line None e b never = (last rule xs r line e b, λ m h. by m (split_broken rule xs r m h))
  where
    by : (m : ℕ) → HasBrokenAmong rule xs m ⊎ ((m ≡ r.line) × IsBroken rule r) → line ≤ m
    by m (inl h) = absurd (never m h)
    by m (inr h) = omega (arith, h.0, e)
least_with rule xs r line (Some n) e b least = (there (min_of n line), λ m h. by m (split_broken rule xs r m h))
  where
    there : (min n line ≡ n) ⊎ (min n line ≡ line) → HasBrokenAmong rule (xs ++ r ∷ []) (min n line)
    there (inl same) = subst (HasBrokenAmong rule (xs ++ r ∷ [])) (sym same) (wider rule xs r n least.0)
    there (inr same) = subst (HasBrokenAmong rule (xs ++ r ∷ [])) (sym same) (last rule xs r line e b)

    by : (m : ℕ) → HasBrokenAmong rule xs m ⊎ ((m ≡ r.line) × IsBroken rule r) → min n line ≤ m
    by m (inl h) = let at_most : n ≤ m = least.1 m h in omega (arith, at_most)
    by m (inr h) = omega (arith, h.0, e)

least_without :
    (rule : RowRule) (xs : List Row) (r : Row) (least : Option ℕ) → (IsBroken rule r → ⊥) → IsLeast (HasBrokenAmong rule xs) least
    → IsLeast (HasBrokenAmong rule (xs ++ r ∷ [])) least
least_without rule xs r None whole never = λ m h. by m (split_broken rule xs r m h)
  where
    by : (m : ℕ) → HasBrokenAmong rule xs m ⊎ ((m ≡ r.line) × IsBroken rule r) → ⊥
    by m (inl h) = never m h
    by m (inr h) = whole h.1
least_without rule xs r (Some n) whole least = (wider rule xs r n least.0, λ m h. by m (split_broken rule xs r m h))
  where
    by : (m : ℕ) → HasBrokenAmong rule xs m ⊎ ((m ≡ r.line) × IsBroken rule r) → n ≤ m
    by m (inl h) = least.1 m h
    by m (inr h) = absurd (whole h.1)

pub one_broken_more :
    (rule : RowRule) (rs : List Row) (es : List Expanded) (i : ℕ) (e : Expanded) (least : Option ℕ) → i < length es → e ≡ get_or es i e → AllExpanded rs es
    → ((r : Row) → IsExpanded r e → IsBroken rule r) → IsLeast (HasBrokenAmong rule (take i rs)) least
    → IsLeast (HasBrokenAmong rule (take (i + 1) rs)) (Some (sooner least e.line))
one_broken_more rule rs es i e least lt at a broken before =
    let n = next_row rs es i e lt at a in
    let more : take (i + 1) rs ≡ take i rs ++ n.row ∷ [] = let next : i + 1 ≡ suc i = omega arith in ap (λ k. take k rs) next ∙ n.split in
    subst (λ xs. IsLeast (HasBrokenAmong rule xs) (Some (sooner least e.line))) (sym more)
    (least_with rule (take i rs) n.row e.line least n.expanded.line (broken n.row n.expanded) before)

pub one_whole_more :
    (rule : RowRule) (rs : List Row) (es : List Expanded) (i : ℕ) (e : Expanded) (least : Option ℕ) → i < length es → e ≡ get_or es i e → AllExpanded rs es
    → ((r : Row) → IsExpanded r e → IsBroken rule r → ⊥) → IsLeast (HasBrokenAmong rule (take i rs)) least
    → IsLeast (HasBrokenAmong rule (take (i + 1) rs)) least
one_whole_more rule rs es i e least lt at a whole before =
    let n = next_row rs es i e lt at a in
    let more : take (i + 1) rs ≡ take i rs ++ n.row ∷ [] = let next : i + 1 ≡ suc i = omega arith in ap (λ k. take k rs) next ∙ n.split in
    subst (λ xs. IsLeast (HasBrokenAmong rule xs) least) (sym more) (least_without rule (take i rs) n.row least (whole n.row n.expanded) before)
