-- The rows that count.
use Rattle.std.proofs.Common.{◌≡◌, ℕ, zero, suc, ◌≤◌, List, [], ◌∷◌, take, refl, sym, ap, subst, arith}
use Rattle.std.specs.declared.option.Option.{Option}
use Rattle.std.specs.declared.option.Option.TheVariants.{Some, None}
use Rattle.std.specs.List.{slice_get}
use Rattle.md_text.specs.Declarations.{Declared}
use Rattle.md_text.specs.Expansion.{Expanded as Row, expansions}
use Rattle.md_text.specs.Accepted.{HasTooMany}
use Rattle.md_expand.specs.declared.expanded.Expanded.{Expanded}
use Rattle.md_expand.specs.Expanded.{AllExpanded}
use Rattle.md_rules.specs.Least.{IsLeast}
use Rattle.md_rules.specs.Broken.{BreaksBy}
use Rattle.md_row_rules.specs.declared.row_rules.RowRule.{RowRule}
use Rattle.md_row_rules.specs.declared.row_rules.RowRule.TheVariants.{BadTransfer, TooLarge}
use Rattle.md_row_rules.specs.RowRules.{HasBrokenAmong, rule_named}

all_take : (n : ℕ) (rs : List Row) (es : List Expanded) → AllExpanded rs es → AllExpanded (take n rs) (take n es)
all_take zero rs es a = tt
all_take (suc n) [] [] a = tt
all_take (suc n) [] (e ∷ es) a = absurd a
all_take (suc n) (r ∷ rs) [] a = absurd a
all_take (suc n) (r ∷ rs) (e ∷ es) a = (a.0, all_take n rs es a.1)

shorter : {A : Type 0} (m n : ℕ) (xs : List A) → m ≤ n → take m (take n xs) ≡ take m xs
shorter zero n xs l = refl
shorter (suc m) zero xs l = absurd (omega (arith, l))
shorter (suc m) (suc n) [] l = refl
shorter (suc m) (suc n) (x ∷ xs) l = ap (λ ys. x ∷ ys) (shorter m n xs (omega (arith, l)))

same_least : (P Q : ℕ → Type 0) (o : Option ℕ) → ((m : ℕ) → P m → Q m) → ((m : ℕ) → Q m → P m) → IsLeast P o → IsLeast Q o
same_least P Q None to from least = λ m q. least m (from m q)
same_least P Q (Some n) to from least = (to n least.0, λ m q. least.1 m (from m q))

named : (rule : RowRule) (d : Declared) (m : ℕ) → HasBrokenAmong rule (take 4096 (expansions d.width d.all)) m → BreaksBy (rule_named rule) d m
named BadTransfer d m h = record { row = h.row; counted = h.among; at = h.at; breaks = h.breaks }
named TooLarge d m h = record { row = h.row; counted = h.among; at = h.at; breaks = h.breaks }

named_back : (rule : RowRule) (d : Declared) (m : ℕ) → BreaksBy (rule_named rule) d m → HasBrokenAmong rule (take 4096 (expansions d.width d.all)) m
named_back BadTransfer d m h = record { row = h.row; among = h.counted; at = h.at; breaks = h.breaks }
named_back TooLarge d m h = record { row = h.row; among = h.counted; at = h.at; breaks = h.breaks }

pub least_counted :
    (rule : RowRule) (d : Declared) (es first : List Expanded) (o : Option ℕ) → AllExpanded (take 4097 (expansions d.width d.all)) es → first ≡ take 4096 es
    → ((rs : List Row) → AllExpanded rs first → IsLeast (HasBrokenAmong rule rs) o) → IsLeast (BreaksBy (rule_named rule) d) o
least_counted rule d es first o a e least =
    let rows = expansions d.width d.all in
    let those : AllExpanded (take 4096 (take 4097 rows)) first =
    subst (λ (xs : List Expanded). AllExpanded (take 4096 (take 4097 rows)) xs) (sym e) (all_take 4096 (take 4097 rows) es a) in
    let counted : AllExpanded (take 4096 rows) first = subst (λ (rs : List Row). AllExpanded rs first) (shorter 4096 4097 rows (omega arith)) those in
    same_least (HasBrokenAmong rule (take 4096 rows)) (BreaksBy (rule_named rule) d) o (named rule d) (named_back rule d) (least (take 4096 rows) counted)

ends : {A : Type 0} (n : ℕ) (xs : List A) → slice_get xs n ≡ None → take (suc n) xs ≡ xs
ends n [] e = refl
ends zero (x ∷ xs) e = absurd (cc)
ends (suc n) (x ∷ xs) e = ap (λ ys. x ∷ ys) (ends n xs e)

-- no more rows than there may be
pub all_rows : (d : Declared) (es : List Expanded) → ((line : ℕ) → HasTooMany d line → ⊥) → AllExpanded (take 4097 (expansions d.width d.all)) es → AllExpanded (expansions d.width d.all) es
all_rows d es never a = subst (λ (rs : List Row). AllExpanded rs es) (ends 4096 (expansions d.width d.all) (none (slice_get (expansions d.width d.all) 4096) refl)) a
  where
    none : (o : Option Row) → slice_get (expansions d.width d.all) 4096 ≡ o → slice_get (expansions d.width d.all) 4096 ≡ None
    none None e = e
    none (Some row) e = absurd (never row.line (record { row = row; next = e; at = refl }))
