-- The least line at which the heading is bad.
use Rattle.std.proofs.Common.{◌≡◌, ℕ, ◌<◌, ◌≤◌, ◌⊎◌, inl, inr, length, refl, arith}
use Rattle.std.specs.declared.option.Option.TheVariants.{Some, None}
use Rattle.md_text.specs.Declarations.{Declared}
use Rattle.md_text.specs.Heading.{breaks_heading}
use Rattle.md_text.specs.Accepted.{HasBroken, HasBadHeading, elsewhere, unfinished}
use Rattle.md_text.specs.Numbered.{GoUp}
use Rattle.md_rules.specs.Least.{IsLeast}
use Rattle.md_rules.proofs.FirstBroken.{ordered_to}

by_cause : (d : Declared) (m : ℕ) → HasBadHeading d m → HasBroken breaks_heading d.all m ⊎ ((length d.all < 6) × (m ≡ d.last))
by_cause d m (elsewhere line b) = inl b
by_cause d m (unfinished short) = inr (short, refl)

pub least_elsewhere : (d : Declared) (l : ℕ) → GoUp 0 d.all d.last → IsLeast (HasBroken breaks_heading d.all) (Some l) → IsLeast (HasBadHeading d) (Some l)
least_elsewhere d l g least = (elsewhere l least.0, λ m h. by m (by_cause d m h))
  where
    by : (m : ℕ) → HasBroken breaks_heading d.all m ⊎ ((length d.all < 6) × (m ≡ d.last)) → l ≤ m
    by m (inl b) = least.1 m b
    by m (inr p) = let within = ordered_to 0 d.all d.last g least.0.before least.0.after (record { line = l; form = least.0.form }) least.0.split in omega (arith, within, p.1)

pub least_last : (d : Declared) → length d.all < 6 → IsLeast (HasBroken breaks_heading d.all) None → IsLeast (HasBadHeading d) (Some d.last)
least_last d short least = (unfinished short, λ m h. by m (by_cause d m h))
  where
    by : (m : ℕ) → HasBroken breaks_heading d.all m ⊎ ((length d.all < 6) × (m ≡ d.last)) → d.last ≤ m
    by m (inl b) = absurd (least m b)
    by m (inr p) = omega (arith, p.1)

pub least_none : (d : Declared) → 6 ≤ length d.all → IsLeast (HasBroken breaks_heading d.all) None → IsLeast (HasBadHeading d) None
least_none d long least = λ m h. by m (by_cause d m h)
  where
    by : (m : ℕ) → HasBroken breaks_heading d.all m ⊎ ((length d.all < 6) × (m ≡ d.last)) → ⊥
    by m (inl b) = least m b
    by m (inr p) = omega (arith, p.0, long)
