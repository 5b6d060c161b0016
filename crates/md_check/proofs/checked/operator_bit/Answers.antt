use Rattle.std.proofs.Common.{ℕ, ◌≡◌, refl, sym, subst, ◌∙◌}
use Rattle.md_check.specs.Checking.{HasBit}
use Rattle.md_check.proofs.Sets.{pow_bit, has_pow}
use Rattle.md_check.proofs.checked.operator_bit.Goals as goal

pub returns-then-is_plainly_covered : goal.returns-then-is_plainly_covered
returns-then-is_plainly_covered g c =
    subst (λ (n : ℕ). HasBit c.args.d.now n c.args.place) (sym c.bit.ensures)
    (λ k. (λ h. (pow_bit c.args.place k h, c.is_plainly_covered.ensures.0 c.if-is_plainly_covered.true), λ x. has_pow c.args.place k x.0))
