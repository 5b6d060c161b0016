-- The rows of an accepted description have literal tokens of their own.
use Rattle.std.proofs.Common.{ℕ, ◌<◌, length, All, sym, subst}
use Rattle.md_rows.specs.declared.description.RawDescription.{RawDescription}
use Rattle.md_check.specs.Accepted.{normalised, normalised_row}
use Rattle.md_check.specs.Checking.{IsChecked}
use Rattle.md_said.proofs.Whole.{mapped_at}
use Rattle.md_literals.specs.Literals.{IsLiteralPiece, HasLiterals, SaidHasLiterals}

normal_literals : (d : RawDescription) → HasLiterals d → HasLiterals (normalised d)
normal_literals d h = record {
  registers = h.registers;
  some = mapped_at (normalised_row d.word) (λ r. 0 < length r.text) d.rows h.some;
  pieces = mapped_at (normalised_row d.word) (λ r. All IsLiteralPiece r.text) d.rows h.pieces;
}

pub checked_literals : (w : ℕ) (d : RawDescription) → SaidHasLiterals → IsChecked w d → HasLiterals d
checked_literals w d literals c = subst HasLiterals (sym c.normal) (normal_literals c.said (literals c.text c.said c.accepted.says))
