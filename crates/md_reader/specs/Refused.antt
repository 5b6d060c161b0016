-- The reason for which a text is refused.
use Rattle.std.specs.Prelude.{◌≡◌, ℕ, List}
use Rattle.vp_io.specs.declared.answers.Reason.{Reason}
use Rattle.md_text.specs.Accepted.{Rule, number_of, Told}

-- the text breaks a rule, which is told by its number, at the line's first column, without a detail
pub record IsRefused (text : List ℕ) (reason : Reason) : Type 0 where
  pub rule : Rule
  pub told : Told text rule reason.line
  pub number : reason.rule ≡ number_of rule
  pub column : reason.column ≡ 1
  pub detail : reason.detail ≡ 0
