-- The rules of rows without modes.
use Rattle.std.specs.Prelude.{◌≡◌, ℕ, IsTrue, min, List, Contains, Option, Some, None}
use Rattle.md_text.specs.Expansion.{Expanded}
use Rattle.md_text.specs.Rules.{HasGoodTransfer, is_too_large}
use Rattle.md_text.specs.Accepted as text
use Rattle.md_row_rules.specs.declared.row_rules.RowRule.{RowRule}
use Rattle.md_row_rules.specs.declared.row_rules.RowRule.TheVariants.{BadTransfer, TooLarge}

abbrev pub IsBroken : RowRule → Expanded → Type 0
IsBroken BadTransfer row = HasGoodTransfer row → ⊥
IsBroken TooLarge row = IsTrue (is_too_large row)

-- one of the rows, which came from this line, breaks the rule
pub record HasBrokenAmong (rule : RowRule) (rows : List Expanded) (line : ℕ) : Type 0 where
  pub row : Expanded
  pub among : Contains rows row
  pub at : row.line ≡ line
  pub breaks : IsBroken rule row

-- the rule as one of texts
abbrev pub rule_named : RowRule → text.Rule
rule_named BadTransfer = text.BadTransfer
rule_named TooLarge = text.TooLarge

abbrev pub sooner : Option ℕ → ℕ → ℕ
sooner None line = line
sooner (Some least) line = min least line
