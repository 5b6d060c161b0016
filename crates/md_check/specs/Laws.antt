-- Laws of accepted and refused texts.
use Rattle.std.specs.Prelude.{◌≡◌, ℕ, List}
use Rattle.md_rows.specs.declared.description.RawDescription.{RawDescription}
use Rattle.md_check.specs.Accepted.{IsAcceptedText, IsRefusedText}

-- what is told of a text
pub data TextOutcome : Type 0 where
  Accepted : RawDescription → TextOutcome
  Refused : ℕ → ℕ → ℕ → TextOutcome

abbrev pub HasOutcome : List ℕ → TextOutcome → Type 0
HasOutcome text (Accepted d) = IsAcceptedText text d
HasOutcome text (Refused line rule detail) = IsRefusedText text line rule detail

-- a text is not both accepted and refused; it says one description, or one rule is told, at one line, with one detail
abbrev pub AtMostOneOutcome : Type 0
AtMostOneOutcome = (text : List ℕ) (o p : TextOutcome) → HasOutcome text o → HasOutcome text p → o ≡ p
