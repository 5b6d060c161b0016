-- What is answered of the text of a description.
use Rattle.std.specs.Prelude.{◌≡◌, ℕ, List}
use Rattle.vp_io.specs.declared.answers.Reason.{Reason}
use Rattle.md_fault.specs.declared.MdFault.{MdFault}
use Rattle.md_fault.specs.declared.MdFault.TheVariants.{NoMemory, Bad}
use Rattle.md_rows.specs.declared.description.RawDescription.{RawDescription}
use Rattle.md_check.specs.Accepted.{IsAcceptedText, IsRefusedText, normalised}
use Rattle.md_verdict.specs.declared.accepted.Accepted.{Accepted}
use Rattle.md_verdict.specs.declared.accepted.Accepted.TheVariants.{Word16, Word32}

abbrev pub description_in : Accepted → RawDescription
description_in (Word16 d) = d
description_in (Word32 d) = d

-- the text is accepted, and this is the description that it says, with the normal form of each row
pub record IsAcceptedAs (text : List ℕ) (accepted : Accepted) : Type 0 where
  pub said : RawDescription
  pub is_accepted : IsAcceptedText text said
  pub normal : description_in accepted ≡ normalised said

-- the text is refused for this reason, which is told at the first column of its line
pub record IsRefusedFor (text : List ℕ) (reason : Reason) : Type 0 where
  pub refused : IsRefusedText text reason.line reason.rule reason.detail
  pub column : reason.column ≡ 1

-- want of memory, or the reason for which the text is refused
abbrev pub IsFaultOf : List ℕ → MdFault → Type 0
IsFaultOf text NoMemory = Unit {0}
IsFaultOf text (Bad reason) = IsRefusedFor text reason
