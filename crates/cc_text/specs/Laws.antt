-- What is promised of the definitions alone.
use Rattle.std.specs.Prelude.{ℕ, List}
use Rattle.vp_io.specs.declared.answers.Reason.{Reason}
use Rattle.md_rows.specs.declared.description.RawDescription.{RawDescription}
use Rattle.cc_text.specs.Sources.{IsAccepted, IsRefusedFor}

-- no source is both accepted and refused
abbrev pub NeverBoth : Type 0
NeverBoth = (d : RawDescription) (source : List ℕ) (reason : Reason) → IsAccepted d source → IsRefusedFor d source reason → ⊥
