-- Where an accepted description's data and stack lie.
use Rattle.std.specs.Prelude.{◌≡◌, ◌+◌, ◌/◌, ◌%◌, ◌<◌, ℕ, List}
use Rattle.md_rows.specs.declared.description.RawDescription.{RawDescription}
use Rattle.md_text.specs.Accepted.{Says}

-- data begin at a multiple of a word, and they and the stack leave some memory
pub record IsLaidOut (d : RawDescription) : Type 0 where
  pub aligned : d.base % (d.word / 8) ≡ 0
  pub room : d.base + d.stack < d.memory

-- what an accepted text says is such
abbrev pub SaidIsLaidOut : Type 0
SaidIsLaidOut = (text : List ℕ) (d : RawDescription) → Says text d → IsLaidOut d
