use Rattle.md_text.proofs.Numbering.{declared_numbered}
use Rattle.md_text.proofs.laws.declared_is_numbered.Goals as goal

pub returns : goal.returns
returns c = λ text d h. declared_numbered text d h
