use Rattle.md_text.proofs.TextPieces.{pieces_once}
use Rattle.md_text.proofs.laws.at_most_one_text.Goals as goal

pub returns : goal.returns
returns c = λ bytes pieces others p q. pieces_once bytes pieces others p.spells q.spells
