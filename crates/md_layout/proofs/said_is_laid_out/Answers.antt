use Rattle.md_layout.proofs.Heading.{said_laid_out}
use Rattle.md_layout.proofs.said_is_laid_out.Goals as goal

pub returns : goal.returns
returns c = said_laid_out
