use Rattle.temp_laws.proofs.Covered.{required_covered as law}
use Rattle.temp_laws.proofs.required_covered.Goals as goal

pub returns : goal.returns
returns c = law
