use Rattle.naive_code.proofs.WorkedCode.{operations}
use Rattle.naive_code.proofs.worked.operations.Goals as goal

pub returns : goal.returns
returns c = operations
