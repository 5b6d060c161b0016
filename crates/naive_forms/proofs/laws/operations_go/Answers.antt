use Rattle.naive_forms.proofs.FunctionsLead.{operations_go}
use Rattle.naive_forms.proofs.laws.operations_go.Goals as goal

pub returns : goal.returns
returns c = operations_go
