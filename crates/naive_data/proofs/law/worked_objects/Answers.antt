use Rattle.naive_data.proofs.WorkedObjects.{worked_objects}
use Rattle.naive_data.proofs.law.worked_objects.Goals as goal

pub returns : goal.returns
returns c = worked_objects
