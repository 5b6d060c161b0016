use Rattle.naive_whole.proofs.Meeting.{ends_as_its_source}
use Rattle.naive_whole.proofs.examples.code_ends_as_its_source.Goals as goal

pub returns : goal.returns
returns c = ends_as_its_source
