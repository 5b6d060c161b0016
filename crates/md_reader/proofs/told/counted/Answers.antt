use Rattle.std.proofs.lemmas.List.{take_min}
use Rattle.md_reader.proofs.told.counted.Goals as goal

pub returns : goal.returns
returns c = rw (c.min.ensures, take_min)
