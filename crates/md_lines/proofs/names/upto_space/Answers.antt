use Rattle.md_lines.proofs.NamesRead.{up_to_place, all_upto}
use Rattle.md_lines.proofs.names.upto_space.Goals as goal

pub returns-in-Some : goal.returns-in-Some
returns-in-Some c = up_to_place c.args.text.now c.in-Some.length c.in-Some.ensures

pub returns-in-None : goal.returns-in-None
returns-in-None c = all_upto c.args.text.now c.in-None.ensures
