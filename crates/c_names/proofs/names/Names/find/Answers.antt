use Rattle.std.proofs.Common.{ap, ◌∙◌}
use Rattle.c_names.specs.Known.{means_of}
use Rattle.c_names.proofs.Numbers.{meaning_is}
use Rattle.c_names.proofs.names.Names.find.Goals as goal

pub returns : goal.returns
returns c = c.meaning_of.ensures ∙ ap means_of c.known.ensures ∙ meaning_is c.args.self.now.entries.items c.args.name.now
