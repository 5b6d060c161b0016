use Rattle.std.proofs.Common.{ap, ◌∙◌}
use Rattle.c_names.specs.Known.{is_behind}
use Rattle.c_names.proofs.Numbers.{is_here}
use Rattle.c_names.proofs.names.Names.is_here.Goals as goal

pub returns : goal.returns
returns c = c.is_behind.ensures ∙ ap (is_behind c.args.start) c.known.ensures ∙ is_here c.args.start c.args.self.now.entries.items c.args.name.now c.args.self.now.agrees.1
