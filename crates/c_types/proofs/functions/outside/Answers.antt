use Rattle.std.proofs.Common.{◌∙◌}
use Rattle.c_scopes.proofs.Leaving.{same_length}
use Rattle.c_types.proofs.functions.outside.Goals as goal

pub returns : goal.returns
returns c = c.count.ensures ∙ same_length c.args.names.now.entries.items
