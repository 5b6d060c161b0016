use Rattle.std.proofs.Common.{ℕ, false, ◌∙◌, ap}
use Rattle.c_typing.specs.declared.names.Around.{Around}
use Rattle.c_scopes.proofs.Leaving.{same_length}
use Rattle.c_scopes.proofs.around.in_block.Goals as goal

pub returns : goal.returns
returns c = ap (λ (n : ℕ). let a : Around = record { result = c.args.c.result; start = n; labels_stand = false; loops = c.args.c.loops; breaks = c.args.c.breaks } in a) (c.count-start.ensures ∙ same_length c.args.state.now.names.entries.items)
