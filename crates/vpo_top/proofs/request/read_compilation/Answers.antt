use Rattle.vpo_top.proofs.Requests.{compilation_names}
use Rattle.vpo_top.proofs.request.read_compilation.Goals as goal

pub returns-in_default : goal.returns-in_default
returns-in_default c = compilation_names c.args.plain c.args.command.now c.args.desc.now c.args.src.now c.if-not-asks_for_compilation.ensures

pub returns-in_default-to_string : goal.returns-in_default-to_string
returns-in_default-to_string c = compilation_names c.args.plain c.args.command.now c.args.desc.now c.args.src.now c.if-not-asks_for_compilation.ensures
