use Rattle.vpo_top.proofs.Requests.{check_names}
use Rattle.vpo_top.proofs.request.read_check.Goals as goal

pub returns-in_default : goal.returns-in_default
returns-in_default c = check_names c.args.desc.now c.if-not-names_file.ensures
