use Rattle.vpo_top.proofs.Requests.{not_shown}
use Rattle.vpo_top.proofs.request.read_show.Goals as goal

pub returns-in-None : goal.returns-in-None
returns-in-None c = not_shown _ c.in-None.ensures
