use Rattle.std.proofs.Common.{refl}
use Rattle.md_match.specs.Tasks.{search_of}
use Rattle.md_match.proofs.Exact.{exact}
use Rattle.md_match.proofs.search.first_match.Goals as goal

pub returns-clause-does : goal.returns-clause-does
returns-clause-does c =
    let t = c.args.t.now in
    exact t.bits t.general t.holes.now (search_of t) t.goal.now c.assign.result refl refl c.requires.row c.assign.ensures
