use Rattle.std.proofs.Common.{Bool, length, None, sym, ap, ◌∙◌}
use Rattle.std.specs.Prelude.{if◌then◌else◌}
use Rattle.color_code.specs.Greedy.{first_free}
use Rattle.color_graph.specs.Sharing.{conflicts_in}
use Rattle.color_graph.specs.Seats.{below, seats_in}
use Rattle.color_graph.proofs.seating.seat.Goals as goal

pub returns-else-lives_over_call : goal.returns-else-lives_over_call
returns-else-lives_over_call c =
    c.first_free.ensures (conflicts_in c.args.graph.now) c.args.colours.now (seats_in c.args.seats.now) (below (length c.args.seats.now)) (length c.args.seats.now)
    (c.held.ensures c.args.colours.now)
    ∙ sym (ap (λ (b : Bool). if b then None
    else first_free (conflicts_in c.args.graph.now) c.args.colours.now (seats_in c.args.seats.now) (below (length c.args.seats.now)) (length c.args.seats.now) c.args.colours.now)
    (sym (c.lives_over_call.ensures c.requires) ∙ c.if-lives_over_call.false))
