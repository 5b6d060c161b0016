use Rattle.std.proofs.Common.{◌≡◌, ℕ, List, Option, length, sym, subst, arith}
use Rattle.color_code.specs.Greedy.{seat_for}
use Rattle.color_graph.specs.Sharing.{conflicts_in}
use Rattle.color_graph.specs.Seats.{below, seats_in}
use Rattle.color_graph.proofs.Greedily.{SeatsTo, seats_next, seats_done}
use Rattle.color_graph.proofs.seating.all_seats.Goals as goal

pub loop-seats-preserved : goal.loop-seats-preserved
loop-seats-preserved c =
    subst (SeatsTo c.args.graph.now c.args.colours.now) (sym c.in_ok-push.ensures.items)
    (seats_next c.args.graph.now c.args.colours.now c.loop-seats.seats.items c.seat.result (let l = c.loop-seats-test.true in let e = c.len.ensures in let n = c.len-count.ensures in omega (arith, l, e, n))
    (subst (λ (xs : List (Option ℕ)). c.seat.result ≡ seat_for (conflicts_in c.args.graph.now) c.args.colours.now (seats_in xs) (below (length xs)) (length xs)) c.as_slice.ensures.value c.seat.ensures)
    c.loop-seats.invariant)

pub returns-clause-greedy : goal.returns-clause-greedy
returns-clause-greedy c =
    (seats_done c.args.graph.now c.args.colours.now c.loop-seats.seats.items (let l = c.loop-seats-test.false in let e = c.len.ensures in let n = c.len-count.ensures in omega (arith, l, e, n))
    c.loop-seats.invariant).1
