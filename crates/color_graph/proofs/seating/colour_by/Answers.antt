use Rattle.temp_code.specs.Routines.{routine_of}
use Rattle.color_graph.proofs.Greedily.{greedy_seats}
use Rattle.color_graph.proofs.seating.colour_by.Goals as goal

pub returns-clause-coloring : goal.returns-clause-coloring
returns-clause-coloring c = λ t live.
    (greedy_seats c.greedy_is_sparing.ensures t (routine_of c.args.c.now) c.in_ok-graph.graph c.args.colours.now c.in_ok-seats.seats.items c.in_ok-graph.ensures.count
    c.requires.homes (c.in_ok-graph.ensures.conflicts t live c.requires.homes) c.in_ok-seats.ensures.greedy).0

pub returns-clause-sparing : goal.returns-clause-sparing
returns-clause-sparing c = λ t live.
    (greedy_seats c.greedy_is_sparing.ensures t (routine_of c.args.c.now) c.in_ok-graph.graph c.args.colours.now c.in_ok-seats.seats.items c.in_ok-graph.ensures.count
    c.requires.homes (c.in_ok-graph.ensures.conflicts t live c.requires.homes) c.in_ok-seats.ensures.greedy).1
