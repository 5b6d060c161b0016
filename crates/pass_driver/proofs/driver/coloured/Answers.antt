use Rattle.md_check.proofs.Rows.{ok_by}
use Rattle.color_graph.specs.Seats.{seats_of}
use Rattle.pass_driver.proofs.driver.coloured.Goals as goal

pub apply_by-requires-clause-colored : goal.apply_by-requires-clause-colored
apply_by-requires-clause-colored g c frame e =
    c.requires.ready.colors frame e (seats_of c.in_ok-colouring.colouring) (c.in_ok-colouring.ensures.coloring frame e)

pub returns : goal.returns
returns g c =
    ok_by c.apply_by.result _ _ (λ made k frame e. record { seats = seats_of c.in_ok-colouring.colouring; coloring = c.in_ok-colouring.ensures.coloring frame e; code = k frame e })
    c.apply_by.ensures
