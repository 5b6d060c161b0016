use Rattle.md_lines.specs.Seen.{slot_of}
use Rattle.md_lines.proofs.PiecesRead.{hole_found, no_less, no_greater, no_slot}
use Rattle.md_lines.proofs.pieces.hole_at.Goals as goal

pub returns-in_err-rest-clause-none : goal.returns-in_err-rest-clause-none
returns-in_err-rest-clause-none c = rw c.from_residual.ensures (no_less c.args.text.now c.in_err-rest.ensures)

pub returns-in_err-inside-clause-none : goal.returns-in_err-inside-clause-none
returns-in_err-inside-clause-none c = rw c.from_residual-in_err-inside.ensures (no_greater c.args.text.now c.in_ok-rest.rest.now c.in_ok-rest.ensures c.in_err-inside.ensures.none)

pub returns-in_err-slot-clause-none : goal.returns-in_err-slot-clause-none
returns-in_err-slot-clause-none c =
    rw c.from_residual-in_err-slot.ensures
    (no_slot c.args.text.now c.in_ok-rest.rest.now c.in_ok-inside.inside.now _ c.in_ok-rest.ensures c.in_ok-inside.ensures.found c.in_err-slot.ensures.none)

pub returns-clause-found : goal.returns-clause-found
returns-clause-found c =
    hole_found c.args.text.now c.in_ok-rest.rest.now c.in_ok-inside.inside.now _ (slot_of c.in_ok-slot.slot) c.in_ok-rest.ensures c.in_ok-inside.ensures.found c.in_ok-slot.ensures.found
