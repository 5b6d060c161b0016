use Rattle.c_lexer.proofs.Closes.{none_first, none_more, none_found, found_at}
use Rattle.std.proofs.Common.{◌≡◌, ◌∙◌, sym, ap, false, true}
use Rattle.std.proofs.lemmas.List.{take_rest}
use Rattle.c_lexer.specs.Pieces.{is_close}
use Rattle.c_lexer.proofs.piece.close_place.Goals as goal

pub loop-place-init : goal.loop-place-init
loop-place-init c = none_first c.args.bytes.now

pub loop-place-preserved : goal.loop-place-preserved
loop-place-preserved c =
    none_more _ _ c.loop-place-test.true c.loop-place.invariant
    (sym (ap is_close (take_rest c.args.bytes.now c.loop-place.place)) ∙ sym c.is_close.ensures.exact ∙ c.if-is_close.false)

pub returns-then-is_close-clause-exact : goal.returns-then-is_close-clause-exact
returns-then-is_close-clause-exact c =
    sym (found_at _ _ c.loop-place-test.true c.loop-place.invariant
    (sym (ap is_close (take_rest c.args.bytes.now c.loop-place.place)) ∙ sym c.is_close.ensures.exact ∙ c.if-is_close.true))

pub returns-clause-exact : goal.returns-clause-exact
returns-clause-exact c = sym (none_found _ _ c.loop-place-test.false c.loop-place.invariant)
