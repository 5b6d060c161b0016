use Rattle.std.proofs.Common.{◌≡◌, Err, sym, ap, subst, ◌∙◌}
use Rattle.rtl_spelling.specs.Law.{IsEnded}
use Rattle.rtl_spelling.proofs.Lexed.{lexed_is_ended}
use Rattle.rtl_text.specs.Seen.{tokens_of}
use Rattle.md_text.specs.Forms.{hole_names}
use Rattle.md_open.specs.declared.fault.OpenFault.TheVariants.{NoForm}
use Rattle.md_open.proofs.Readings.{few_in, not_spelled, labelled, at_slices}
use Rattle.md_open.proofs.transfers.open_transfer.Goals as goal

pub spelled_moves-requires-clause-ended : goal.spelled_moves-requires-clause-ended
spelled_moves-requires-clause-ended c =
    subst IsEnded (ap tokens_of (sym c.as_slice-2.ensures.value)) (lexed_is_ended c.args.text.now (tokens_of c.in-Ok.tokens.items) c.in-Ok.ensures.found)

pub spelled_moves-requires-clause-few : goal.spelled_moves-requires-clause-few
spelled_moves-requires-clause-few c =
    few_in c.args.text.now (tokens_of c.in-Ok.tokens.items) c.as_slice-3.result.now c.in-Ok.ensures.found c.requires.short
    (c.as_slice-3.ensures ∙ c.in_ok-names.ensures ∙ ap (λ xs. hole_names (tokens_of xs)) c.as_slice.ensures.value)

pub returns-in-Err-spelled_moves-clause-refused : goal.returns-in-Err-spelled_moves-clause-refused
returns-in-Err-spelled_moves-clause-refused c = λ e.
    let fault : c.in-Err-spelled_moves.fault ≡ NoForm = cc in
    not_spelled c.args.bits c.args.text.now (tokens_of c.in-Ok.tokens.items) c.in_ok-names.names c.in-Ok.ensures.found
    (c.in_ok-names.ensures ∙ ap (λ xs. hole_names (tokens_of xs)) c.as_slice.ensures.value)
    (λ ms s. c.in-Err-spelled_moves.ensures.refused (ap Err fault) ms (at_slices c.args.bits _ _ _ _ ms (sym c.as_slice-3.ensures) (ap tokens_of (sym c.as_slice-2.ensures.value)) s))

pub returns-clause-refused : goal.returns-clause-refused
returns-clause-refused c = λ e.
    labelled c.args.bits c.args.text.now (tokens_of c.in-Ok.tokens.items) c.in_ok-names.names c.in-Ok-spelled_moves.moves c.requires.size c.in-Ok.ensures.found
    (c.in_ok-names.ensures ∙ ap (λ xs. hole_names (tokens_of xs)) c.as_slice.ensures.value)
    (at_slices c.args.bits _ _ _ _ c.in-Ok-spelled_moves.moves c.as_slice-3.ensures (ap tokens_of c.as_slice-2.ensures.value) c.in-Ok-spelled_moves.ensures.found)
    (rw (sym c.as_slice-4.ensures) (sym c.if-have_no_label.ensures))
