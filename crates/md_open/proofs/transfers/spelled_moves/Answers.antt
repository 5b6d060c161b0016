use Rattle.std.proofs.Common.{◌∙◌}
use Rattle.rtl_text.specs.Seen.{tokens_of}
use Rattle.md_open.proofs.Readings.{same_context, moves_spelled, moves_refused}
use Rattle.md_open.proofs.transfers.spelled_moves.Goals as goal

pub returns-in-Ok-clause-found : goal.returns-in-Ok-clause-found
returns-in-Ok-clause-found c =
    moves_spelled _ c.args.bits c.args.names.now (tokens_of c.args.tokens.now) c.in-Ok.moves c.requires.size
    (same_context c.args.bits c.no_names-empty.result c.args.names.now _ c.no_names-empty.ensures.objects c.no_names-empty.ensures.functions (c.as_slice.ensures.value ∙ c.in_ok-holes.ensures))
    c.requires.ended c.in-Ok.ensures

pub returns-in-Err-Wrong-clause-refused : goal.returns-in-Err-Wrong-clause-refused
returns-in-Err-Wrong-clause-refused c = λ e.
    moves_refused _ c.args.bits c.args.names.now (tokens_of c.args.tokens.now) _ c.requires.size
    (same_context c.args.bits c.no_names-empty.result c.args.names.now _ c.no_names-empty.ensures.objects c.no_names-empty.ensures.functions (c.as_slice.ensures.value ∙ c.in_ok-holes.ensures))
    (rw c.in-Err-Wrong.field-0-is at c.in-Err-Wrong.ensures)

pub returns-clause-refused : goal.returns-clause-refused
returns-clause-refused c = λ e.
    moves_refused _ c.args.bits c.args.names.now (tokens_of c.args.tokens.now) _ c.requires.size
    (same_context c.args.bits c.no_names-empty.result c.args.names.now _ c.no_names-empty.ensures.objects c.no_names-empty.ensures.functions (c.as_slice.ensures.value ∙ c.in_ok-holes.ensures))
    (rw c.in-Err-Deep.field-0-is at c.in-Err-Deep.ensures)
