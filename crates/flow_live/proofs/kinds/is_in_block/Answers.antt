use Rattle.std.proofs.Common.{◌||◌, Bool, List, ap, sym, ◌∙◌}
use Rattle.std.specs.List.{list_any}
use Rattle.temp_machine.specs.Routines.{exit_transfers}
use Rattle.temp_machine.specs.Cells.{mentions}
use Rattle.temp_code.specs.declared.code.Transfer.{Transfer}
use Rattle.temp_code.specs.Routines.{exit_of}
use Rattle.flow_live.specs.Walks.{of_kind}
use Rattle.flow_live.proofs.Mentioned.{block_has}
use Rattle.flow_live.proofs.kinds.is_in_block.Goals as goal

pub returns-then-is_in_body : goal.returns-then-is_in_body
returns-then-is_in_body c =
    c.if-is_in_body.true
    ∙ sym (block_has (mentions (of_kind c.args.kind)) c.args.block.now
    ∙ ap (λ (a : Bool). a || list_any (mentions (of_kind c.args.kind)) (exit_transfers (exit_of c.args.block.now.end)))
    (sym (c.is_in_body.ensures ∙ ap (λ (ms : List Transfer). list_any (λ t. mentions (of_kind c.args.kind) t.what) ms) c.as_slice.ensures) ∙ c.if-is_in_body.true))

pub returns-else-is_in_body : goal.returns-else-is_in_body
returns-else-is_in_body c =
    c.is_in_end.ensures
    ∙ sym (block_has (mentions (of_kind c.args.kind)) c.args.block.now
    ∙ ap (λ (a : Bool). a || list_any (mentions (of_kind c.args.kind)) (exit_transfers (exit_of c.args.block.now.end)))
    (sym (c.is_in_body.ensures ∙ ap (λ (ms : List Transfer). list_any (λ t. mentions (of_kind c.args.kind) t.what) ms) c.as_slice.ensures) ∙ c.if-is_in_body.false))
