use Rattle.std.proofs.Common.{◌≡◌, List, ap, length, refl, subst, slice_index_or, ◌∙◌}
use Rattle.std.specs.Option.{option_map}
use Rattle.std.proofs.lemmas.Option.{slice_get_read, slice_get-get_or, slice_get-map}
use Rattle.temp_code.specs.declared.code.Block.{Block}
use Rattle.temp_code.specs.Routines.{block_of, routine_of}
use Rattle.flow_blocks.specs.Flows.{positions_of}
use Rattle.flow_live.specs.Rows.{bits_in}
use Rattle.flow_live.proofs.Stepping.{total_falls, total_stays, same_rows, looked}
use Rattle.flow_live.proofs.settling.look_at.Goals as goal

pub returns-clause-fell : goal.returns-clause-fell
returns-clause-fell c = λ e.
    total_falls c.args.begins.now c.args.at (slice_index_or c.args.begins.now c.args.at c.index-begins-at.result) c.keep.new.self
    (slice_get-get_or c.args.begins.now c.args.at c.index-begins-at.result c.requires.begin) (c.keep.ensures.fell e)

pub returns-clause-kept : goal.returns-clause-kept
returns-clause-kept c = λ e.
    total_stays c.args.begins.now c.args.at (slice_index_or c.args.begins.now c.args.at c.index-begins-at.result) c.keep.new.self
    (slice_get-get_or c.args.begins.now c.args.at c.index-begins-at.result c.requires.begin) (c.keep.ensures.same e)

pub returns-clause-same : goal.returns-clause-same
returns-clause-same c = λ e.
    same_rows c.args.begins.now c.args.at (slice_index_or c.args.begins.now c.args.at c.index-begins-at.result) c.keep.new.self
    (slice_get-get_or c.args.begins.now c.args.at c.index-begins-at.result c.requires.begin) (c.keep.ensures.same e)

pub returns-clause-words : goal.returns-clause-words
returns-clause-words c = c.go_before_block.ensures.words ∙ c.go_behind.ensures.words

pub returns-clause-looks : goal.returns-clause-looks
returns-clause-looks c = λ t words stands flow sized row.
    looked t (routine_of c.args.code.now) words c.args.at c.args.begins.now (slice_index_or c.args.begins.now c.args.at c.index-begins-at.result) c.keep.new.self (block_of c.index-as_slice-at.result)
    (bits_in c.args.row.now) (bits_in c.go_behind.new.row) (bits_in c.go_before_block.new.row) (positions_of c.next_at.result)
    (slice_get-get_or c.args.begins.now c.args.at c.index-begins-at.result c.requires.begin)
    sized row (c.next_at.ensures ∙ flow.next c.args.at)
    (slice_get-map block_of c.args.code.now.blocks c.args.at
    ∙ ap (option_map block_of) (slice_get_read c.args.code.now.blocks (length c.args.code.now.blocks) c.args.at c.index-as_slice-at.result refl c.requires.block
    (subst (λ (xs : List Block). c.index-as_slice-at.result ≡ slice_index_or xs c.args.at c.index-as_slice-at.result) c.as_slice.ensures c.index-as_slice-at.is)))
    (c.go_behind.ensures.behind t (routine_of c.args.code.now) stands) (c.go_before_block.ensures.before t (routine_of c.args.code.now) stands) c.keep.ensures.cells
