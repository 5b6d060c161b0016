use Rattle.std.proofs.Common.{◌∙◌, ◌&&◌, ℕ, List, length, refl, sym, ap, arith}
use Rattle.std.proofs.lemmas.Option.{slice_get_read}
use Rattle.temp_code.specs.declared.code.Block.{Block}
use Rattle.flow_live.specs.Rows.{has_temporary}
use Rattle.color_graph.specs.Meeting.{is_call}
use Rattle.color_graph.proofs.Falling.{call_drops, last_drops, no_call_drops}
use Rattle.color_graph.proofs.walking.keep_behind.Goals as goal
use Rattle.color_graph.proofs.walking.keep_behind.Goals.{else-next-blocks-via-then-next-blocks+else-is_call, else-next-blocks-via-else-next-blocks}

pub returns-then-is_call : goal.returns-then-is_call
returns-then-is_call c = λ t r live is.
    call_drops c.args.at c.args.blocks.now c.index-blocks-at.result c.args.live.now t r live is
    (slice_get_read c.args.blocks.now (length c.args.blocks.now) c.args.at c.index-blocks-at.result refl c.requires.block c.index-blocks-at.is)
    c.args.words.now c.keep.new.words (let l = c.if-next-blocks.true in omega (arith, l)) (ap (λ (b : Block). is_call b.end) c.index-blocks-at.is ∙ sym c.is_call.ensures ∙ c.if-is_call.true)
    (λ i. c.keep.ensures i ∙ ap (λ (dead : List ℕ). has_temporary c.args.words.now i && has_temporary dead i) c.dead_words_at.ensures)

pub returns-else-next-blocks : goal.returns-else-next-blocks
returns-else-next-blocks c = λ t r live is. elim c.else-next-blocks.branch [
  | else-next-blocks-via-then-next-blocks+else-is_call w ↦
      no_call_drops c.args.at c.args.blocks.now w.index-blocks-at.result c.args.live.now t r live is
      (slice_get_read c.args.blocks.now (length c.args.blocks.now) c.args.at w.index-blocks-at.result refl c.requires.block w.index-blocks-at.is)
      c.args.words.now (ap (λ (b : Block). is_call b.end) w.index-blocks-at.is ∙ sym w.is_call.ensures ∙ w.if-is_call.false)
  | else-next-blocks-via-else-next-blocks w ↦
      last_drops c.args.at c.args.blocks.now t r c.args.words.now is (let l = w.if-next-blocks.false in omega (arith, l))
]
