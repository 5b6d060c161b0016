use Rattle.std.proofs.Common.{◌≡◌, ◌+◌, ◌++◌, [], ◌∷◌, List, drop, length, map, subst}
use Rattle.rtl_tree.specs.declared.cells.Lab.TheVariants.{Block as BlockLabel}
use Rattle.temp_code.specs.declared.code.Block.{Block}
use Rattle.rtl_machine.specs.Loading.{moves_of}
use Rattle.link_lines.specs.Lines.{Writes, block_of_lines, blocks_labels, blocks_lines}
use Rattle.link_lines.proofs.Writing.{moved, next_lines, next_labels}
use Rattle.link_lines.proofs.lines.push_blocks.Goals as goal

pub loop-block-preserved : goal.loop-block-preserved
loop-block-preserved g c =
    let m = c.args.m.now in
    let t = c.args.rows.now in
    let code = c.args.code.now in
    let i = c.loop-block.block-index in
    let old = c.loop-block.written.lines.items in
    let new = c.push_block.new.lines.items in
    let written =
    subst (λ (b : Block). Writes m old new (block_of_lines m t code b)) c.block-item.is
    (moved m old c.push_label.new.written.lines.items new (block_of_lines m t code c.block-item.result) c.in_ok-push_label.ensures.lines c.in_ok-push_block.ensures) in
    let labelled =
    subst (λ (b : Block). c.push_label.new.written.labels.items ≡ c.loop-block.written.labels.items ++ record { label = BlockLabel b.label; at = length old } ∷ [])
    c.block-item.is c.in_ok-push_label.ensures.label in
    record {
      lines =
          subst (λ (bs : List Block). map (moves_of m) old ++ blocks_lines m t code (drop i bs) ≡ map (moves_of m) c.args.written.now.lines.items ++ blocks_lines m t code code.blocks
          → map (moves_of m) new ++ blocks_lines m t code (drop (i + 1) bs) ≡ map (moves_of m) c.args.written.now.lines.items ++ blocks_lines m t code code.blocks)
          c.as_slice-block-items.ensures
          (next_lines m t code c.as_slice-block-items.result.now i c.block-item.result c.loop-block-test.true old new
          (map (moves_of m) c.args.written.now.lines.items ++ blocks_lines m t code code.blocks) written)
          c.loop-block.invariant.lines;
      rows = λ all. written.rows (c.loop-block.invariant.rows all);
      labels =
          subst (λ (bs : List Block). c.loop-block.written.labels.items ++ blocks_labels m t (length old) code (drop i bs)
          ≡ c.args.written.now.labels.items ++ blocks_labels m t (length c.args.written.now.lines.items) code code.blocks
          → c.push_label.new.written.labels.items ++ blocks_labels m t (length new) code (drop (i + 1) bs)
          ≡ c.args.written.now.labels.items ++ blocks_labels m t (length c.args.written.now.lines.items) code code.blocks)
          c.as_slice-block-items.ensures
          (next_labels m t code c.as_slice-block-items.result.now i c.block-item.result c.loop-block-test.true old new c.loop-block.written.labels.items
          c.push_label.new.written.labels.items (c.args.written.now.labels.items ++ blocks_labels m t (length c.args.written.now.lines.items) code code.blocks) written labelled)
          c.loop-block.invariant.labels;
    }
