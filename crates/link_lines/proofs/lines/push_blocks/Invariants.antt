use Rattle.std.proofs.Common.{◌≡◌, ◌++◌, drop, length, map}
use Rattle.std.specs.Prelude.{All}
use Rattle.md_instances.specs.Instances.{IsOfDescription}
use Rattle.rtl_machine.specs.Loading.{moves_of}
use Rattle.link_lines.specs.Lines.{blocks_labels, blocks_lines}
use Rattle.link_lines.proofs.lines.push_blocks.Given as goal

abbrev pub invariant-loop-block : goal.invariant-loop-block
invariant-loop-block g l =
    record {
      lines :
          map (moves_of l.m) l.written.lines.items ++ blocks_lines l.m l.rows l.code (drop l.block-index l.code.blocks)
          ≡ map (moves_of l.m) l.fn.written.lines.items ++ blocks_lines l.m l.rows l.code l.code.blocks;
      rows : All (IsOfDescription l.m) l.fn.written.lines.items → All (IsOfDescription l.m) l.written.lines.items;
      labels :
          l.written.labels.items ++ blocks_labels l.m l.rows (length l.written.lines.items) l.code (drop l.block-index l.code.blocks)
          ≡ l.fn.written.labels.items ++ blocks_labels l.m l.rows (length l.fn.written.lines.items) l.code l.code.blocks;
    }
