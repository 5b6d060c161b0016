use Rattle.std.proofs.Common.{refl}
use Rattle.asm_labels.proofs.Kept.{block_kept}
use Rattle.asm_labels.proofs.labels.with_block.Goals as goal

pub returns : goal.returns
returns c =
    block_kept c.args.labels (record { blocks = c.insert.new.self; symbols = c.args.labels.symbols }) c.args.place c.args.block c.requires.new (λ s. refl)
    c.in_ok-insert.ensures.updates.0
