use Rattle.std.proofs.Common.{refl}
use Rattle.std.proofs.lemmas.Map.Text.{hash_map_updates_str}
use Rattle.asm_labels.proofs.Kept.{symbol_kept}
use Rattle.asm_labels.proofs.labels.with_symbol.Goals as goal

pub returns : goal.returns
returns c =
    symbol_kept c.args.labels (record { blocks = c.args.labels.blocks; symbols = c.insert.new.self }) c.args.place c.args.symbol.now c.requires.new (λ b. refl)
    (hash_map_updates_str c.args.symbol.now c.args.labels.symbols c.insert.new.self _ c.in_ok-insert.ensures.updates)
