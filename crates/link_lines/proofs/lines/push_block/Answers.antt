use Rattle.std.proofs.Common.{◌≡◌, ◌++◌, List, map, subst}
use Rattle.temp_code.specs.declared.code.Transfer.{Transfer}
use Rattle.link_lines.proofs.Writing.{block_written}
use Rattle.link_lines.proofs.lines.push_block.Goals as goal

pub returns : goal.returns
returns g c =
    let old = c.args.lines.now.items in
    let behind =
    subst (λ (ts : List Transfer). c.push_body.new.lines.items ≡ old ++ map (λ (t : Transfer). t.by) ts) c.as_slice.ensures c.in_ok-push_body.ensures in
    block_written c.args.m.now c.args.rows.now c.args.code.now c.args.block.now old c.push_body.new.lines.items c.push_end.new.lines.items
    c.push_end.result c.requires.realised behind c.push_end.ensures
