use Rattle.std.proofs.Common.{[], ◌∷◌}
use Rattle.link_lines.specs.Glue.{glue_of}
use Rattle.link_lines.proofs.Writing.{written_both, written_then}
use Rattle.link_lines.proofs.lines.push_start.Goals as goal

pub returns : goal.returns
returns g c =
    let m = c.args.m.now in
    let glue = glue_of m c.args.rows.now in
    let old = c.args.lines.now.items in
    let one = c.push_plain.new.lines.items in
    let two = c.push_plain-2.new.lines.items in
    written_then m old two c.push_plain-3.new.lines.items (glue.set_stack ∷ glue.calling c.args.main ∷ []) (glue.finish ∷ []) c.push_plain-3.result
    (written_both m old one two (glue.set_stack ∷ []) (glue.calling c.args.main ∷ []) c.in_ok-push_plain.ensures c.in_ok-push_plain-2.ensures) c.push_plain-3.ensures
