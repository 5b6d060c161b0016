use Rattle.std.proofs.Common.{◌<◌, ◌∙◌, append-nil, arith}
use Rattle.naive_stat.proofs.Entering.{entry_next}
use Rattle.naive_stat.proofs.functions.push_entry.Goals as goal

pub loop-i-preserved : goal.loop-i-preserved
loop-i-preserved c =
    let h = c.in_ok-emit.ensures in
    let before = c.loop-i.invariant in
    let lt : c.loop-i.i < c.args.count = omega arith in (
      entry_next c.args.bytes c.args.offset c.loop-i.i c.args.count c.in_ok-k.k c.loop-i.out c.emit.new.self _ lt c.in_ok-k.ensures h before.0,
      h.depths ∙ (append-nil _ ∙ before.1),
      omega (arith, h.temp, before.2),
      omega (arith, h.label, before.3),
    )
