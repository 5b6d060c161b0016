use Rattle.std.proofs.Common.{◌≡◌, map, drop}
use Rattle.naive_builder.specs.Appending.{Emitted, emitted, fixed_in, Appends}
use Rattle.naive_expr.specs.Seen.{op_of}
use Rattle.naive_expand.proofs.selection.append_all.Given as goal

abbrev pub invariant-loop-op : goal.invariant-loop-op
invariant-loop-op g l =
    ((u : Emitted) → Appends l.m (fixed_in l.m l.rows) (emitted l.b) (map op_of (drop l.op-index l.ops)) u → Appends l.m (fixed_in l.m l.rows) (emitted l.fn.b) (map op_of l.ops) u)
    × (l.b.homes ≡ l.fn.b.homes)
