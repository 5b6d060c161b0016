use Rattle.std.proofs.Common.{◌≡◌, length, map, take, drop, ◌++◌}
use Rattle.rtl_norm.specs.Transfers.{norm_move}
use Rattle.rtl_simplify.proofs.transfers.reduce.Given as goal

abbrev pub invariant-loop-i : goal.invariant-loop-i
invariant-loop-i g l = record {
  done : l.e-inside.list.items ≡ map (norm_move g.W.Word.BITS) (take l.i l.initial.e-inside.list.items) ++ drop l.i l.initial.e-inside.list.items;
  long : length l.e-inside.list.items ≡ length l.initial.e-inside.list.items;
}
