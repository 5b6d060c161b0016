use Rattle.std.proofs.Common.{◌≡◌, ◌++◌, drop}
use Rattle.naive_data.specs.Layout.{data_of}
use Rattle.naive_data.proofs.objects.bytes_of.Given as goal

abbrev pub invariant-loop-s : goal.invariant-loop-s
invariant-loop-s g l = l.bytes ++ data_of g.W.Word.BITS (drop l.s-index l.statics) ≡ data_of g.W.Word.BITS l.statics
