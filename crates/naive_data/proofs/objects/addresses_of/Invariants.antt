use Rattle.std.proofs.Common.{◌≡◌, ◌+◌, ◌++◌, drop}
use Rattle.naive_data.specs.Layout.{addresses, size_of}
use Rattle.naive_data.proofs.objects.addresses_of.Given as goal

abbrev pub invariant-loop-s : goal.invariant-loop-s
invariant-loop-s g l =
    (l.symbols ++ addresses g.W.Word.BITS l.address (drop l.s-index l.statics) ≡ addresses g.W.Word.BITS l.base l.statics)
    × (l.address + size_of g.W.Word.BITS (drop l.s-index l.statics) ≡ l.base + size_of g.W.Word.BITS l.statics)
