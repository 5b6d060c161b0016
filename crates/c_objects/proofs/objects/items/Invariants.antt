use Rattle.std.proofs.Common.{◌≡◌, drop}
use Rattle.c_typing.specs.Faults.{notes}
use Rattle.c_typing.specs.Statements as spec
use Rattle.c_scopes.specs.Here.{here_of}
use Rattle.c_objects.specs.Within.{within_of}
use Rattle.c_objects.proofs.objects.items.Given as goal

-- what was gathered, and what comes of the rest, is all
abbrev pub invariant-loop-i : goal.invariant-loop-i
invariant-loop-i g l =
    let w = within_of g.W.Word.BITS l.functions in
    let all = spec.items w l.around (here_of l.fn.state) l.of l.list in
    let rest = spec.items w l.around (here_of l.state) l.of (drop l.i-index l.list) in
    record {
      tree : spec.joined l.trees rest.tree ≡ all.tree;
      here : rest.here ≡ all.here;
      told : notes l.told.first rest.faults ≡ notes l.fn.told.first all.faults;
    }
