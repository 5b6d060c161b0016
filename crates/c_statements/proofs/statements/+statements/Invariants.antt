use Rattle.std.proofs.Common.{◌≡◌, drop, map}
use Rattle.c_typing.specs.Faults.{notes}
use Rattle.c_typing.specs.Statements as spec
use Rattle.c_scopes.specs.Here.{here_of}
use Rattle.c_objects.specs.Within.{within_of}
use Rattle.c_statements.proofs.statements.+statements.Given as goal

-- what was gathered, and what comes of the rest, is all
abbrev pub invariant-sequence-loop-s : goal.invariant-sequence-loop-s
invariant-sequence-loop-s g l =
    let w = within_of g.W.Word.BITS l.functions in
    let all = spec.sequence w l.around (here_of l.fn.state) (map (spec.walk w) l.list) in
    let rest = spec.sequence w l.around (here_of l.state) (map (spec.walk w) (drop l.s-index l.list)) in
    record {
      tree : spec.joined l.trees rest.tree ≡ all.tree;
      here : rest.here ≡ all.here;
      told : notes l.told.first rest.faults ≡ notes l.fn.told.first all.faults;
    }
