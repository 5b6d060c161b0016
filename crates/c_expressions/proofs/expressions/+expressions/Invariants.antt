use Rattle.std.proofs.Common.{◌≡◌, ◌++◌, ◌&&◌, List, drop, map}
use Rattle.std.specs.Option.{option_copied}
use Rattle.c_tree.specs.declared.syntax.Expr.{Expr}
use Rattle.c_typing.specs.Faults.{notes}
use Rattle.c_typing.specs.Expressions as spec
use Rattle.c_expressions.specs.Seen.{setting_of}
use Rattle.c_expressions.proofs.expressions.+expressions.Given as goal

-- what was gathered, and what comes of the rest, is all
abbrev pub invariant-arguments-loop-e : goal.invariant-arguments-loop-e
invariant-arguments-loop-e g l =
    let judged = λ (es : List Expr). map (spec.judge (setting_of g.W.Word.BITS l.scene)) es in
    let ts = spec.params_of (option_copied l.signature) in
    record {
      index : l.i ≡ l.e-index;
      trees : l.trees ++ spec.arguments ts l.i (judged (drop l.e-index l.list)) ≡ spec.arguments ts 0 (judged l.list);
      sound : (l.sound && spec.all_sound (judged (drop l.e-index l.list))) ≡ spec.all_sound (judged l.list);
      told : notes l.told.first (spec.faults_of (judged (drop l.e-index l.list))) ≡ notes l.fn.told.first (spec.faults_of (judged l.list));
    }
