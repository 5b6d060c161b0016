-- What is told of a tree.
use Rattle.std.proofs.Common.{◌≡◌, Bool, List, Option, Some, None, refl, sym, ap, ◌∙◌}
use Rattle.rtl_tree.specs.declared.expressions.BinOp.{BinOp}
use Rattle.c_tree.specs.declared.typed.Function.{Function}
use Rattle.c_tree.specs.declared.typed.Typed.{Typed}
use Rattle.c_typing.specs.declared.names.Fault.{Fault}
use Rattle.c_typing.specs.Faults.{notes}
use Rattle.c_typing.specs.Laws.{TellsFirst}
use Rattle.c_lacks.specs.Lacks.{functions_lack, tree_lacks, IsToldOf}

pub told_first : TellsFirst → (has : BinOp → Bool) (t : Typed) (fs : List Function) (first : Option Fault) (f : Fault) → fs ≡ t.functions
    → first ≡ notes None (functions_lack has fs) → first ≡ Some f
    → IsToldOf (tree_lacks has t) (record { line = f.at.line; column = f.at.column; rule = f.rule; detail = 0 })
told_first law has t fs first f same told is = record {
  first = law (tree_lacks has t) f (ap (λ gs. notes None (functions_lack has gs)) (sym same) ∙ (sym told ∙ is));
  detail = refl;
}
