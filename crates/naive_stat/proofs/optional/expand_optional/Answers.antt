use Rattle.std.proofs.Common.{Option, sym, subst}
use Rattle.c_tree.specs.declared.typed.TypedExpr.{TypedExpr}
use Rattle.naive_code.specs.Statements.{evaluated}
use Rattle.naive_expr.specs.Seen.{site_of}
use Rattle.naive_expr.proofs.Values.{if_ok_then}
use Rattle.naive_stat.specs.Runs.{Runs}
use Rattle.naive_stat.proofs.optional.expand_optional.Goals as goal

pub returns-in-Some : goal.returns-in-Some
returns-in-Some c =
    let x = site_of c.args.site.now in
    if_ok_then _ _ c.expand_dropped.result
    (λ r h a. subst (λ (e : Option TypedExpr). Runs c.args.out.now c.expand_dropped.new.out (evaluated x c.args.locals.now e) a) (sym c.in-Some.is) (h a))
    c.expand_dropped.ensures
