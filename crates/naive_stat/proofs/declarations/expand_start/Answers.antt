use Rattle.std.proofs.Common.{List, sym, subst}
use Rattle.c_tree.specs.declared.typed.Local.{Local}
use Rattle.c_tree.specs.declared.typed.Start.{Start}
use Rattle.naive_code.specs.Statements.{locals_steps, started}
use Rattle.naive_expr.specs.Seen.{site_of}
use Rattle.naive_expr.proofs.Values.{if_ok_then}
use Rattle.naive_stat.specs.Runs.{Runs}
use Rattle.naive_stat.proofs.declarations.expand_start.Goals as goal

pub returns-in-Value : goal.returns-in-Value
returns-in-Value c =
    let x = site_of c.args.site.now in
    if_ok_then _ _ c.expand_dropped.result
    (λ r h a. subst (λ (s : Start). Runs c.args.out.now c.expand_dropped.new.out (started x c.args.locals.now s) a) (sym c.in-Value.is) (h a))
    c.expand_dropped.ensures

pub returns-in-Declared : goal.returns-in-Declared
returns-in-Declared c =
    let x = site_of c.args.site.now in
    if_ok_then _ _ c.expand_locals.result
    (λ r h a. subst (λ (s : Start). Runs c.args.out.now c.expand_locals.new.out (started x c.args.locals.now s) a) (sym c.in-Declared.is)
    (subst (λ (ls : List Local). Runs c.args.out.now c.expand_locals.new.out (locals_steps x c.args.locals.now ls) a) c.as_slice.ensures (h a)))
    c.expand_locals.ensures
