use Rattle.std.proofs.Common.{subst}
use Rattle.naive_code.specs.Statements.{Steps}
use Rattle.naive_expr.specs.Seen.{site_of, storage_of}
use Rattle.naive_expr.proofs.Values.{if_ok_then}
use Rattle.naive_stat.specs.Runs.{Runs}
use Rattle.naive_stat.proofs.Declaring.{list_is}
use Rattle.naive_stat.proofs.declarations.expand_init.Goals as goal

pub returns-in_ok-storage-in-List : goal.returns-in_ok-storage-in-List
returns-in_ok-storage-in-List c =
    let x = site_of c.args.site.now in
    let s = storage_of c.in_ok-storage-in-List.storage in
    if_ok_then _ _ c.expand_list.result
    (λ r h a. subst (λ (p : Steps). Runs c.args.out.now c.expand_list.new.out p a)
    (list_is x c.args.locals.now c.args.x c.args.init.now c.as_slice.result.now c.in-List.es s c.length_in-size.result c.in-List.is c.as_slice.ensures c.in_ok-storage-in-List.ensures c.length_in-size.ensures)
    (h a))
    c.expand_list.ensures
