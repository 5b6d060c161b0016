use Rattle.std.proofs.Common.{◌<◌, ◌≤◌, length, arith}
use Rattle.naive_code.specs.Statements.{put_elements}
use Rattle.naive_expr.specs.Seen.{site_of, storage_of}
use Rattle.naive_expr.proofs.Values.{if_ok_then}
use Rattle.naive_stat.proofs.Declaring.{rest_runs, no_rest_runs}
use Rattle.naive_stat.proofs.declarations.expand_list.Goals as goal

pub returns-then-es-size : goal.returns-then-es-size
returns-then-es-size c =
    let x = site_of c.args.site.now in
    let s = storage_of c.args.storage in
    let es = c.args.es.now in
    let lt : length es < c.args.size = omega arith in
    if_ok_then _ _ c.expand_cleared.result
    (λ r h a. rest_runs c.args.site.now.bits s (length es) c.args.size c.args.out.now c.expand_elements.new.out c.expand_cleared.new.out (put_elements x s 0 es) a lt (c.in_ok-expand_elements.ensures a) (h a))
    c.expand_cleared.ensures

pub returns-else-es-size : goal.returns-else-es-size
returns-else-es-size c = λ a.
    let x = site_of c.args.site.now in
    let s = storage_of c.args.storage in
    let es = c.args.es.now in
    let le : c.args.size ≤ length es = omega arith in
    no_rest_runs c.args.site.now.bits s (length es) c.args.size c.args.out.now c.expand_elements.new.out (put_elements x s 0 es) a le (c.in_ok-expand_elements.ensures a)
