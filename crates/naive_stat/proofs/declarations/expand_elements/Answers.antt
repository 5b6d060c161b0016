use Rattle.std.proofs.Common.{◌<◌, ◌≤◌, length, arith}
use Rattle.naive_code.specs.Statements.{put_elements}
use Rattle.naive_expr.specs.Seen.{site_of, storage_of}
use Rattle.naive_stat.proofs.Resting.{elements_left, elements_next, elements_done}
use Rattle.naive_stat.proofs.declarations.expand_elements.Goals as goal

pub loop-e-preserved : goal.loop-e-preserved
loop-e-preserved c =
    let x = site_of c.args.site.now in
    let s = storage_of c.args.storage in
    let es = c.args.es.now in
    let lt : c.loop-e.e-index < length es = omega arith in (
      elements_left es c.loop-e.e-index c.e-item.result lt c.e-item.is c.loop-e.invariant.0,
      λ a. elements_next x s es c.loop-e.e-index c.loop-e.i c.in_ok-i.i c.e-item.result c.args.out.now c.loop-e.out c.expand_element.new.out (put_elements x s 0 es) a lt c.e-item.is c.in_ok-i.ensures
          (c.loop-e.invariant.1 a) (c.in_ok-expand_element.ensures a),
    )

pub returns : goal.returns
returns c = λ a.
    let x = site_of c.args.site.now in
    let s = storage_of c.args.storage in
    let es = c.args.es.now in
    let le : length es ≤ c.loop-e.e-index = omega arith in
    elements_done x s es c.loop-e.e-index c.loop-e.i c.args.out.now c.loop-e.out (put_elements x s 0 es) a le (c.loop-e.invariant.1 a)
