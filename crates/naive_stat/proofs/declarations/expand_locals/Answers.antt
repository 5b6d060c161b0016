use Rattle.std.proofs.Common.{◌<◌, ◌≤◌, length, arith}
use Rattle.naive_code.specs.Statements.{locals_steps}
use Rattle.naive_expr.specs.Seen.{site_of}
use Rattle.naive_stat.proofs.Resting.{locals_left, locals_next, locals_done}
use Rattle.naive_stat.proofs.declarations.expand_locals.Goals as goal

pub loop-local-preserved : goal.loop-local-preserved
loop-local-preserved c =
    let x = site_of c.args.site.now in
    let ls = c.args.declared.now in
    let lt : c.loop-local.local-index < length ls = omega arith in (
      locals_left ls c.loop-local.local-index c.local-item.result lt c.local-item.is c.loop-local.invariant.0,
      λ a. locals_next x c.args.locals.now ls c.loop-local.local-index c.local-item.result c.args.out.now c.loop-local.out c.expand_init.new.out (locals_steps x c.args.locals.now ls) a lt c.local-item.is
          (c.loop-local.invariant.1 a) (c.in_ok-expand_init.ensures a),
    )

pub returns : goal.returns
returns c = λ a.
    let x = site_of c.args.site.now in
    let ls = c.args.declared.now in
    let le : length ls ≤ c.loop-local.local-index = omega arith in
    locals_done x c.args.locals.now ls c.loop-local.local-index c.args.out.now c.loop-local.out (locals_steps x c.args.locals.now ls) a le (c.loop-local.invariant.1 a)
