use Rattle.std.proofs.Common.{◌∙◌, arith}
use Rattle.naive_builder.specs.Appending.{emitted, fixed_in}
use Rattle.naive_expand.proofs.Appending.{appends_next, appends_none, doable_at}
use Rattle.naive_expand.proofs.selection.append_all.Goals as goal

pub append-requires-clause-doable : goal.append-requires-clause-doable
append-requires-clause-doable g c = doable_at c.args.m.now c.args.ops.now c.loop-op.op-index _ c.requires.doable c.loop-op-test.true

pub loop-op-preserved : goal.loop-op-preserved
loop-op-preserved g c = (
  λ u h. c.loop-op.invariant.0 u (appends_next c.args.m.now (fixed_in c.args.m.now c.args.rows.now) (emitted c.loop-op.b) (emitted c.append.new.b) u c.args.ops.now
      c.loop-op.op-index _ c.loop-op-test.true c.in_ok-append.ensures.code h),
  c.in_ok-append.ensures.homes ∙ c.loop-op.invariant.1,
)

pub returns-clause-code : goal.returns-clause-code
returns-clause-code g c =
    c.loop-op.invariant.0 (emitted c.loop-op.b)
    (appends_none c.args.m.now (fixed_in c.args.m.now c.args.rows.now) (emitted c.loop-op.b) c.args.ops.now c.loop-op.op-index (omega (arith, c.loop-op-test.false)))
