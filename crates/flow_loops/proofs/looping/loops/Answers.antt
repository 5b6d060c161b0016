use Rattle.std.proofs.Common.{◌≡◌, ◌-◌, length, arith}
use Rattle.flow_loops.proofs.Listing.{all_found}
use Rattle.flow_loops.proofs.looping.loops.Goals as goal

pub returns : goal.returns
returns c = λ w flow.
    let count : c.loop-before.before ≡ length c.as_slice-blocks.result.now - 1 =
    let most = c.loop-before.auto.before-end in
    let less = c.saturating_sub-before-end.ensures in
    let ends = c.loop-before-test.false in
    omega (arith, most, less, ends) in
    all_found w c.args.c.now c.args.f.now c.as_slice-blocks.result.now c.loop-before.marks.items c.loop-before.before c.as_slice-blocks.ensures count c.loop-before.invariant flow
