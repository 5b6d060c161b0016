use Rattle.std.proofs.Common.{ℕ, ◌≡◌, subst, arith}
use Rattle.md_check.specs.Checking.{HasBits}
use Rattle.md_check.proofs.Sets.{set_step}
use Rattle.md_check.proofs.checked.operators_in.Goals as goal

pub loop-place-preserved : goal.loop-place-preserved
loop-place-preserved g c =
    set_step c.args.d.now c.loop-place.covered c.operator_bit-covered.result c.loop-place.place c.loop-place.invariant c.operator_bit-covered.ensures

pub returns : goal.returns
returns g c =
    let all : c.loop-place.place ≡ 10 = omega (arith, c.loop-place-test.false, c.loop-place.auto.place-end) in
    subst (λ (n : ℕ). HasBits c.args.d.now c.loop-place.covered n) all c.loop-place.invariant
