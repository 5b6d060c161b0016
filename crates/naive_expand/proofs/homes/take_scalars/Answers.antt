use Rattle.std.proofs.Common.{◌≡◌, ◌+◌, [], ◌∷◌, ◌++◌, ap, ◌∙◌}
use Rattle.naive_code.specs.Functions.{numbers_from}
use Rattle.naive_expand.proofs.Numbering.{one_home}
use Rattle.naive_expand.proofs.homes.take_scalars.Goals as goal

pub loop-i-preserved : goal.loop-i-preserved
loop-i-preserved c =
    let more : c.take.new.b.homes ≡ c.loop-i.b.homes ++ (16 + c.loop-i.i) ∷ [] =
    c.in_ok-take.ensures.homes ∙ ap (λ k. c.loop-i.b.homes ++ k ∷ []) c.in_ok-sum.ensures in (
      one_home 16 c.loop-i.i c.args.count c.args.b.now.homes c.loop-i.b.homes c.take.new.b.homes (numbers_from 16 c.args.count) c.loop-i-test.true more c.loop-i.invariant.0,
      c.in_ok-take.ensures.code ∙ c.loop-i.invariant.1,
    )
