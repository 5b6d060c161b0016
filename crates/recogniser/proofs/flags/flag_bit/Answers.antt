use Rattle.std.proofs.Common.{ℕ, sym, subst, ◌∙◌}
use Rattle.recogniser.specs.Searching.{HasBit}
use Rattle.recogniser.proofs.BitsBelow.{one_bit}
use Rattle.recogniser.proofs.flags.flag_bit.Goals as goal

pub returns-then-has : goal.returns-then-has
returns-then-has c =
    subst (λ (bits : ℕ). HasBit c.args.set.flags bits c.args.flag) (sym c.bit.ensures)
    (one_bit c.args.set.flags c.args.flag (sym c.has.ensures ∙ c.if-has.true))
