use Rattle.std.proofs.Common.{◌≡◌, ◌∙◌, sym, subst, ap, bit_or, [], drop, ◌+◌, ℕ}
use Rattle.std.proofs.Math.ListN.{drop_of_length-le}
use Rattle.md_covers.specs.Covers.{general_bits}
use Rattle.md_covers.proofs.RegisterBits.{bits_next, or_nothing}
use Rattle.md_covers.proofs.registers.general_bits.Goals as goal

pub loop-i-preserved : goal.loop-i-preserved
loop-i-preserved c =
    subst (λ (n : ℕ). bit_or (bit_or c.loop-i.bits n) (general_bits (drop (c.loop-i.i + 1) c.args.registers.now)) ≡ general_bits c.args.registers.now)
    (sym c.general_bit-bits.ensures)
    (bits_next c.args.registers.now c.loop-i.i c.index-registers-i.result c.loop-i.bits c.loop-i-test.true c.index-registers-i.is ∙ c.loop-i.invariant)

pub returns : goal.returns
returns c =
    let past : drop c.loop-i.i c.args.registers.now ≡ [] = drop_of_length-le c.args.registers.now c.loop-i-test.false in
    sym (or_nothing c.loop-i.bits) ∙ (ap (λ z. bit_or c.loop-i.bits (general_bits z)) (sym past) ∙ c.loop-i.invariant)
