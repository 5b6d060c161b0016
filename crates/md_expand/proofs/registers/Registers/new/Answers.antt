use Rattle.std.proofs.Common.{◌-◌, ◌∙◌, arith}
use Rattle.md_expand.specs.Bits.{bits_at}
use Rattle.md_expand.proofs.NamedBits.{one_register_before, fits_at}
use Rattle.md_expand.proofs.registers.Registers.new.Goals as goal

pub with_register-requires : goal.with_register-requires
with_register-requires c = fits_at c.args.all.now (c.loop-left.left - 1) c.index-all-left.result c.requires (omega (arith, c.loop-left-test.true, c.loop-left.invariant.within))

pub loop-left-preserved : goal.loop-left-preserved
loop-left-preserved c =
    let all = c.args.all.now in
    let l = c.loop-left in record {
      within = omega (arith, l.invariant.within);
      bits = λ name.
          c.in_ok-bits.ensures name
          ∙ one_register_before all l.left c.index-all-left.result (bits_at l.bits) name c.loop-left-test.true l.invariant.within (l.invariant.bits name);
    }
