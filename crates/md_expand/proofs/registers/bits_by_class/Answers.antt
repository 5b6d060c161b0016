use Rattle.std.proofs.Common.{◌≡◌, ◌-◌, ◌∙◌, List, get_or, subst, arith}
use Rattle.md_text.specs.Declarations.{registers_in}
use Rattle.md_forms.specs.Seen.{form_of, declarations_of}
use Rattle.md_forms.specs.declared.declarations.Declaration.{Declaration}
use Rattle.md_expand.specs.Bits.{bits_at, bits_among}
use Rattle.md_expand.proofs.NamedBits.{one_before}
use Rattle.md_expand.proofs.registers.bits_by_class.Goals as goal

pub loop-left-preserved : goal.loop-left-preserved
loop-left-preserved c =
    let all = c.args.all.now in
    let l = c.loop-left in record {
      within = omega (arith, l.invariant.within);
      bits = λ name.
          subst
          (λ (ds : List Declaration). bits_at c.in_ok-bits.bits name ≡ bits_among (registers_in (declarations_of ds)) (form_of (get_or all (l.left - 1) c.index-all-left.result).form) (bits_at l.bits) name)
          c.in_ok-registers.ensures (c.in_ok-bits.ensures name)
          ∙ one_before (registers_in (declarations_of all)) all l.left c.index-all-left.result (bits_at l.bits) name c.loop-left-test.true l.invariant.within (l.invariant.bits name);
    }
