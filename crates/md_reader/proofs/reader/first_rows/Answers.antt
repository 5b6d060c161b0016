use Rattle.std.proofs.Common.{sym, subst}
use Rattle.md_forms.specs.Seen.{declarations_of, declared_of}
use Rattle.md_expand.specs.Bits.{FitIn64}
use Rattle.md_reader.proofs.InRange.{registers_fit}
use Rattle.md_reader.proofs.reader.first_rows.Goals as goal

pub new-requires-clause-fit : goal.new-requires-clause-fit
new-requires-clause-fit c =
    subst (λ ds. FitIn64 (declarations_of ds)) (sym c.as_slice.ensures) (registers_fit (declared_of c.args.declared.now) c.requires.kept)
