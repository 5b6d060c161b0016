use Rattle.std.proofs.Common.{◌∷◌, [], ◌++◌, sym, ap, ◌∙◌}
use Rattle.md_text.specs.Declarations.{flag_of, flags_in}
use Rattle.md_forms.specs.Seen.{declaration_of}
use Rattle.md_reader.proofs.Declarations.{one_more, rest_in_range}
use Rattle.md_reader.proofs.names.flags.Goals as goal

pub loop-declaration-preserved : goal.loop-declaration-preserved
loop-declaration-preserved c = record {
  so_far =
      c.in_ok-flags.ensures
      ∙ ap (λ before. before ++ flags_in (declaration_of c.declaration-item.result ∷ [])) c.loop-declaration.invariant.so_far
      ∙ sym (one_more declaration_of (λ d. flag_of d.form) c.args.all.now c.loop-declaration.declaration-index c.declaration-item.result c.loop-declaration-test.true c.declaration-item.is);
  in_range = rest_in_range c.args.all.now c.loop-declaration.declaration-index c.declaration-item.result c.loop-declaration-test.true c.declaration-item.is c.loop-declaration.invariant.in_range;
}
