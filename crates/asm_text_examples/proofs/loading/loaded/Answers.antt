use Rattle.std.proofs.Common.{subst}
use Rattle.md_check.specs.Checking.{IsChecked}
use Rattle.asm_text_examples.proofs.loading.loaded.Goals as goal

pub load-requires : goal.load-requires
load-requires c = record {
  loadable =
      c.texts_are_loadable.ensures _ _ _ _ (subst (λ d. IsChecked 16 d) c.raw.ensures.description c.raw.ensures.checked) c.in-Ok.ensures.text;
}
