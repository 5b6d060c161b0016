use Rattle.std.proofs.Common.{◌++◌, ℕ, Option, ap, ◌∙◌}
use Rattle.c_typing.specs.Program as spec
use Rattle.c_types.proofs.static_values.with_listed.Goals as goal

pub returns-clause-words : goal.returns-clause-words
returns-clause-words g c =
    c.in_ok-more.ensures c.args.signatures.now
    ∙ ap (λ (v : Option ℕ). c.args.words ++ spec.word_of c.args.signatures.now g.W.Word.BITS c.args.of v) c.in_ok-at.ensures.value
