use Rattle.std.proofs.Common.{◌++◌, ℕ, List, Option, sym, ap, ◌∙◌}
use Rattle.c_tree.specs.declared.syntax.Initialiser.TheVariants as initialiser
use Rattle.c_typing.specs.declared.names.Extent.{Extent}
use Rattle.c_typing.specs.Program as spec
use Rattle.c_functions.specs.Files.{file_of}
use Rattle.c_types.proofs.static_values.initial_value.Goals as goal

pub returns-in_ok-more-in-Scalar-clause-words : goal.returns-in_ok-more-in-Scalar-clause-words
returns-in_ok-more-in-Scalar-clause-words g c =
    let w = g.W.Word.BITS in
    let ss = c.args.signatures.now in
    c.in_ok-more-in-Scalar.ensures ss
    ∙ ap (λ (ws : List ℕ). ws ++ spec.word_of ss w c.args.of c.in_ok-at.value) c.new.ensures
    ∙ ap (λ (v : Option ℕ). spec.word_of ss w c.args.of v) c.in_ok-at.ensures.value
    ∙ ap (λ (x : Extent). (spec.static_values ss w (file_of c.args.file.now) c.args.of x (initialiser.Value c.args.e.now)).0) (sym c.in-Scalar.is)
