use Rattle.std.proofs.Common.{◌+◌, ◌++◌, List, map, refl, ap, sym, ◌∙◌}
use mathlib.Core.List.{append-nil}
use Rattle.c_tree.specs.declared.syntax.Expr.{Expr}
use Rattle.c_typing.specs.Program as spec
use Rattle.c_scopes.proofs.Steps.{next_item, drop_end}
use Rattle.c_functions.specs.Files.{file_of}
use Rattle.c_types.proofs.Steps.{words_step, words_told}
use Rattle.c_types.proofs.static_values.listed.Goals as goal

pub loop-e-preserved : goal.loop-e-preserved
loop-e-preserved g c =
    let w = g.W.Word.BITS in
    let ss = c.args.signatures.now in
    let f = spec.judged_at c.args.signatures.now w (file_of c.args.file.now) in
    let next = next_item c.loop-e.e-index c.args.list.now c.e-item.result c.loop-e-test.true c.e-item.is in
    record {
      index = ap (λ n. n + 1) c.loop-e.invariant.index;
      words = words_step ss w c.args.of f _ _ _ next _ _ _ c.loop-e.invariant.words c.in_ok-more.ensures.words;
      told = words_told ss w c.args.of f _ _ _ next c.args.extent _ _ _ _ _ c.loop-e.invariant.told c.in_ok-more.ensures.told refl;
    }

pub returns-clause-words : goal.returns-clause-words
returns-clause-words g c =
    let w = g.W.Word.BITS in
    let ss = c.args.signatures.now in
    let f = spec.judged_at ss w (file_of c.args.file.now) in
    let rest = λ (xs : List Expr). c.loop-e.words ++ spec.static_words ss w c.args.of (map f xs) in
    sym (append-nil c.loop-e.words) ∙ ap rest (sym (drop_end c.loop-e.e-index c.args.list.now c.loop-e-test.false)) ∙ c.loop-e.invariant.words
