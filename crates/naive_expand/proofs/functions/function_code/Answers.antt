use Rattle.std.proofs.Common.{◌≡◌, ℕ, ◌/◌, length, sym, ap, subst, ◌∙◌, arith}
use Rattle.c_tree.specs.declared.typed.Function.{Function}
use Rattle.temp_machine.specs.Routines.{pushed_by}
use Rattle.naive_builder.specs.Appending.{fixed_in}
use Rattle.naive_expand.specs.Frames.{IsFrameOf}
use Rattle.naive_expand.specs.Codes.{IsMadeOf}
use Rattle.naive_expand.proofs.Codes.{some_function, checked_word, function_found, operations_are, are_doable, are_once, made_by}
use Rattle.naive_expand.proofs.functions.function_code.Goals as goal

pub code_of-requires-clause-doable : goal.code_of-requires-clause-doable
code_of-requires-clause-doable g c =
    let d = c.args.m.now in
    let m = fixed_in d c.args.rows.now in
    let f = c.index-functions-from.result in
    let p = c.pushed.ensures.bytes ∙ ap (λ k. pushed_by m.link (k / 8)) c.word_bits-bits.ensures.word in
    let found = function_found c.args.t.now.functions c.as_slice-functions.result.now c.args.number c.from.result f c.as_slice-functions.ensures c.from.ensures c.requires.number c.index-functions-from.is in
    let are = operations_are d m c.args.t.now f c.args.label c.pushed.result c.args.site.now c.in_ok-out.out p c.requires.site c.in_ok-out.ensures.operations in
    are_doable d m c.args.t.now c.args.number f c.args.label c.in_ok-out.out c.operations_fit.ensures c.word_bits-bits.ensures.size c.requires.tree found are

pub code_of-requires-clause-once : goal.code_of-requires-clause-once
code_of-requires-clause-once g c =
    let d = c.args.m.now in
    let m = fixed_in d c.args.rows.now in
    let f = c.index-functions-from.result in
    let p = c.pushed.ensures.bytes ∙ ap (λ k. pushed_by m.link (k / 8)) c.word_bits-bits.ensures.word in
    let are = operations_are d m c.args.t.now f c.args.label c.pushed.result c.args.site.now c.in_ok-out.out p c.requires.site c.in_ok-out.ensures.operations in
    are_once d m c.args.t.now f c.args.label c.in_ok-out.out c.labels_are_once.ensures are

pub returns-clause-code : goal.returns-clause-code
returns-clause-code g c = λ h is.
    let d = c.args.m.now in
    let m = fixed_in d c.args.rows.now in
    let f = c.index-functions-from.result in
    let p = c.pushed.ensures.bytes ∙ ap (λ k. pushed_by m.link (k / 8)) c.word_bits-bits.ensures.word in
    let found = function_found c.args.t.now.functions c.as_slice-functions.result.now c.args.number c.from.result f c.as_slice-functions.ensures c.from.ensures c.requires.number c.index-functions-from.is in
    let are = operations_are d m c.args.t.now f c.args.label c.pushed.result c.args.site.now c.in_ok-out.out p c.requires.site c.in_ok-out.ensures.operations in
    let params : c.in-Ok.params ≡ length f.params = omega (arith, c.in-Ok.ensures, c.len.ensures) in
    let frame = subst (λ (k : ℕ). IsFrameOf k f c.in_ok-frame.frame) (sym (checked_word g.W.Word.BITS d c.word_bits-bits.ensures.checked)) c.in_ok-frame.ensures in
    subst (λ (k : Function). IsMadeOf d m c.args.t.now c.args.number k c.args.label (record { code = c.in_ok-code.code; next_label = c.in_ok-out.out.next_label }))
    (some_function f h (sym found ∙ is))
    (made_by d m c.args.t.now c.args.number f c.args.label c.in-Ok.params c.in_ok-frame.frame c.in_ok-out.out c.in_ok-code.code params frame are
    c.in_ok-code.ensures.numbers c.in_ok-code.ensures.does c.in_ok-code.ensures.built)

pub returns-clause-site : goal.returns-clause-site
returns-clause-site g c = c.in_ok-out.ensures.site c.args.m.now.word c.args.t.now.statics c.requires.site
