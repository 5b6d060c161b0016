use Rattle.std.proofs.Common.{◌≡◌, ◌++◌, length, map, subst}
use Rattle.temp_code.specs.declared.code.Code.{Code}
use Rattle.rtl_machine.specs.Loading.{moves_of}
use Rattle.link_lines.specs.Lines.{Writes, labels_of_code, labels_of_codes, lines_of_code, lines_of_codes}
use Rattle.link_lines.proofs.Coding.{code_lines_next, code_labels_next}
use Rattle.link_lines.proofs.codes.push_codes.Goals as goal

pub loop-code-preserved : goal.loop-code-preserved
loop-code-preserved g c =
    let m = c.args.m.now in
    let t = c.args.rows.now in
    let cs = c.args.codes.now in
    let first = c.args.written.now in
    let i = c.loop-code.code-index in
    let old = c.loop-code.written.lines.items in
    let new = c.push_code.new.written.lines.items in
    let written = subst (λ (x : Code). Writes m old new (lines_of_code m t x)) c.code-item.is c.in_ok-push_code.ensures.lines in
    let labelled =
    subst (λ (x : Code). c.push_code.new.written.labels.items ≡ c.loop-code.written.labels.items ++ labels_of_code m t (length old) x) c.code-item.is
    c.in_ok-push_code.ensures.labels in
    record {
      lines = code_lines_next m t cs i c.code-item.result c.loop-code-test.true old new (map (moves_of m) first.lines.items ++ lines_of_codes m t cs) written c.loop-code.invariant.lines;
      rows = λ all. written.rows (c.loop-code.invariant.rows all);
      labels =
          code_labels_next m t cs i c.code-item.result c.loop-code-test.true old new c.loop-code.written.labels.items
          c.push_code.new.written.labels.items (first.labels.items ++ labels_of_codes m t (length first.lines.items) cs) written labelled c.loop-code.invariant.labels;
    }
