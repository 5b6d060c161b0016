use Rattle.std.proofs.Common.{List, length, sym, subst, arith}
use Rattle.std.specs.List.{AllZip}
use Rattle.md_rows.specs.declared.description.RawDescription.{RawDescription}
use Rattle.asm_row.specs.Readable.{IsReadable}
use Rattle.asm_program.specs.TextLines.{Said}
use Rattle.asm_program.specs.Programs.{data_part, instructions, text_labels}
use Rattle.asm_instances.specs.Known.{IsBoundLine, IsNamedText}
use Rattle.asm_text.proofs.Standing.{have_labels}
use Rattle.asm_text.proofs.DataPart.{are_data}
use Rattle.asm_text.proofs.Whole.{is_text, same_many}
use Rattle.asm_text.proofs.Different.{are_apart, are_different}
use Rattle.asm_text.proofs.Placed.{are_standing}
use Rattle.asm_text.proofs.Assembling.{are_named, are_functions, are_within, same_length}
use Rattle.asm_text.proofs.program.program_of.Goals as goal

pub lines_of-requires-clause-readable : goal.lines_of-requires-clause-readable
lines_of-requires-clause-readable c = subst IsReadable (sym c.requires.rows) c.requires.readable

pub lines_of-requires-clause-text : goal.lines_of-requires-clause-text
lines_of-requires-clause-text c =
    let t = c.requires.text in (
      t.0,
      subst (λ (x : RawDescription). IsNamedText x c.in_ok-names.names c.args.text.now t.0) (sym c.requires.rows)
          (record { said = t.1; sound = t.2; labels = have_labels c.in_ok-names.names t.0 (c.in_ok-names.ensures t.0 (record { said = t.1; sound = t.2 })) }),
    )

pub data_of-requires-clause-lines : goal.data_of-requires-clause-lines
data_of-requires-clause-lines c =
    let t = c.requires.text in
    (data_part t.0, are_data c.args.d.now t.0 c.data_part.result.now t.2 (c.data_part.ensures t.0 t.1))

pub invariant_of-result : goal.invariant_of-result
invariant_of-result c =
    let t = c.requires.text in
    let made : (all : List Said) → IsNamedText c.args.d.now c.in_ok-names.names c.args.text.now all
    → AllZip (IsBoundLine c.args.d.now c.in_ok-names.names) (instructions all) c.in_ok-lines.lines.items =
    subst (λ (x : RawDescription). (all : List Said) → IsNamedText x c.in_ok-names.names c.args.text.now all
    → AllZip (IsBoundLine x c.in_ok-names.names) (instructions all) c.in_ok-lines.lines.items) c.requires.rows c.in_ok-lines.ensures in
    let names = c.in_ok-names.ensures t.0 (record { said = t.1; sound = t.2 }) in
    let labels = c.in_ok-labels.ensures t.0 (record { sound = record { said = t.1; sound = t.2 }; names = names }) in
    let lines = made t.0 (record { said = t.1; sound = t.2; labels = have_labels c.in_ok-names.names t.0 names }) in
    let read = c.in_ok-symbols.ensures (data_part t.0) (are_data c.args.d.now t.0 c.data_part.result.now t.2 (c.data_part.ensures t.0 t.1)) in
    record {
      named = are_named c.args.d.now c.in_ok-names.names (instructions t.0) c.in_ok-lines.lines.items lines;
      standing = are_standing c.args.d.now t.0 c.requires.readable t.2 c.in_ok-names.names c.len.ensures.names c.in_ok-labels.labels.items labels c.in_ok-lines.lines.items lines;
      addresses = same_many c.args.d.now t.0
          (record { lines = c.in_ok-lines.lines.items; labels = c.in_ok-labels.labels.items; symbols = c.in_ok-symbols.field-0.symbols.items; bytes = c.in_ok-symbols.field-0.bytes.items; names = c.in_ok-names.names })
          t.2 names read.1;
      apart = are_apart c.args.d.now t.0 c.in_ok-names.names t.2 names;
      different = are_different c.args.d.now t.0 c.in_ok-names.names c.in_ok-labels.labels.items t.2 labels;
      within = are_within c.in_ok-names.names (length c.in_ok-lines.lines.items) t.0 c.in_ok-labels.labels.items
          (let e = same_length c.args.d.now c.in_ok-names.names (instructions t.0) c.in_ok-lines.lines.items lines in omega (arith, e)) labels;
      functions = are_functions c.in_ok-names.names (text_labels 0 t.0) c.in_ok-labels.labels.items labels;
    }

pub returns : goal.returns
returns c =
    let t = c.requires.text in
    let made : (all : List Said) → IsNamedText c.args.d.now c.in_ok-names.names c.args.text.now all
    → AllZip (IsBoundLine c.args.d.now c.in_ok-names.names) (instructions all) c.in_ok-lines.lines.items =
    subst (λ (x : RawDescription). (all : List Said) → IsNamedText x c.in_ok-names.names c.args.text.now all
    → AllZip (IsBoundLine x c.in_ok-names.names) (instructions all) c.in_ok-lines.lines.items) c.requires.rows c.in_ok-lines.ensures in
    let names = c.in_ok-names.ensures t.0 (record { said = t.1; sound = t.2 }) in
    let read = c.in_ok-symbols.ensures (data_part t.0) (are_data c.args.d.now t.0 c.data_part.result.now t.2 (c.data_part.ensures t.0 t.1)) in
    is_text c.args.d.now c.args.text.now t.0
    (record { lines = c.in_ok-lines.lines.items; labels = c.in_ok-labels.labels.items; symbols = c.in_ok-symbols.field-0.symbols.items; bytes = c.in_ok-symbols.field-0.bytes.items; names = c.in_ok-names.names })
    t.1 t.2 names (c.in_ok-labels.ensures t.0 (record { sound = record { said = t.1; sound = t.2 }; names = names }))
    (made t.0 (record { said = t.1; sound = t.2; labels = have_labels c.in_ok-names.names t.0 names })) read.0 read.1
