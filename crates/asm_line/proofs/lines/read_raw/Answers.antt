use Rattle.std.proofs.Common.{List, All, refl, sym, subst}
use Rattle.asm_row.specs.declared.values.Value.{Value as Held}
use Rattle.asm_row.specs.Reading.{AreValues}
use Rattle.asm_row.specs.Found.{values_of}
use Rattle.asm_line.specs.Answers.{AddsAll, HasNameValue}
use Rattle.asm_line.proofs.LineRead.{found_names, read_of, never_read}
use Rattle.asm_line.proofs.lines.read_raw.Goals as goal

pub returns-in_default-clause-read : goal.returns-in_default-clause-read
returns-in_default-clause-read c =
    record {
      tokens = c.if-not-are_tokens.ensures.0 refl;
      never = λ ts line instance. never_read c.args.d.now c.args.n.now ts c.requires.readable (c.in_default.ensures ts line) instance;
    }

pub bind_all-requires-clause-named : goal.bind_all-requires-clause-named
bind_all-requires-clause-named c =
    let line = c.if-not-are_tokens.ensures.0 refl in
    subst (λ (vs : List Held). All HasNameValue (values_of vs)) (sym c.as_slice.ensures.value)
    (found_names c.args.d.now line.0 c.in-Some.row (values_of c.in-Some.values.items) (c.in-Some.ensures line.0 line.1))

pub returns-in-Ok-clause-read : goal.returns-in-Ok-clause-read
returns-in-Ok-clause-read c =
    let line = c.if-not-are_tokens.ensures.0 refl in
    read_of c.args.d.now line.0 c.in-Some.row (values_of c.in-Some.values.items) (c.in-Some.ensures line.0 line.1) c.requires.readable c.args.n.now c.bind_all.new.n c.args.text.now _ line.1
    (subst (λ (vs : List Held). AddsAll (values_of vs) c.args.n.now c.bind_all.new.n) c.as_slice.ensures.value c.in-Ok.ensures.adds)
    (subst (λ (vs : List Held). AreValues c.bind_all.new.n c.in-Ok.binding (values_of vs)) c.as_slice.ensures.value c.in-Ok.ensures.bound)
    c.in-Ok.ensures.names.0 c.in-Ok.ensures.names.1

pub returns-in-Err-clause-read : goal.returns-in-Err-clause-read
returns-in-Err-clause-read c =
    let line = c.if-not-are_tokens.ensures.0 refl in
    record {
      tokens = line;
      row = record { place = c.in-Some.row; values = values_of c.in-Some.values.items; found = c.in-Some.ensures line.0 line.1 };
    }
