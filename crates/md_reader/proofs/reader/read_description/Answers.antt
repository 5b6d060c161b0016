use Rattle.std.proofs.Common.{ap}
use Rattle.std.specs.declared.result.Result.TheVariants.{Err}
use Rattle.md_forms.specs.Seen.{declared_of}
use Rattle.md_reader.proofs.Whole.{accepted, told, refused}
use Rattle.md_reader.proofs.reader.read_description.Goals as goal

pub returns-in-Ok-described_or_told-clause-says : goal.returns-in-Ok-described_or_told-clause-says
returns-in-Ok-described_or_told-clause-says c =
    let d = declared_of c.in-Ok.declared in
    record {
      accepted = accepted c.args.text.now d c.in-Ok.ensures.found c.in-Ok.ensures.kept c.in-Ok-described_or_told.ensures.whole;
      declared = d;
      declares = c.in-Ok.ensures.found;
      same = c.in-Ok-described_or_told.ensures.same;
    }

pub returns-clause-told : goal.returns-clause-told
returns-clause-told c = λ reason e.
    let d = declared_of c.in-Ok.declared in
    let t = c.in-Err-Broken.told in
    let given = c.reason_of-in-Err-Broken in
    refused c.args.text.now t given.result reason
    (told c.args.text.now d t c.in-Ok.ensures.found c.in-Ok.ensures.kept (c.in-Err-Broken.ensures.broken t (ap Err c.in-Err-Broken.field-0-is)))
    given.ensures.line given.ensures.rule given.ensures.column given.ensures.detail e
